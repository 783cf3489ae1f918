-- Why a merge is refused by its texts and by what is kept of the members.
use Rattle.std.proofs.Common.{◌≡◌, refl, sym, ap, subst, ◌∙◌, ℕ, zero, suc, ℤ, pos, List, []}
use Rattle.std.proofs.Common.{◌∷◌, Bool, true, false}
use Rattle.std.proofs.Common.{cond, take, slice_get, Option, Some, None, bytes_eq, map}
use Rattle.std.specs.Prelude.{not, ◌||◌, is_some, unwrap_or, option_map, filter, find}
use Rattle.std.specs.List.{list_any, AllByRecursion, AllZip}
use Rattle.std.specs.Option.{option_or}
use Rattle.std.proofs.lemmas.Bool.{true≢false, or_parts}
use Rattle.std.proofs.lemmas.Slice.Eq.{bytes_eq-Decides}
use Rattle.sqlite.specs.Store.{Ghosts}
use Rattle.sheet_types.specs.Custody.{ticket, ends_at}
use Rattle.sheet_types.specs.Matrix.{first_row, is_within}
use Rattle.sheet_types.specs.Ordered.{arranged, least, IsArranged, is_before}
use Rattle.sheet_types.specs.Refuse.{loan_open}
use Rattle.sheet_types.specs.World.{World, Package, package_key, no_package, is_live, holdings}
use Rattle.sheet_types.specs.declared.command.Command.TheVariants.{Merge}
use Rattle.sheet_types.specs.declared.command.Request.{Request}
use Rattle.sheet_types.specs.declared.refusal.Refusal.{Refusal}
use Rattle.sheet_types.specs.declared.refusal.Refusal.TheVariants.{Foreign, Stale, LoanOpen}
use Rattle.sheet_types.proofs.Every.{All-each}
use Rattle.sheet_types.proofs.Order.{filter_arranged}
use Rattle.sheet_laws.proofs.Packages.{at_all}
use Rattle.world_decisions.specs.DecidingMerges.{kept_reasons, refusal_by_kept, first_loan}
use Rattle.world_members.specs.Members.{IsMember, AreMembers}
use Rattle.world_members.specs.Reasons.{text_reasons}
use Rattle.world_members.specs.declared.members.Member.{Member}
use Rattle.world_loans.proofs.Listing.{arranged_itself}
use Rattle.world_decisions.proofs.MergeLimits.{not_its_own}
use Rattle.world_members.proofs.Standing.{zip_at}

-- ---- the least loan is the first

-- the keys of a list in their order
keys_arranged : {X : Type 0} (key : X → List ℕ) (xs : List X) → IsArranged key xs
    → IsArranged (λ k. k) (map key xs)
keys_arranged key [] h = tt
keys_arranged {X} key (x ∷ xs) h = (each xs h.0, keys_arranged key xs h.1)
  where
    each : (ys : List X) → AllByRecursion (λ y. is_before (key x) (key y) ≡ true) ys
        → AllByRecursion (λ k. is_before (key x) k ≡ true) (map key ys)
    each [] all = tt
    each (y ∷ ys) all = (all.0, each ys all.1)

-- the first of those that pass
first_taken : {X : Type 0} (key : X → List ℕ) (t : X → Bool) (xs : List X)
    → find (λ _. true) (map key (filter t xs)) ≡ option_map key (find t xs)
first_taken key t [] = refl
first_taken key t (x ∷ xs) = elim (t x) as (λ v. find (λ _. true)
    (map key (cond v (x ∷ filter t xs) (filter t xs)))
    ≡ option_map key (cond v (Some x) (find t xs))) [ true ↦ refl | false ↦ first_taken key t xs ]

least_is_first : (t : Package → Bool) (ps : List Package) → IsArranged package_key ps
    → least (map (λ x. x.uuid) (filter t ps)) ≡ option_map (λ x. x.uuid) (find t ps)
least_is_first t ps order =
    ap (find (λ _. true)) (arranged_itself (λ k. k) (map package_key (filter t ps))
    (keys_arranged package_key (filter t ps) (filter_arranged package_key t ps order)))
    ∙ first_taken package_key t ps

-- what is found is the same of both, place by place
find_zip : {X Y Z : Type 0} (R : X → Y → Type 0) (p : X → Bool) (q : Y → Bool) (f : X → Z) (h : Y → Z)
    → ((x : X) (y : Y) → R x y → (p x ≡ q y) × (f x ≡ h y)) → (xs : List X) (ys : List Y)
    → AllZip R xs ys
    → option_map f (find p xs) ≡ option_map h (find q ys)
find_zip R p q f h so [] [] zip = refl
find_zip R p q f h so [] (y ∷ ys) zip = absurd zip
find_zip R p q f h so (x ∷ xs) [] zip = absurd zip
find_zip R p q f h so (x ∷ xs) (y ∷ ys) zip =
    let same = so x y zip.0 in
    ap (λ b. option_map f (cond b (Some x) (find p xs))) same.0
    ∙ each (q y) same.1 (find_zip R p q f h so xs ys zip.1)
  where
    each : (b : Bool) → f x ≡ h y → option_map f (find p xs) ≡ option_map h (find q ys)
        → option_map f (cond b (Some x) (find p xs)) ≡ option_map h (cond b (Some y) (find q ys))
    each true e rest = ap Some e
    each false e rest = rest

-- ---- by its texts

pub kept_by_text : (w : World) (q : Request) (texts : Option Refusal) (why : Refusal)
    → texts ≡ first_row (text_reasons q) → texts ≡ Some why → Some why ≡ refusal_by_kept w q
kept_by_text w q texts why told some = ap (λ o. option_or o (first_row (kept_reasons w q.command))) (sym some ∙ told)

-- a package that is not its own parent's
pub not_same : (child into : List ℕ) (other : Bool) → (bytes_eq child into || other) ≡ false → child ≡ into
    → ⊥
not_same child into other none same = true≢false (sym ((bytes_eq-Decides child into).1 same)
    ∙ (or_parts (bytes_eq child into) other none).0)

-- ---- what the members tell

module _ {S : Type 0} (g : Ghosts S) (members : List (Member S)) (w : World) (count : ℕ)
    (are : AreMembers g members count w) (child : List ℕ) where
  open_told : first_loan members child ≡ least (map (λ x. x.uuid) (filter (λ x. ends_at x.parent child) w.packages))
  open_told =
      find_zip (IsMember g w) (λ (m : Member S). ends_at m.parent child) (λ p. ends_at p.parent child)
      (λ (m : Member S). m.uuid) (λ p. p.uuid) (λ m p is. (ap (λ o. ends_at o child) is.parent, is.uuid)) members
      w.packages are.each
      ∙ sym (least_is_first (λ p. ends_at p.parent child) w.packages are.register.arranged)

  module _ (from : ℕ) (was : Member S) (place : slice_get members from ≡ Some was) (live : is_live w child ≡ true)
      (there : slice_get w.packages from ≡ Some (holdings w child)) (into : List ℕ) (number : ℤ) (q : Request)
      (is : q.command ≡ Merge child into number) where
    of_child : IsMember g w was (holdings w child)
    of_child =
        let here = zip_at (IsMember g w) members w.packages from was are.each place in
        subst (IsMember g w was) (ap (λ o. unwrap_or o no_package) (sym here.1 ∙ there)) here.2

    abbrev is_other : Bool
    is_other = bytes_eq child into || not (ends_at was.parent into)

    abbrev is_it : Bool
    is_it = is_within number number (pos was.ticket)

    other_told : is_other ≡ not (ends_at (holdings w child).parent into)
    other_told =
        ap (λ o. bytes_eq child into || not (ends_at o into)) of_child.parent
        ∙ elim (bytes_eq child into) as (λ v. bytes_eq child into ≡ v
        → (v || not (ends_at (holdings w child).parent into)) ≡ not (ends_at (holdings w child).parent into)) [
          | true ↦ λ same. sym (ap (λ u. not (ends_at (holdings w child).parent u))
              (sym ((bytes_eq-Decides child into).0 same)) ∙ ap not (not_its_own w child are.register live))
          | false ↦ λ _. refl
        ] refl

    ticket_told : was.ticket ≡ ticket w child
    ticket_told = of_child.ticket ∙ ap (ticket w) (at_all w (λ _. Unit {0}) child
        (All-each (λ _. Unit {0}) (λ _. tt) w.packages) live).1

    rows_told : cond is_other (Some Foreign) (cond (not is_it) (Some (Stale was.ticket))
        (option_map LoanOpen (first_loan members child))) ≡ first_row (kept_reasons w q.command)
    rows_told =
        ap (λ b. cond b (Some Foreign) (cond (not is_it) (Some (Stale was.ticket))
        (option_map LoanOpen (first_loan members child)))) other_told
        ∙ ap (λ n. cond (not (ends_at (holdings w child).parent into)) (Some Foreign)
        (cond (not (is_within number number (pos n))) (Some (Stale n))
        (option_map LoanOpen (first_loan members child)))) ticket_told
        ∙ ap (λ o. cond (not (ends_at (holdings w child).parent into)) (Some Foreign)
        (cond (not (is_within number number (pos (ticket w child)))) (Some (Stale (ticket w child))) o))
        (ap (option_map LoanOpen) open_told ∙ last (loan_open w (Merge child into number)))
        ∙ ap (λ c. first_row (kept_reasons w c)) (sym is)
      where
        last : (o : Option (List ℕ)) → option_map LoanOpen o
            ≡ first_row ((is_some o, LoanOpen (unwrap_or o [])) ∷ [])
        last None = refl
        last (Some x) = refl

    module _ (texts : Option Refusal) (told : texts ≡ first_row (text_reasons q)) where
      after_text : texts ≡ None → first_row (kept_reasons w q.command) ≡ refusal_by_kept w q
      after_text none = ap (λ o. option_or o (first_row (kept_reasons w q.command))) (sym none ∙ told)

      pub kept_foreign : texts ≡ None → is_other ≡ true → Some Foreign ≡ refusal_by_kept w q
      kept_foreign none other = ap (λ b. cond b (Some Foreign)
          (cond (not is_it) (Some (Stale was.ticket)) (option_map LoanOpen (first_loan members child)))) (sym other)
          ∙ rows_told ∙ after_text none

      pub kept_stale : texts ≡ None → is_other ≡ false → is_it ≡ false
          → Some (Stale was.ticket) ≡ refusal_by_kept w q
      kept_stale none own stale =
          ap (λ b. cond (not b) (Some (Stale was.ticket)) (option_map LoanOpen (first_loan members child))) (sym stale)
          ∙ ap (λ b. cond b (Some Foreign) (cond (not is_it) (Some (Stale was.ticket))
          (option_map LoanOpen (first_loan members child)))) (sym own) ∙ rows_told ∙ after_text none

      pub kept_open : texts ≡ None → is_other ≡ false → is_it ≡ true → (loan : Option (List ℕ))
          → loan ≡ first_loan members child → option_map LoanOpen loan ≡ refusal_by_kept w q
      kept_open none own fresh loan is_loan =
          ap (option_map LoanOpen) is_loan
          ∙ ap (λ b. cond (not b) (Some (Stale was.ticket)) (option_map LoanOpen (first_loan members child)))
          (sym fresh)
          ∙ ap (λ b. cond b (Some Foreign) (cond (not is_it) (Some (Stale was.ticket))
          (option_map LoanOpen (first_loan members child)))) (sym own) ∙ rows_told ∙ after_text none

-- ---- the first that passes

pub none_before : {X : Type 0} (p : X → Bool) (xs : List X) (n : ℕ) (x : X) → list_any p (take n xs) ≡ false
    → slice_get xs n ≡ Some x → p x ≡ true → find p xs ≡ Some x
none_before p [] n x none there passes = absurd (let e = there in cc)
none_before p (y ∷ ys) zero x none there passes = let same : y ≡ x =
    cc in ap (λ b. cond b (Some y) (find p ys)) (ap p same ∙ passes) ∙ ap Some same
none_before p (y ∷ ys) (suc n) x none there passes =
    let parts = or_parts (p y) (list_any p (take n ys)) none in
    ap (λ b. cond b (Some y) (find p ys)) parts.0 ∙ none_before p ys n x parts.1 there passes
