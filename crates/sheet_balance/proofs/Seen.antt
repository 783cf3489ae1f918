-- What is seen of a world's packages is what they are.
use Rattle.std.specs.Prelude.{◌≡◌, ◌↔◌, ◌||◌, ◌<◌, ⊤, ℕ, suc, Bool, true, false, cond, List}
use Rattle.std.specs.Prelude.{[], ◌∷◌, ◌++◌, length, take, map, refl, find, Option, Some, None, is_none}
use Rattle.std.specs.Option.{MatchOption, option_map, option_map_or}
use Rattle.std.proofs.Common.{sym, ap, ◌∙◌, drop, get_or}
use Rattle.std.proofs.lemmas.Bool.{true≢false}
use Rattle.std.specs.List.{list_any, AllByRecursion, AllZip}
use Rattle.sheet_types.specs.Refuse.{is_archive}
use Rattle.sheet_types.specs.World.{World, Package}
use Rattle.sheet_types.specs.Balance.{archive_of}
use Rattle.sheet_ledger.proofs.Walking.{all_around}
use Rattle.sheet_balance.specs.declared.holders.Holder.{Holder}
use Rattle.sheet_balance.specs.declared.sights.Sight.{Sight}
use Rattle.sheet_balance.specs.Holders.{IsHolderOf, IsHeld, IsRestOf, archive_seen}
use Rattle.sheet_balance.specs.Sights.{IsSightOf, IsSeen}
use Rattle.sheet_balance.proofs.Each.{zip_on}

-- ---- the first that passes

-- none of these passes, and the next does
pub first_is : {X : Type 0} (t : X → Bool) (xs : List X) (x : X) (ys : List X)
    → AllByRecursion (λ y. t y ≡ false) xs → t x ≡ true → find t (xs ++ x ∷ ys) ≡ Some x
first_is t [] x ys h e = ap (λ b. cond b (Some x) (find t ys)) e
first_is t (y ∷ xs) x ys h e = ap (λ b. cond b (Some y) (find t (xs ++ x ∷ ys))) h.0 ∙ first_is t xs x ys h.1 e

pub first_at : {X : Type 0} (t : X → Bool) (xs : List X) (i : ℕ) (x : X) → i < length xs → x ≡ get_or xs i x
    → AllByRecursion (λ y. t y ≡ false) (take i xs) → t x ≡ true → find t xs ≡ Some x
first_at t xs i x lt is h e = ap (find t) (all_around xs i x lt is) ∙ first_is t (take i xs) x (drop (suc i) xs) h e

pub first_none : {X : Type 0} (t : X → Bool) (xs : List X) → AllByRecursion (λ y. t y ≡ false) xs
    → find t xs ≡ None
first_none t [] h = refl
first_none t (x ∷ xs) h = ap (λ b. cond b (Some x) (find t xs)) h.0 ∙ first_none t xs h.1

-- what the first that passes says is what the first that passes of those beside says
found_seen : {X Y Z : Type 0} (R : X → Y → Type 0) (t : X → Bool) (u : Y → Bool) (f : X → Z) (g : Y → Z)
    → ((x : X) (y : Y) → R x y → t x ≡ u y) → ((x : X) (y : Y) → R x y → f x ≡ g y)
    → (xs : List X) (ys : List Y) → AllZip R xs ys → option_map f (find t xs) ≡ option_map g (find u ys)
found_seen R t u f g same says [] [] h = refl
found_seen R t u f g same says [] (y ∷ ys) h = absurd h
found_seen R t u f g same says (x ∷ xs) [] h = absurd h
found_seen R t u f g same says (x ∷ xs) (y ∷ ys) h =
    ap (λ b. option_map f (cond b (Some x) (find t xs))) (same x y h.0)
    ∙ elim (u y) as (λ b. option_map f (cond b (Some x) (find t xs))
    ≡ option_map g (cond b (Some y) (find u ys))) [
      | true ↦ ap (λ z. Some z) (says x y h.0)
      | false ↦ found_seen R t u f g same says xs ys h.1
    ]

-- ---- the archive

of_found : (o : Option Package) → MatchOption o ⊥ (λ _. ⊤) → option_map (λ p. p.uuid) o
    ≡ Some (option_map_or (λ p. p.uuid) o [])
of_found None h = absurd h
of_found (Some p) h = refl

any_found : (ps : List Package) → list_any is_archive ps ≡ true → MatchOption (find is_archive ps) ⊥ (λ _. ⊤)
any_found [] h = true≢false (sym h)
any_found (p ∷ ps) h = elim (is_archive p) as (λ b. (b || list_any is_archive ps) ≡ true
    → MatchOption (cond b (Some p) (find is_archive ps)) ⊥ (λ _. ⊤))
    [ true ↦ λ _. tt | false ↦ λ e. any_found ps e ] h

pub seen_archive : (hs : List Holder) (w : World) → IsHeld hs w → archive_seen hs ≡ Some (archive_of w)
seen_archive hs w h =
    found_seen IsHolderOf (λ x. is_none x.parent) is_archive (λ x. x.uuid) (λ p. p.uuid)
    (λ x p k. ap is_none k.parent) (λ x p k. k.uuid) hs w.packages h.packages
    ∙ of_found (find is_archive w.packages) (any_found w.packages h.archive)

-- ---- answers

-- an answer to one question answers another that has the same answer
pub same_answer : {A B C : Type 0} → A ↔ B → B ↔ C → A ↔ C
same_answer f g = ((λ a. g.0 (f.0 a)), (λ c. f.1 (g.1 c)))

-- ---- without receipts

-- what is left of the sights of a world's packages are their holders
pub rests_held : (hs : List Holder) (ss : List Sight) (w : World) → AllZip IsRestOf hs ss → IsSeen ss w
    → IsHeld hs w
rests_held hs ss w rests h = record {
  packages = zip_on IsRestOf IsSightOf IsHolderOf one hs ss w.packages rests h.packages;
  in_order = h.in_order;
  archive = h.archive;
}
  where
    one : (x : Holder) (s : Sight) (p : Package) → IsRestOf x s → IsSightOf s p → IsHolderOf x p
    one x s p k j = record {
      uuid = k.uuid ∙ j.uuid;
      parent = k.parent ∙ j.parent;
      loan = k.loan ∙ j.loan;
      items = k.items ∙ j.items;
      links = k.links ∙ j.links;
      numbers = k.numbers ∙ ap (map (λ r. r.seq)) j.receipts;
    }
