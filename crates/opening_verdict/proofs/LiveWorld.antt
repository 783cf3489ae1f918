-- Where none of the first seven faults holds, the live stores read as a world, whose packages are seen as the judge
-- sees them; what the judge answers is then the answer of the stores.
use Rattle.std.specs.Prelude.{◌≡◌, ◌⊎◌, ℕ, zero, suc, ◌+◌, ◌<◌, ◌≤◌, ◌^◌, Bool, true}
use Rattle.std.specs.Prelude.{false, cond, ◌==◌, List, []}
use Rattle.std.specs.Prelude.{◌∷◌, map, filter, find, length, refl, Option, Some, None, option_map, slice_get}
use Rattle.std.specs.Prelude.{count_by, Contains}
use Rattle.std.proofs.Common.{sym, ap, subst, ◌∙◌, arith, inl, inr}
use Rattle.std.proofs.lemmas.Bool.{true≢false, true_from_ne_false}
use Rattle.std.proofs.lemmas.List.{length-map}
use Rattle.std.proofs.lemmas.Option.{slice_get_within}
use Rattle.std.specs.List.{list_any, AllZip, AllByRecursion}
use Rattle.std.specs.Option.{option_map_or, SomeIff}
use Rattle.sheet_types.specs.Answers.{sums_held}
use Rattle.sheet_types.specs.Balance.{Balanced}
use Rattle.sheet_types.specs.Custody.{ticket}
use Rattle.sheet_types.specs.Opening as model
use Rattle.sheet_types.specs.Opening.{Head, head_of}
use Rattle.sheet_types.specs.Ordered.{arranged, IsArranged}
use Rattle.sheet_types.specs.Refuse.{is_archive}
use Rattle.sheet_types.specs.World.{World, Package, package_key, receipts_of}
use Rattle.sheet_types.specs.declared.receipt.Receipt.{Receipt}
use Rattle.sheet_types.specs.declared.receipt.Sums.{Sums}
use Rattle.sheet_types.proofs.Basics.{None≢Some, some_once, some_same}
use Rattle.sheet_types.proofs.Every.{All-weaker}
use Rattle.sheet_types.proofs.Found.{found, All-found}
use Rattle.sheet_types.proofs.Order.{list_any-arranged}
use Rattle.sheet_types.proofs.Same.{In, In-all, All-In, In-map, In-of_map, In-filter, any_in, Contains-In}
use Rattle.sheet_types.proofs.Sums.{any_none}
use Rattle.sheet_laws.specs.Laws.{StoreSight, SeesItsPackage, StoresStandFor}
use Rattle.sheet_laws.proofs.Opened.{opened_is_register}
use Rattle.sheet_laws.proofs.Rounds.{grows}
use Rattle.sheet_balance.specs.Sights.{IsSightOf, AreSightsOf}
use Rattle.sheet_balance.specs.declared.sights.Sight.{Sight as PackageSight}
use Rattle.opening_faults.specs.Sights.{head_said, head_seen, is_live_store}
use Rattle.opening_faults.specs.declared.faults.RecoverFault.{RecoverFault}
use Rattle.opening_faults.specs.declared.faults.RecoverFault.TheVariants.{NoArchive, TwoArchives, NotAPackage}
use Rattle.opening_faults.specs.declared.faults.RecoverFault.TheVariants.{TwoCopies, MissingPackage, ForeignFrame}
use Rattle.opening_faults.specs.declared.faults.RecoverFault.TheVariants.{Dangling, OutOfAccount, Altered}
use Rattle.opening_faults.specs.declared.faults.RecoverFault.TheVariants.{OutOfMemory, StoreFault}
use Rattle.opening_faults.specs.declared.sights.Sight.{Sight}
use Rattle.opening_verdict.specs.Tickets.{last_naming}
use Rattle.opening_verdict.specs.Accounts.{sight_key, taken, IsWorldOf, IsInAccount, IsLastOf}
use Rattle.opening_verdict.specs.Checks.{flags_of, AreChecked}
use Rattle.opening_verdict.specs.Tallies.{TellsSums, IsKeptBy, IsKeptAt, AreKept, IsSomeUnkept}
use Rattle.opening_verdict.specs.Views.{is_live_view, live_views, AreInOrder, IsTooLarge, IsFaultOf, IsKept, IsKeptOf}
use Rattle.opening_verdict.specs.Views.{IsVerdictOf}
use Rattle.opening_verdict.specs.declared.verdict.Kept.{Kept}
use Rattle.opening_verdict.specs.declared.verdict.Verdict.{Verdict}
use Rattle.opening_verdict.proofs.Doubled.{no_parent, distinct}
use Rattle.opening_verdict.proofs.FirstFaults.{formed_of, tied_of, in_order}
use Rattle.opening_verdict.proofs.InAccount.{arranged_seen}
use Rattle.opening_verdict.proofs.Viewed.{Pair, sights_of, views_of, live_same, live_headed, mapped_at, mapped_from}
use Rattle.opening_verdict.proofs.Viewed.{at_place, taken_from}

-- ---- lists

every : {X : Type 0} (P : X → Type 0) → ((x : X) → P x) → (xs : List X) → AllByRecursion P xs
every P f [] = tt
every P f (x ∷ xs) = (f x, every P f xs)

zip_by_places : {A B : Type 0} (R : A → B → Type 0) (xs : List A) (ys : List B) → length xs ≡ length ys
    → ((k : ℕ) (x : A) (y : B) → slice_get xs k ≡ Some x → slice_get ys k ≡ Some y → R x y)
    → AllZip R xs ys
zip_by_places R [] [] long f = tt
zip_by_places R [] (y ∷ ys) long f = absurd (omega (arith, long))
zip_by_places R (x ∷ xs) [] long f = absurd (omega (arith, long))
zip_by_places R (x ∷ xs) (y ∷ ys) long f = (
  f 0 x y refl refl,
  zip_by_places R xs ys (omega (arith, long))
      (λ k a b at_a at_b. f (suc k) a b at_a at_b),
)

zip_at : {A B : Type 0} (R : A → B → Type 0) (xs : List A) (ys : List B) (k : ℕ) (x : A) → AllZip R xs ys
    → slice_get xs k ≡ Some x → (y : B) × (slice_get ys k ≡ Some y) × R x y
zip_at R [] ys k x zip at = absurd (None≢Some at)
zip_at R (a ∷ xs) [] k x zip at = absurd zip
zip_at R (a ∷ xs) (b ∷ ys) zero x zip at = (b, refl, subst (λ z. R z b) (some_same at) zip.0)
zip_at R (a ∷ xs) (b ∷ ys) (suc k) x zip at = zip_at R xs ys k x zip.1 at

length_mapped : {X Y Z : Type 0} (f : X → Y) (g : X → Z) (xs : List X) → length (map f xs) ≡ length (map g xs)
length_mapped f g [] = refl
length_mapped f g (x ∷ xs) = ap suc (length_mapped f g xs)

-- those whose flags are up are seen as the packages of the live stores
taken_seen : (t : Sight → Bool) (u : StoreSight → Bool) → ((p : Pair) → t p.seen.sight ≡ u p.view)
    → (qs : List Pair)
    → AllByRecursion (λ p. u p.view ≡ true → IsSightOf p.seen.held p.view.reads_as) qs
    → AreSightsOf (taken (map t (map (λ p. p.seen.sight) qs)) (map (λ p. p.seen.held) qs))
    (map (λ v. v.reads_as) (filter u (map (λ p. p.view) qs)))
taken_seen t u same [] h = tt
taken_seen t u same (q ∷ qs) h =
    let more = taken_seen t u same qs h.1 in
    let Seen : Bool → Bool → Type 0 = λ b d. AreSightsOf (cond b
    (q.seen.held ∷ taken (map t (map (λ p. p.seen.sight) qs)) (map (λ p. p.seen.held) qs))
    (taken (map t (map (λ p. p.seen.sight) qs)) (map (λ p. p.seen.held) qs)))
    (map (λ v. v.reads_as) (cond d (q.view ∷ filter u (map (λ p. p.view) qs))
    (filter u (map (λ p. p.view) qs)))) in
    subst (λ b. Seen b (u q.view)) (sym (same q)) (elim (u q.view) as (λ d. u q.view ≡ d → Seen d d)
    [ true ↦ λ e. (h.0 e, more) | false ↦ λ e. more ] refl)

module _ (ps : List Pair) (checked : AreChecked (sights_of ps) (formed_of ps) (tied_of ps)) where
  pub order : AreInOrder (views_of ps)
  order = in_order ps checked

  readings : AllByRecursion SeesItsPackage (views_of ps)
  readings = every_view ps
    where
      every_view : (qs : List Pair) → AllByRecursion SeesItsPackage (map (λ p. p.view) qs)
      every_view [] = tt
      every_view (q ∷ qs) = (q.is.reading, every_view qs)

  -- ---- the archive's store

  abbrev rooted : StoreSight → Bool
  rooted = model.is_root StoreSight (λ v. v.head) (λ v. v.claims) (λ v. v.is_formed ≡ true)
      (λ v. v.is_tied ≡ true)
      (λ v. v.frame) (λ v. v.reads_as)

  pub root_found : (root : StoreSight) × (find rooted (views_of ps) ≡ Some root)
  root_found = found rooted (views_of ps) (true_from_ne_false (list_any rooted (views_of ps))
      (λ none. omega (arith, any_none rooted (views_of ps) none, order.one_archive)))

  abbrev pub root : StoreSight
  root = root_found.0

  pub root_is : find rooted (views_of ps) ≡ Some root
  root_is = root_found.1

  abbrev pub world : World
  world = model.world_read StoreSight (λ v. v.head) (λ v. v.claims) (λ v. v.is_formed ≡ true)
      (λ v. v.is_tied ≡ true)
      (λ v. v.frame) (λ v. v.reads_as) (views_of ps) root

  root_in : In root (views_of ps) × (rooted root ≡ true)
  root_in = All-found (λ v. In v (views_of ps)) rooted root (views_of ps) root_is (In-all (views_of ps))

  root_live : In root (live_views (views_of ps))
  root_live = In-filter (is_live_view (views_of ps)) root (views_of ps) root_in.0
      (grows StoreSight (λ v. v.head) (λ v. v.claims) (λ v. v.is_formed ≡ true) (λ v. v.is_tied ≡ true)
      (λ v. v.frame)
      (λ v. v.reads_as) (views_of ps) 0 (length (views_of ps)) root (omega arith) root_in.1)

  -- ---- a live store reads as a package

  formed_tied : (v : StoreSight) → In v (live_views (views_of ps)) → (v.is_formed ≡ true) × (v.is_tied ≡ true)
  formed_tied v i = (
    All-In (λ x. x.is_formed ≡ true) v (live_views (views_of ps)) order.formed i,
    All-In
        (λ x. x.is_tied ≡ true) v (live_views (views_of ps)) order.tied i,
  )

  live_in : (p : Pair) → In p ps → is_live_view (views_of ps) p.view ≡ true
      → In p.view (live_views (views_of ps))
  live_in p i live = In-filter (is_live_view (views_of ps)) p.view (views_of ps) (In-map (λ q. q.view) p ps i) live

  held_of : (p : Pair) → In p ps → is_live_view (views_of ps) p.view ≡ true
      → IsSightOf p.seen.held p.view.reads_as
  held_of p i live = let both = formed_tied p.view (live_in p i live) in p.is.held both.0 both.1

  heads_of : (p : Pair) → In p ps → is_live_view (views_of ps) p.view ≡ true
      → p.view.head ≡ Some (head_of p.view.reads_as)
  heads_of p i live = let both = formed_tied p.view (live_in p i live) in (p.is.reading both.0 both.1).heads

  root_archive : is_archive root.reads_as ≡ true
  root_archive =
      let both = formed_tied root root_live in
      let reading = All-In SeesItsPackage root (views_of ps) readings root_in.0 both.0 both.1 in
      no_parent root.reads_as.parent root.reads_as.depth root.reads_as.loan reading.level
      ∙ sym (ap (λ o. option_map_or (λ h. h.depth == 0) o false) reading.heads) ∙ root_in.1

  -- ---- the world is seen so

  pub is_world : IsWorldOf (arranged sight_key (taken (flags_of (sights_of ps)) (map (λ p. p.seen.held) ps))) world
  is_world = record {
    packages = arranged_seen (taken (flags_of (sights_of ps)) (map (λ p. p.seen.held) ps))
        (map (λ v. v.reads_as) (live_views (views_of ps)))
        (taken_seen (is_live_store (sights_of ps)) (is_live_view (views_of ps)) (live_same ps) ps
        (All-weaker (λ p. In p ps) (λ p. is_live_view (views_of ps) p.view ≡ true
        → IsSightOf p.seen.held p.view.reads_as) held_of ps (In-all ps)));
    archive = list_any-arranged package_key is_archive (map (λ v. v.reads_as) (live_views (views_of ps)))
        ∙ any_in is_archive root.reads_as (map (λ v. v.reads_as) (live_views (views_of ps)))
        (In-map (λ v. v.reads_as) root (live_views (views_of ps)) root_live) root_archive;
  }

  one_of_each : Balanced world → IsArranged package_key world.packages
  one_of_each balanced = distinct StoreSight (λ v. v.head) (λ v. v.claims) (λ v. v.is_formed ≡ true)
      (λ v. v.is_tied ≡ true) (λ v. v.frame) (λ v. v.reads_as) (views_of ps) order root root_is balanced readings

  pub last_fault : (f : RecoverFault) → IsLastOf world f → IsFaultOf (views_of ps) f
  last_fault NoArchive h = absurd h
  last_fault TwoArchives h = absurd h
  last_fault (NotAPackage id) h = absurd h
  last_fault (TwoCopies id) h = absurd h
  last_fault (MissingPackage id) h = absurd h
  last_fault (ForeignFrame id) h = absurd h
  last_fault (Dangling id) h = absurd h
  last_fault OutOfAccount h = (
    order,
    (
      root,
      root_is,
      λ balanced. elim h
          [ inl apart ↦ apart (one_of_each balanced) | inr off ↦ off balanced ],
    ),
  )
  last_fault (Altered id) h = (
    order,
    (λ off. off.2 (subst (λ r. Balanced (model.world_read StoreSight (λ v. v.head) (λ v. v.claims)
        (λ v. v.is_formed ≡ true) (λ v. v.is_tied ≡ true) (λ v. v.frame) (λ v. v.reads_as) (views_of ps) r))
        (some_once (find rooted (views_of ps)) root off.0 root_is off.1) h.0)),
    (root, root_is, h.1),
  )
  last_fault OutOfMemory h = tt
  last_fault StoreFault h = absurd h

  -- ---- what is kept

  module _ (sums : List (Option Sums)) (told : AllZip TellsSums (map (λ p. p.seen.held) ps) sums) where
    pub too_large : IsSomeUnkept (flags_of (sights_of ps)) sums → IsTooLarge (views_of ps)
    too_large (k, lives, none) =
        let s : (s : Sight) × (slice_get (sights_of ps) k ≡ Some s) × (is_live_store (sights_of ps) s ≡ true) =
        mapped_from (is_live_store (sights_of ps)) (sights_of ps) k true lives in
        let p : (p : Pair) × (slice_get ps k ≡ Some p) × (p.seen.sight ≡ s.0) =
        mapped_from (λ p. p.seen.sight) ps k s.0 s.1 in
        let live : is_live_view (views_of ps) p.0.view ≡ true =
        sym (live_same ps p.0) ∙ ap (is_live_store (sights_of ps)) p.2 ∙ s.2 in
        let there : In p.0 ps = at_place ps k p.0 p.1 in
        let o : (o : Option Sums) × (slice_get sums k ≡ Some o) × TellsSums p.0.seen.held o =
        zip_at TellsSums (map (λ q. q.seen.held) ps) sums k p.0.seen.held told
        (mapped_at (λ q. q.seen.held) ps k p.0 p.1) in
        let large : SomeIff None ((sums_held p.0.view.reads_as).bytes < 2 ^ 64) (sums_held p.0.view.reads_as) =
        subst (λ x. SomeIff x ((sums_held p.0.view.reads_as).bytes < 2 ^ 64) (sums_held p.0.view.reads_as))
        (some_once (slice_get sums k) o.0 None o.1 none) (o.2 p.0.view.reads_as (held_of p.0 there live)) in (
          p.0.view,
          Contains-In p.0.view (live_views (views_of ps)) (live_in p.0 there live),
          not_less
              (sums_held p.0.view.reads_as).bytes (2 ^ 64) large,
        )
      where
        not_less : (a b : ℕ) → (a < b → ⊥) → b ≤ a
        not_less a b f = grind (arith, f)

    module _ (ledger : List Receipt) (account : IsInAccount ledger world) (kept : List (Option Kept))
        (are : AreKept ledger (map (λ s. s.head) (sights_of ps)) (flags_of (sights_of ps)) sums kept) where
      one_kept : (p : Pair) → In p ps → (o : Option Sums) → TellsSums p.seen.held o → (k : Option Kept)
          → IsKeptAt ledger p.seen.sight.head (is_live_store (sights_of ps) p.seen.sight) o k
          → IsKeptOf (views_of ps) world k p.view
      one_kept p i o tells None is = not_live (is_live_view (views_of ps) p.view) (λ live.
          let h : (h : Head) × (p.view.head ≡ Some h) = live_headed (views_of ps) p.view live in
          None≢Some (sym (ap (option_map head_said) (is (live_same ps p ∙ live))) ∙ p.is.head ∙ h.1))
        where
          not_live : (b : Bool) → (b ≡ true → ⊥) → b ≡ false
          not_live true f = absurd (f refl)
          not_live false f = refl
      one_kept p i o tells (Some k) is =
          let live : is_live_view (views_of ps) p.view ≡ true = sym (live_same ps p) ∙ is.0 in
          let head_is : head_said k.head ≡ head_of p.view.reads_as =
          some_same (sym (ap (option_map head_said) is.1) ∙ p.is.head ∙ heads_of p i live) in
          let sums_are : SomeIff (Some k.sums) ((sums_held p.view.reads_as).bytes < 2 ^ 64)
          (sums_held p.view.reads_as) =
          subst (λ x. SomeIff x ((sums_held p.view.reads_as).bytes < 2 ^ 64) (sums_held p.view.reads_as))
          is.2.sums_are (tells p.view.reads_as (held_of p i live)) in
          record {
            live = live;
            head = head_is;
            sums = sums_are.1;
            ticket_is = is.2.ticket_is ∙ ap (λ u. last_naming u ledger) (ap (λ h. h.uuid) head_is)
                ∙ ap (last_naming p.view.reads_as.uuid) account.whole;
          }

      all_kept : AllZip (IsKeptOf (views_of ps) world) kept (views_of ps)
      all_kept = zip_by_places (IsKeptOf (views_of ps) world) kept (views_of ps)
          (are.long ∙ length-map (sights_of ps) (λ s. s.head)
          ∙ length_mapped (λ p. p.seen.sight) (λ p. p.view) ps) (λ k x v at_x at_v.
          let p : (p : Pair) × (slice_get ps k ≡ Some p) × (p.view ≡ v) =
          mapped_from (λ p. p.view) ps k v at_v in
          let o : (o : Option Sums) × (slice_get sums k ≡ Some o) × TellsSums p.0.seen.held o =
          zip_at TellsSums (map (λ q. q.seen.held) ps) sums k p.0.seen.held told
          (mapped_at (λ q. q.seen.held) ps k p.0 p.1) in
          let sight_at : slice_get (sights_of ps) k ≡ Some p.0.seen.sight =
          mapped_at (λ q. q.seen.sight) ps k p.0 p.1 in
          subst (IsKeptOf (views_of ps) world x) p.2 (one_kept p.0 (at_place ps k p.0 p.1) o.0 o.2 x
          (are.each k p.0.seen.sight.head (is_live_store (sights_of ps) p.0.seen.sight) o.0 x
          (mapped_at (λ s. s.head) (sights_of ps) k p.0.seen.sight sight_at)
          (mapped_at (is_live_store (sights_of ps)) (sights_of ps) k p.0.seen.sight sight_at) o.1 at_x)))

      stands : StoresStandFor (views_of ps) world
      stands = record {
        in_order = order;
        read_as = (root, root_is, refl);
        balanced = account.balanced;
        unaltered = account.unaltered;
      }

      pub verdict_of : (verdict : Verdict) → verdict.kept.items ≡ kept → verdict.count ≡ length ledger
          → IsVerdictOf verdict (views_of ps)
      verdict_of verdict same count = record {
        world = world;
        stands = stands;
        register = opened_is_register StoreSight (λ v. v.head) (λ v. v.claims) (λ v. v.is_formed ≡ true)
            (λ v. v.is_tied ≡ true) (λ v. v.frame) (λ v. v.reads_as) (views_of ps) world stands readings;
        kept = subst (λ ks. AllZip (IsKeptOf (views_of ps) world) ks (views_of ps)) (sym same) all_kept;
        counted = count ∙ ap length account.whole;
      }
