-- A cut tears no link: what is taken has both ends taken, and what is left has both ends left.
use Rattle.std.specs.Prelude.{◌≡◌, ℕ, Bool, true, false, cond, not, ◌&&◌, ◌||◌, List, [], ◌∷◌}
use Rattle.std.specs.Prelude.{map, filter, find, refl, bytes_eq, Some, is_some}
use Rattle.std.proofs.Common.{sym, ap, subst, ◌∙◌, drop}
use Rattle.std.proofs.lemmas.Bool.{true≢false, false≢true, and_parts, and_from, or_parts, false_from_ne_true}
use Rattle.std.proofs.lemmas.Slice.Eq.{bytes_eq-Decides}
use Rattle.std.specs.List.{list_any, list_all, AllByRecursion}
use Rattle.std.specs.Bool.{beq}
use Rattle.sheet_types.specs.Ordered.{is_among, sublists, arranged, least}
use Rattle.sheet_types.proofs.Order.{All-of_arranged}
use Rattle.sheet_types.proofs.Every.{none_pass}
use Rattle.sheet_types.proofs.Found.{none_found}
use Rattle.sheet_types.proofs.Same.{In, In-all, any_in}
use Rattle.sheet_types.proofs.Basics.{or-true}
use Rattle.std.specs.Prelude.{Option, None}
use Rattle.sheet_types.specs.World.{other_kind}
use Rattle.sheet_types.specs.declared.receipt.MovedKind.{MovedKind}
use Rattle.sheet_types.specs.World.{Package, item_key, has_kind, base_kind, kind_number}
use Rattle.sheet_types.specs.Cut.{identities, strict_set, touches, is_torn, has_end, torn_item, is_closed, holds_all}
use Rattle.sheet_types.specs.Cut.{closed_sets, in_each}
use Rattle.sheet_types.specs.Register.{HasEnds}
use Rattle.sheet_types.specs.declared.command.Item.{Item}
use Rattle.sheet_types.specs.declared.command.Relation.{Relation}
use Rattle.sheet_types.proofs.Basics.{bytes_eq_itself}
use Rattle.sheet_types.proofs.Every.{All-weaker, All-both, All-each}
use Rattle.sheet_types.proofs.Found.{All-found, found, filter_passes}

-- both ends go with a link
abbrev pub GoesWhole : (List ℕ → Bool) → (Relation → Bool) → Relation → Type 0
GoesWhole takes_item takes_link l = (takes_link l ≡ true → (takes_item l.base ≡ true)
    × (takes_item l.other ≡ true)) × (takes_link l ≡ false → (takes_item l.base ≡ false)
    × (takes_item l.other ≡ false))

-- ---- Follow

-- what the test of Booleans says
beq_same : (a b : Bool) → beq a b ≡ true → a ≡ b
beq_same true true h = refl
beq_same true false h = absurd (false≢true h)
beq_same false true h = absurd (false≢true h)
beq_same false false h = refl

-- what passes as a whole passes each
all_pass : {X : Type 0} (p : X → Bool) (xs : List X) → list_all p xs ≡ true
    → AllByRecursion (λ x. p x ≡ true) xs
all_pass p [] h = tt
all_pass p (x ∷ xs) h = let parts : (p x ≡ true) × (list_all p xs ≡ true) =
    and_parts (p x) (list_all p xs) h in (parts.0, all_pass p xs parts.1)

-- the ends of a link are in each closed set together
closed_each : (links : List Relation) (sets : List (List (List ℕ)))
    → AllByRecursion (λ s. list_all (λ l. beq (is_among s l.base) (is_among s l.other)) links ≡ true) sets
    → AllByRecursion (λ l. list_all (λ s. is_among s l.base) sets ≡ list_all (λ s. is_among s l.other) sets)
    links
closed_each links [] h = All-each (λ l. list_all (λ s. is_among s l.base) []
    ≡ list_all (λ s. is_among s l.other) []) (λ l. refl) links
closed_each links (s ∷ sets) h =
    All-both (λ l. beq (is_among s l.base) (is_among s l.other) ≡ true)
    (λ l. list_all (λ z. is_among z l.base) sets ≡ list_all (λ z. is_among z l.other) sets)
    (λ l. list_all (λ z. is_among z l.base) (s ∷ sets) ≡ list_all (λ z. is_among z l.other) (s ∷ sets))
    (λ l here rest. ap (λ b. b && list_all (λ z. is_among z l.base) sets)
    (beq_same (is_among s l.base) (is_among s l.other) here) ∙ ap (λ b. is_among s l.other && b) rest) links
    (all_pass (λ l. beq (is_among s l.base) (is_among s l.other)) links h.0) (closed_each links sets h.1)

-- a follow cut tears no link
pub follow_whole : (x : Package) (ids : List (List ℕ)) → AllByRecursion
    (GoesWhole (in_each x ids) (touches (in_each x ids))) x.links
follow_whole x ids = All-weaker (λ l. in_each x ids l.base ≡ in_each x ids l.other)
    (GoesWhole (in_each x ids) (touches (in_each x ids)))
    (λ l e. whole (in_each x ids l.base) (in_each x ids l.other) e) x.links
    (closed_each x.links (closed_sets x ids) (All-weaker (λ s. (holds_all ids s && is_closed x s) ≡ true)
    (λ s. is_closed x s ≡ true) (λ s h. (and_parts (holds_all ids s) (is_closed x s) h).1) (closed_sets x ids)
    (filter_passes (λ s. holds_all ids s && is_closed x s) (sublists (identities x.items)))))
  where
    whole : (a b : Bool) → a ≡ b → ((a || b) ≡ true → (a ≡ true) × (b ≡ true))
        × ((a || b) ≡ false → (a ≡ false) × (b ≡ false))
    whole true true e = ((λ _. (refl, refl)), λ h. absurd (true≢false h))
    whole true false e = absurd (true≢false e)
    whole false true e = absurd (false≢true e)
    whole false false e = ((λ h. absurd (false≢true h)), λ _. (refl, refl))

-- ---- Strict

-- what has no least has no element
pub least_none : (ks : List (List ℕ)) → is_some (least ks) ≡ false → AllByRecursion (λ k. true ≡ false) ks
least_none ks none = All-of_arranged (λ k. k) (λ k. true ≡ false) ks
    (none_pass (λ k. true) (arranged (λ k. k) ks) (none_found (λ k. true) (arranged (λ k. k) ks)
    (nothing (least ks) none)))
  where
    nothing : (o : Option (List ℕ)) → is_some o ≡ false → o ≡ None
    nothing None h = refl
    nothing (Some k) h = absurd (true≢false h)

-- what a test takes nothing of
pub none_taken : {X : Type 0} (f : X → List ℕ) (t : X → Bool) (xs : List X)
    → AllByRecursion (λ k. true ≡ false) (map f (filter t xs)) → AllByRecursion (λ x. t x ≡ false) xs
none_taken f t [] h = tt
none_taken f t (x ∷ xs) h =
    elim (t x) as (λ v. AllByRecursion (λ k. true ≡ false) (map f (cond v (x ∷ filter t xs) (filter t xs)))
    → (v ≡ false) × AllByRecursion (λ y. t y ≡ false) xs) [
      | true ↦ λ g. absurd (true≢false g.0)
      | false ↦ λ g. (refl, none_taken f t xs g)
    ] h

-- where no item of the set has a torn link, and the ends of each link are items, no link is torn
module _ (x : Package) (ids : List (List ℕ)) (ends : AllByRecursion (HasEnds x) x.links) where
  abbrev set : List ℕ → Bool
  set = strict_set x ids

  abbrev has_torn : List ℕ → Bool
  has_torn id = list_any (λ l. has_end id l && is_torn set l) x.links

  pub strict_whole : is_some (torn_item x ids) ≡ false → AllByRecursion (GoesWhole set (touches set)) x.links
  strict_whole none =
      let untorn : AllByRecursion (λ i. (set i.identity && has_torn i.identity) ≡ false) x.items =
      none_taken (λ i. i.identity) (λ i. set i.identity && has_torn i.identity) x.items
      (least_none (identities (filter (λ i. set i.identity && has_torn i.identity) x.items)) none) in
      All-both (HasEnds x) (λ l. In l x.links) (GoesWhole set (touches set)) (whole untorn) x.links ends
      (In-all x.links)
    where
      -- an end is an item, which has no torn link where it is of the set
      end_whole : AllByRecursion (λ i. (set i.identity && has_torn i.identity) ≡ false) x.items
          → (kind : MovedKind) (id : List ℕ) → has_kind x kind id ≡ true → (set id && has_torn id) ≡ false
      end_whole untorn kind id h =
          let i : (i : Item) × (find (λ i. bytes_eq (item_key i) (kind_number kind ∷ id)) x.items ≡ Some i) =
          found (λ i. bytes_eq (item_key i) (kind_number kind ∷ id)) x.items h in
          let e : ((set i.0.identity && has_torn i.0.identity) ≡ false)
          × (bytes_eq (item_key i.0) (kind_number kind ∷ id) ≡ true) =
          All-found (λ j. (set j.identity && has_torn j.identity) ≡ false)
          (λ j. bytes_eq (item_key j) (kind_number kind ∷ id)) i.0 x.items i.1 untorn in
          subst (λ n. (set n && has_torn n) ≡ false) (ap (drop 1)
          ((bytes_eq-Decides (item_key i.0) (kind_number kind ∷ id)).0 e.1)) e.0

      off : (id : List ℕ) (l : Relation) → In l x.links → (set id && has_torn id) ≡ false
          → has_end id l ≡ true → is_torn set l ≡ true → set id ≡ false
      off id l member whole_end at torn = false_from_ne_true (set id)
          (λ e. true≢false (sym (and_from (set id) (has_torn id) e
          (any_in (λ z. has_end id z && is_torn set z) l x.links member
          (and_from (has_end id l) (is_torn set l) at torn))) ∙ whole_end))

      whole : AllByRecursion (λ i. (set i.identity && has_torn i.identity) ≡ false) x.items → (l : Relation)
          → HasEnds x l → In l x.links → GoesWhole set (touches set) l
      whole untorn l e member = (
        (λ touched. elim (set l.base && set l.other) as (λ v. (set l.base && set l.other) ≡ v
            → (set l.base ≡ true) × (set l.other ≡ true)) [
              | true ↦ λ both. and_parts (set l.base) (set l.other) both
              | false ↦ λ apart.
                  let torn : is_torn set l ≡ true = and_from (touches set l) (not (set l.base && set l.other)) touched
                  (ap not apart) in
                  let base : set l.base ≡ false = off l.base l member
                  (end_whole untorn (base_kind l.mapping) l.base e.0)
                  (ap (λ b. b || bytes_eq l.other l.base) (bytes_eq_itself l.base)) torn in
                  let other : set l.other ≡ false = off l.other l member
                  (end_whole untorn (other_kind l.mapping) l.other e.1)
                  (ap (λ b. bytes_eq l.base l.other || b) (bytes_eq_itself l.other)
                  ∙ or-true (bytes_eq l.base l.other)) torn in
                  absurd (true≢false (sym touched ∙ ap (λ b. b || set l.other) base ∙ other))
            ] refl),
        (λ left. or_parts (set l.base) (set l.other) left),
      )
