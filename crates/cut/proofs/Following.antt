-- A list whose items were all asked is the least closed set.
use Rattle.std.specs.Prelude.{◌≡◌, ℕ, Bool, true, false, ◌&&◌, ◌||◌, List, [], ◌∷◌, flat_map}
use Rattle.std.specs.Prelude.{take, refl, bytes_eq}
use Rattle.std.proofs.Common.{sym, ap, subst, ◌∙◌, drop}
use Rattle.std.proofs.lemmas.Bool.{and_from, and_parts}
use Rattle.std.proofs.lemmas.Slice.Eq.{bytes_eq-Decides}
use Rattle.std.specs.Bool.{beq}
use Rattle.std.specs.List.{list_all, AllByRecursion}
use Rattle.sheet_types.specs.Ordered.{is_among, sublists}
use Rattle.sheet_types.specs.Cut.{identities, has_end, holds_all, is_closed, closed_sets, in_each}
use Rattle.sheet_types.specs.Register.{HasEnds}
use Rattle.sheet_types.specs.World.{Package, item_key, has_kind, kind_number, base_kind, other_kind}
use Rattle.sheet_types.specs.declared.command.Item.{Item}
use Rattle.sheet_types.specs.declared.command.Relation.{Relation}
use Rattle.sheet_types.specs.declared.receipt.MovedKind.{MovedKind}
use Rattle.sheet_types.proofs.Basics.{bytes_eq_itself, or-true}
use Rattle.sheet_types.proofs.Every.{All-weaker}
use Rattle.sheet_types.proofs.Found.{filter_passes}
use Rattle.sheet_types.proofs.Same.{In, In-all, In-map, In-filter, In-flat_map, All-In, any_at, any_in}
use Rattle.sheet_laws.proofs.Follow.{follow_is_least}
use Rattle.identity_register.specs.Reach.{links_of}
use Rattle.cut.specs.Gathering.{HasStart}
use Rattle.cut.proofs.Testing.{both_ways, all_from}
use Rattle.cut.proofs.Walking.{Walked}

-- an item of some kind is an item
pub item_there : (p : Package) (kind : MovedKind) (id : List ℕ) → has_kind p kind id ≡ true
    → is_among (identities p.items) id ≡ true
item_there p kind id h =
    let i : (i : Item) × In i p.items × (bytes_eq (item_key i) (kind_number kind ∷ id) ≡ true) =
    any_at (λ i. bytes_eq (item_key i) (kind_number kind ∷ id)) p.items h in
    let e : i.0.identity ≡ id = ap (drop 1) ((bytes_eq-Decides (item_key i.0) (kind_number kind ∷ id)).0 i.2) in
    any_in (λ k. bytes_eq k id) i.0.identity (identities p.items) (In-map (λ i. i.identity) i.0 p.items i.1)
    (ap (bytes_eq i.0.identity) (sym e) ∙ bytes_eq_itself i.0.identity)

-- the links of an item in the list are among those of all
pub link_found : (p : Package) (order : List (List ℕ)) (l : Relation) (id : List ℕ) → In l p.links
    → is_among order id ≡ true → has_end id l ≡ true → In l (flat_map (links_of p) order)
link_found p order l id member among at =
    let k : (k : List ℕ) × In k order × (bytes_eq k id ≡ true) = any_at (λ k. bytes_eq k id) order among in
    let e : k.0 ≡ id = (bytes_eq-Decides k.0 id).0 k.2 in
    In-flat_map (links_of p) k.0 l order k.1 (In-filter (has_end k.0) l p.links member
    (ap (λ z. has_end z l) e ∙ at))

at_base : (l : Relation) → has_end l.base l ≡ true
at_base l = ap (λ b. b || bytes_eq l.other l.base) (bytes_eq_itself l.base)

at_media : (l : Relation) → has_end l.other l ≡ true
at_media l = ap (λ b. bytes_eq l.base l.other || b) (bytes_eq_itself l.other) ∙ or-true (bytes_eq l.base l.other)

beq_same : (a b : Bool) → a ≡ b → beq a b ≡ true
beq_same true true h = refl
beq_same true false h = sym h
beq_same false true h = h
beq_same false false h = refl

beq_is : (a b : Bool) → beq a b ≡ true → a ≡ b
beq_is true true h = refl
beq_is true false h = sym h
beq_is false true h = h
beq_is false false h = refl

-- what passes as a whole passes each
pub each_passes : {X : Type 0} (p : X → Bool) (xs : List X) → list_all p xs ≡ true
    → AllByRecursion (λ x. p x ≡ true) xs
each_passes p [] h = tt
each_passes p (x ∷ xs) h = let parts : (p x ≡ true) × (list_all p xs ≡ true) =
    and_parts (p x) (list_all p xs) h in (parts.0, each_passes p xs parts.1)

-- those among a list
pub all_among : (start : List (List ℕ)) (test : List ℕ → Bool)
    → ((id : List ℕ) → is_among start id ≡ true → test id ≡ true) → list_all test start ≡ true
all_among start test h = all_from test start (All-weaker (λ id. In id start) (λ id. test id ≡ true)
    (λ id i. h id (any_in (λ k. bytes_eq k id) id start i (bytes_eq_itself id))) start (In-all start))

pub among_all : (start : List (List ℕ)) (test : List ℕ → Bool) → list_all test start ≡ true
    → (id : List ℕ)
    → is_among start id ≡ true → test id ≡ true
among_all start test h id among =
    let k : (k : List ℕ) × In k start × (bytes_eq k id ≡ true) = any_at (λ k. bytes_eq k id) start among in
    ap test (sym ((bytes_eq-Decides k.0 id).0 k.2)) ∙ All-In (λ x. test x ≡ true) k.0 start
    (each_passes test start h)
    k.1

-- all of them were asked
pub followed : (p : Package) (start order : List (List ℕ)) (links : List Relation) (k : ℕ)
    → Walked p start order links k → take k order ≡ order → HasStart p start → (id : List ℕ)
    → is_among order id ≡ in_each p start id
followed p start order links k walked all has id = both_ways (is_among order id) (in_each p start id) inside least
  where
    -- both ends of a link are in the list, or neither
    together : (l : Relation) → In l p.links → is_among order l.base ≡ is_among order l.other
    together l member = both_ways (is_among order l.base) (is_among order l.other)
        (λ h. (ends l.base h (at_base l)).1) (λ h. (ends l.other h (at_media l)).0)
      where
        ends : (k' : List ℕ) → is_among order k' ≡ true → has_end k' l ≡ true
            → (is_among order l.base ≡ true)
            × (is_among order l.other ≡ true)
        ends k' among at = All-In (λ x. (is_among order x.base ≡ true) × (is_among order x.other ≡ true)) l links
            walked.ends
            (subst (In l) (sym (walked.links_are ∙ ap (flat_map (links_of p)) all))
            (link_found p order l k' member among at))

    inside : is_among order id ≡ true → in_each p start id ≡ true
    inside h = all_from (λ s. is_among s id) (closed_sets p start)
        (All-weaker (λ s. (holds_all start s && is_closed p s) ≡ true) (λ s. is_among s id ≡ true)
        (λ s fits. let parts : (holds_all start s ≡ true) × (is_closed p s ≡ true) =
        and_parts (holds_all start s) (is_closed p s) fits in
        walked.least (is_among s) (among_all start (is_among s) parts.0)
        (All-weaker (λ l. beq (is_among s l.base) (is_among s l.other) ≡ true)
        (λ l. is_among s l.base ≡ is_among s l.other) (λ l e. beq_is (is_among s l.base) (is_among s l.other) e)
        p.links (each_passes (λ l. beq (is_among s l.base) (is_among s l.other)) p.links parts.1)) id h)
        (closed_sets p start) (filter_passes (λ s. holds_all start s && is_closed p s)
        (sublists (identities p.items))))

    least : in_each p start id ≡ true → is_among order id ≡ true
    least h = follow_is_least p start (is_among order) id has.items
        (all_from (λ l. is_among (identities p.items) l.base && is_among (identities p.items) l.other) p.links
        (All-weaker (HasEnds p) (λ l. (is_among (identities p.items) l.base && is_among (identities p.items) l.other)
        ≡ true)
        (λ l e. and_from (is_among (identities p.items) l.base) (is_among (identities p.items) l.other)
        (item_there p (base_kind l.mapping) l.base e.0) (item_there p (other_kind l.mapping) l.other e.1)) p.links
        has.ends))
        (all_among start (is_among order) walked.starts)
        (all_from (λ l. beq (is_among order l.base) (is_among order l.other)) p.links
        (All-weaker (λ l. In l p.links) (λ l. beq (is_among order l.base) (is_among order l.other) ≡ true)
        (λ l i. beq_same (is_among order l.base) (is_among order l.other) (together l i)) p.links
        (In-all p.links)))
        h
