-- What is held is what an Add receipt says: nothing is altered exactly where each item is unaltered.
use Rattle.std.specs.Prelude.{◌≡◌, Bool, true, false, cond, not, ◌&&◌, ◌||◌, List, [], ◌∷◌}
use Rattle.std.specs.Prelude.{◌++◌, map, filter, flat_map, refl}
use Rattle.std.proofs.Common.{ap, ◌∙◌}
use Rattle.std.proofs.lemmas.List.Folds.{list_any-append}
use Rattle.std.specs.List.{list_any, AllByRecursion}
use Rattle.sheet_types.specs.World.{World, Package, receipts_of}
use Rattle.sheet_types.specs.Custody.{is_add}
use Rattle.sheet_types.specs.Balance.{names_as, is_unaltered, altered}
use Rattle.sheet_types.specs.declared.command.Item.{Item}
use Rattle.sheet_types.specs.declared.receipt.Receipt.{Receipt}
use Rattle.sheet_types.proofs.Every.{All-weaker}

-- an Add receipt of the world says what the item holds
abbrev pub IsUnaltered : World → Item → Type 0
IsUnaltered w i = is_unaltered (receipts_of w) i ≡ true

-- each item that is held is unaltered
abbrev pub NoneAltered : World → Type 0
NoneAltered w = AllByRecursion (λ p. AllByRecursion (IsUnaltered w) p.items) w.packages

-- a list without elements has no first
cons_nil : {X : Type 0} (x : X) (xs : List X) → x ∷ xs ≡ [] → ⊥
cons_nil x xs e = cc

-- two lists that make no list are none
append_nil : {X : Type 0} (xs ys : List X) → xs ++ ys ≡ [] → (xs ≡ []) × (ys ≡ [])
append_nil [] ys h = (refl, h)
append_nil (x ∷ xs) ys h = absurd (cons_nil x (xs ++ ys) h)

-- a map makes nothing of nothing alone
map_nil : {X Y : Type 0} (f : X → Y) (xs : List X) → map f xs ≡ [] → xs ≡ []
map_nil f [] h = refl
map_nil f (x ∷ xs) h = absurd (cons_nil (f x) (map f xs) h)

-- nothing fails a test exactly where each passes it
none_left : {X : Type 0} (t : X → Bool) (xs : List X) → filter (λ x. not (t x)) xs ≡ []
    → AllByRecursion (λ x. t x ≡ true) xs
none_left t [] h = tt
none_left t (x ∷ xs) h =
    elim (t x) as (λ v. cond (not v) (x ∷ filter (λ y. not (t y)) xs) (filter (λ y. not (t y)) xs) ≡ []
    → (v ≡ true) × AllByRecursion (λ y. t y ≡ true) xs) [
      | true ↦ λ e. (refl, none_left t xs e)
      | false ↦ λ e. absurd (cons_nil x (filter (λ y. not (t y)) xs) e)
    ] h

-- where each passes, nothing fails
nothing_left : {X : Type 0} (t : X → Bool) (xs : List X) → AllByRecursion (λ x. t x ≡ true) xs
    → filter (λ x. not (t x)) xs ≡ []
nothing_left t [] h = refl
nothing_left t (x ∷ xs) h = rw h.0 (nothing_left t xs h.1)

-- over the items of all packages
in_each : (t : Item → Bool) (ps : List Package) → flat_map (λ p. filter (λ i. not (t i)) p.items) ps ≡ []
    → AllByRecursion (λ p. AllByRecursion (λ i. t i ≡ true) p.items) ps
in_each t [] h = tt
in_each t (p ∷ ps) h =
    let both : (filter (λ i. not (t i)) p.items ≡ []) × (flat_map (λ x. filter (λ i. not (t i)) x.items) ps
    ≡ []) = append_nil (filter (λ i. not (t i)) p.items)
    (flat_map (λ x. filter (λ i. not (t i)) x.items) ps) h in
    (none_left t p.items both.0, in_each t ps both.1)

-- and back
in_none : (t : Item → Bool) (ps : List Package) → AllByRecursion
    (λ p. AllByRecursion (λ i. t i ≡ true) p.items) ps → flat_map (λ p. filter (λ i. not (t i)) p.items) ps
    ≡ []
in_none t [] h = refl
in_none t (p ∷ ps) h = ap (λ zs. zs ++ flat_map (λ x. filter (λ i. not (t i)) x.items) ps)
    (nothing_left t p.items h.0) ∙ in_none t ps h.1

-- where the list of the altered is empty, each item is unaltered
pub each_unaltered : (w : World) → altered w ≡ [] → NoneAltered w
each_unaltered w h = in_each (is_unaltered (receipts_of w)) w.packages
    (map_nil (λ (i : Item). i.identity) (flat_map (λ p. filter (λ i. not (is_unaltered (receipts_of w) i)) p.items)
    w.packages) h)

-- and back
pub none_altered : (w : World) → NoneAltered w → altered w ≡ []
none_altered w h = ap (map (λ (i : Item). i.identity)) (in_none (is_unaltered (receipts_of w)) w.packages h)

-- one more receipt alters nothing
unaltered_more : (w next : World) (r : Receipt) → receipts_of next ≡ receipts_of w ++ r ∷ [] → (i : Item)
    → IsUnaltered w i → IsUnaltered next i
unaltered_more w next r e i h =
    let says : Receipt → Bool = λ s. is_add s && list_any (names_as i) s.items in
    ap (λ rs. is_unaltered rs i) e ∙ list_any-append says (receipts_of w) (r ∷ [])
    ∙ ap (λ b. b || list_any says (r ∷ [])) h

-- so each item of the old packages is still unaltered
pub still_unaltered : (w next : World) (r : Receipt) → receipts_of next ≡ receipts_of w ++ r ∷ []
    → altered w ≡ [] → AllByRecursion (λ x. AllByRecursion (IsUnaltered next) x.items) w.packages
still_unaltered w next r e h =
    All-weaker (λ x. AllByRecursion (IsUnaltered w) x.items) (λ x. AllByRecursion (IsUnaltered next) x.items)
    (λ x. All-weaker (IsUnaltered w) (IsUnaltered next) (unaltered_more w next r e) x.items) w.packages
    (each_unaltered w h)
