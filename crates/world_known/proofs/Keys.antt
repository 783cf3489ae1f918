-- The keys of a map, by what a look-up tells and what putting one in leaves.
use Rattle.std.specs.Prelude.{◌≡◌, ℕ, true, false, cond, List, [], ◌∷◌, ◌++◌, Some, None, Contains}
use Rattle.std.specs.Prelude.{refl}
use Rattle.std.proofs.Common.{sym, subst}
use Rattle.std.specs.List.{AllByRecursion}
use Rattle.std.specs.Option.{IsSome, is_some}
use Rattle.std.specs.Ordering.{nat_cmp}
use Rattle.std.specs.Cmp.Lexicographic.{slice_cmp}
use Rattle.std.specs.BTreeMap.{BTreeMap, get, keys, Updates, is_at}
use Rattle.std.specs.Cmp.Lexicographic.{nat_list_cmp_total}
use Rattle.std.proofs.lemmas.Map.Lookups.{exact_bytes}
use Rattle.std.proofs.lemmas.Map.Views.{btree_map_contains_key_iff}
use Rattle.sheet_types.specs.declared.receipt.Moved.{Moved}
use Rattle.sheet_types.proofs.Every.{All-weaker, All-snoc}
use Rattle.world_known.specs.Known.{Grows}

abbrev Map : Type 0
Map = BTreeMap (List ℕ) (List ℕ)

-- a key is there exactly where a look-up finds it
there : (m : Map) (id : List ℕ) → IsSome (get (slice_cmp nat_cmp) m id) → Contains (keys m) id
there m id some = (btree_map_contains_key_iff nat_list_cmp_total exact_bytes m id).0 some

found : (m : Map) (id : List ℕ) → Contains (keys m) id → IsSome (get (slice_cmp nat_cmp) m id)
found m id is = (btree_map_contains_key_iff nat_list_cmp_total exact_bytes m id).1 is

pub not_there : (m : Map) (id : List ℕ) → get (slice_cmp nat_cmp) m id ≡ None → ¬ Contains (keys m) id
not_there m id none is = absurd (let some : IsSome {T = List ℕ} None = subst IsSome none (found m id is) in cc)

pub has_key : (m : Map) (id : List ℕ) → is_some (get (slice_cmp nat_cmp) m id) ≡ true → Contains (keys m) id
has_key m id some = there m id some

-- a key that was put in is there
pub put_is_there : (m n : Map) (k v : List ℕ) → Updates (slice_cmp nat_cmp) m n k (Some v) → Contains (keys n) k
put_is_there m n k v updates = there n k (subst IsSome (sym updates.1) refl)

-- and those that were there still are
pub put_keeps : (m n : Map) (k v : List ℕ) → Updates (slice_cmp nat_cmp) m n k (Some v) → Grows (keys m) (keys n)
put_keeps m n k v updates q is =
    there n q (subst IsSome (sym (updates.0 q)) (elim (is_at (slice_cmp nat_cmp k) q) as
    (λ b. IsSome (cond b (Some v) (get (slice_cmp nat_cmp) m q))) [ true ↦ refl | false ↦ found m q is ]))

pub all_grow : (old new : List (List ℕ)) (some : List Moved) → Grows old new
    → AllByRecursion (λ x. Contains old x.base) some → AllByRecursion (λ x. Contains new x.base) some
all_grow old new some grows each = All-weaker (λ (x : Moved). Contains old x.base) (λ x. Contains new x.base)
    (λ x is. grows x.base is) some each

-- of one thing more
pub one_more : (old new : List (List ℕ)) (some : List Moved) (m : Moved) → Grows old new → Contains new m.base
    → AllByRecursion (λ x. Contains old x.base) some → AllByRecursion (λ x. Contains new x.base)
    (some ++ m ∷ [])
one_more old new some m grows here each =
    All-snoc (λ (x : Moved). Contains new x.base) some m (all_grow old new some grows each) here
