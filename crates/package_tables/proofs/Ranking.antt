-- The values of a listing come in the order that its keys say.
use Rattle.std.proofs.Common.{◌≡◌, ℕ, ℤ, List, [], ◌∷◌, map, Bool, true, false, cond, Ordering, sym}
use Rattle.std.proofs.Common.{ap, subst, ◌∙◌}
use Rattle.std.specs.Prelude.{filter, IsSorted}
use Rattle.std.specs.List.{AllByRecursion}
use Rattle.std.specs.Ordering.{is_gt, on, int_cmp, ordering_then}
use Rattle.std.specs.Cmp.{IsTotalOrder}
use Rattle.std.proofs.lemmas.Cmp.{on_total}
use Rattle.std.proofs.lemmas.List.Sorted.{All-permutation}
use Rattle.std.proofs.lemmas.List.Elements.{recursion_from_All, All-from_recursion}
use Rattle.sqlite_trees.specs.Tree.{IsAscending}
use Rattle.sqlite_trees.proofs.ListLemmas.{map-map}
use Rattle.sqlite_exec.proofs.PartitionLemmas.{ascending_from_sorted, sorted_from_ascending}
use Rattle.sqlite_exec.proofs.RowsLemmas.{IsSorted-map}
use Rattle.sqlite_sql.proofs.QueryLemmas.{key_cmp_total}
use Rattle.sqlite_value.proofs.OrderLemmas.{then-Equal, value_cmp-Int}
use Rattle.sqlite.specs.Query.{key_cmp}
use Rattle.sqlite.specs.Order.{Row}
use Rattle.sqlite.specs.Tree.{rowid}
use Rattle.sqlite.specs.Effect.{Database}
use Rattle.sqlite.specs.declared.types.Value.{Value}
use Rattle.sqlite.specs.declared.types.Value.TheVariants.{Int}
use Rattle.store_sql.specs.Known.{HasTable}
use Rattle.store_sql.specs.Reading.{Listing, IsListing, ascending}
use Rattle.store_sql.specs.Spelling.{Spelling, spelled}
use Rattle.package_tables.specs.Shape.{Shape, IsShape, IsFormed, IsStored, stored_rows}
use Rattle.package_tables.proofs.Shapes.{rows_placed}
use Rattle.package_tables.proofs.Reading.{read_back}

-- keys of one number, and of two
pub one_number : (a b : ℤ) → key_cmp 0 (ascending ∷ []) (Int a ∷ []) (Int b ∷ []) ≡ int_cmp a b
one_number a b = then-Equal _ ∙ value_cmp-Int a b

pub two_numbers : (a b c d : ℤ) → key_cmp 0 (ascending ∷ ascending ∷ []) (Int a ∷ Int c ∷ [])
    (Int b ∷ Int d ∷ []) ≡ ordering_then (int_cmp a b) (int_cmp c d)
two_numbers a b c d = cc (value_cmp-Int a b, value_cmp-Int c d, then-Equal (int_cmp c d))

-- the order of the keys `k`, as an order of the values
module _ {R : Type 0} (shape : Shape R) (laws : IsShape shape) (shown : R → Row) (back : Row → R)
    (returns : (x : R) → back (shown x) ≡ x)
    (l : Listing) (shows : (v : Value) (x : R) → l.shown (shape.stored v x) ≡ shown x) (k : R → Row)
    (keyed : (v : Value) (x : R) → l.key (shape.stored v x) ≡ k x)
    (cmp : R → R → Ordering) (total : IsTotalOrder cmp) (alike : (x y : R)
    → key_cmp 0 l.by (k x) (k y) ≡ cmp x y) where
  abbrev IsOf : Row × Row → Type 0
  IsOf o = (x : R) × (o ≡ (k x, shown x))

  abbrev value : Row × Row → R
  value o = back o.1

  all_of_rows : (rows : List Row) → AllByRecursion (IsStored shape) rows
      → AllByRecursion IsOf (map (λ r. (l.key r, l.shown r)) (filter l.keeps rows))
  all_of_rows [] h = tt
  all_of_rows (r ∷ rows) h = one (l.keeps r) (all_of_rows rows h.1)
    where
      mine : IsOf (l.key r, l.shown r)
      mine =
          let key_is : l.key r ≡ k (shape.typed r) = ap l.key (sym h.0) ∙ keyed (rowid r) (shape.typed r) in
          let shown_is : l.shown r ≡ shown (shape.typed r) =
          ap l.shown (sym h.0) ∙ shows (rowid r) (shape.typed r) in
          (shape.typed r, λ i. (key_is i, shown_is i))

      one : (b : Bool) → AllByRecursion IsOf (map (λ r. (l.key r, l.shown r)) (filter l.keeps rows))
          → AllByRecursion IsOf (map (λ r. (l.key r, l.shown r))
          (cond b (r ∷ filter l.keeps rows) (filter l.keeps rows)))
      one true more = (mine, more)
      one false more = more

  same_order : (a b : Row × Row) → IsOf a → IsOf b → is_gt (key_cmp 0 l.by a.0 b.0) ≡ false
      → is_gt (cmp (value a) (value b)) ≡ false
  same_order a b (x, a_is) (y, b_is) h =
      let first : value a ≡ x = ap value a_is ∙ returns x in
      let second : value b ≡ y = ap value b_is ∙ returns y in
      let keys : key_cmp 0 l.by a.0 b.0 ≡ key_cmp 0 l.by (k x) (k y) = λ i. key_cmp 0 l.by (a_is i).0 (b_is i).0 in
      let values : cmp (value a) (value b) ≡ cmp x y = λ i. cmp (first i) (second i) in
      ap is_gt (values ∙ sym (keys ∙ alike x y)) ∙ h

  rising : (os : List (Row × Row)) → AllByRecursion IsOf os → IsAscending
      (λ a b. is_gt (key_cmp 0 l.by a.0 b.0) ≡ false) os → IsAscending
      (λ a b. is_gt (cmp (value a) (value b)) ≡ false) os
  rising [] are up = tt
  rising (o ∷ os) are up = (each os are.1 up.0, rising os are.1 up.1)
    where
      each : (zs : List (Row × Row)) → AllByRecursion IsOf zs
          → AllByRecursion (λ z. is_gt (key_cmp 0 l.by o.0 z.0) ≡ false) zs
          → AllByRecursion (λ z. is_gt (cmp (value o) (value z)) ≡ false) zs
      each [] of most = tt
      each (z ∷ zs) of most = (same_order o z are.0 of.0 most.0, each zs of.1 most.1)

  pub in_order : (db : Database) (formed : IsFormed shape db) (rows : List Row)
      → ((at : ℕ) (spelling : Spelling) → HasTable db.schema at (spelled shape.table spelling)
      → IsListing l.key l.shown l.by (filter l.keeps (db.trees (spelled shape.table spelling).tree)) rows)
      → (xs : List R) → rows ≡ map shown xs → IsSorted cmp xs
  in_order db formed rows listed xs read =
      let p = formed.placed in
      let there = stored_rows shape db in
      let same : db.trees (spelled shape.table p.spelling).tree ≡ there =
      sym (rows_placed shape laws db p.at p.spelling p.has) in
      let listing = subst (λ t. IsListing l.key l.shown l.by (filter l.keeps t) rows) same
      (listed p.at p.spelling p.has) in
      let pairs = map (λ r. (l.key r, l.shown r)) (filter l.keeps there) in
      let are = recursion_from_All IsOf listing.ordered (All-permutation IsOf pairs listing.ordered listing.same
      (All-from_recursion IsOf pairs (all_of_rows there formed.stored))) in
      let up = ascending_from_sorted (on (λ (o : Row × Row). o.0) (key_cmp 0 l.by))
      (on_total (λ (o : Row × Row). o.0) (key_cmp_total l.by 0)) listing.ordered listing.sorted in
      let sorted = sorted_from_ascending (λ a b. cmp (value a) (value b)) (on_total value total) listing.ordered
      (rising listing.ordered are up) in
      let values : map value listing.ordered ≡ xs = sym (map-map back (λ (o : Row × Row). o.1) listing.ordered)
      ∙ ap (map back) (sym listing.shows ∙ read) ∙ read_back shown back returns xs in
      subst (IsSorted cmp) values (IsSorted-map cmp value listing.ordered sorted)
