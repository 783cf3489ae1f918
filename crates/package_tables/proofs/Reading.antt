-- From the rows that a SELECT lists to answers over the tables.
use Rattle.std.proofs.Common.{◌≡◌, ℕ, List, [], ◌∷◌, map, Bool, true, false, cond, Option, Some, None}
use Rattle.std.proofs.Common.{suc, zero, refl, sym, ap, subst, ◌∙◌, arith}
use Rattle.std.specs.Prelude.{filter, slice_get, Contains, MatchOption, IsPermutation, if◌then◌else◌}
use Rattle.std.specs.List.{AllByRecursion}
use Rattle.std.proofs.lemmas.List.{nil_from_length, map-id}
use Rattle.std.proofs.lemmas.List.Sorted.{IsPermutation-refl, IsPermutation-sym, IsPermutation-trans}
use Rattle.std.proofs.lemmas.List.Sorted.{IsPermutation-cons, IsPermutation-insert, IsPermutation-map}
use Rattle.std.proofs.lemmas.List.Sorted.{Contains-permutation, length_permutation}
use Rattle.sqlite_trees.proofs.ListLemmas.{IsPermutation-filter, map-map}
use Rattle.sqlite.specs.Order.{Row}
use Rattle.sqlite.specs.Tree.{rowid}
use Rattle.sqlite.specs.Effect.{Database}
use Rattle.sqlite.specs.declared.types.Value.{Value}
use Rattle.sheet_types.specs.Ordered.{arranged, put, is_before}
use Rattle.sheet_types.proofs.Every.{none_any}
use Rattle.store_sql.specs.Known.{HasTable}
use Rattle.store_sql.specs.Reading.{Listing, IsListing}
use Rattle.store_sql.specs.Spelling.{Spelling, spelled}
use Rattle.store_sql.proofs.Changed.{none_kept}
use Rattle.package_tables.specs.Shape.{Shape, IsShape, IsFormed, IsStored, stored_rows, rows_of}
use Rattle.package_tables.specs.Calls.{IsOneOf, AreThose}
use Rattle.package_tables.proofs.Shapes.{rows_placed}

-- ---- lists

put_permutation : {R : Type 0} (key : R → List ℕ) (x : R) (xs : List R) → IsPermutation (x ∷ xs) (put key x xs)
put_permutation key x [] = IsPermutation-refl (x ∷ [])
put_permutation {R} key x (y ∷ ys) = one (is_before (key y) (key x)) (put_permutation key x ys)
  where
    one : (b : Bool) → IsPermutation (x ∷ ys) (put key x ys)
        → IsPermutation (x ∷ y ∷ ys) (if b then y ∷ put key x ys else x ∷ y ∷ ys)
    one true more = IsPermutation-trans (x ∷ y ∷ ys) (y ∷ x ∷ ys) _ (IsPermutation-insert (y ∷ ys) 1 x)
        (IsPermutation-cons y _ _ more)
    one false more = IsPermutation-refl (x ∷ y ∷ ys)

pub arranged_permutation : {R : Type 0} (key : R → List ℕ) (xs : List R) → IsPermutation xs (arranged key xs)
arranged_permutation key [] = IsPermutation-refl []
arranged_permutation key (x ∷ xs) = IsPermutation-trans (x ∷ xs) (x ∷ arranged key xs) _
    (IsPermutation-cons x _ _ (arranged_permutation key xs)) (put_permutation key x (arranged key xs))

-- what a filter keeps was there, and passes
filter_contains : {R : Type 0} (p : R → Bool) (xs : List R) (y : R) → Contains (filter p xs) y → Contains xs y
    × (p y ≡ true)
filter_contains p [] y (k, below, is) = absurd (omega (arith, below))
filter_contains {R} p (x ∷ xs) y h = one (p x) refl (filter_contains p xs y) h
  where
    later : Contains xs y × (p y ≡ true) → Contains (x ∷ xs) y × (p y ≡ true)
    later ((k, below, is), passed) = ((suc k, omega (arith, below), is), passed)

    one : (b : Bool) → p x ≡ b → (Contains (filter p xs) y → Contains xs y × (p y ≡ true))
        → Contains (cond b (x ∷ filter p xs) (filter p xs)) y → Contains (x ∷ xs) y × (p y ≡ true)
    one true e more (zero, below, is) = ((zero, omega arith, is), ap p (sym is) ∙ e)
    one true e more (suc k, below, is) = later (more (k, omega (arith, below), is))
    one false e more c = later (more c)

-- ---- a listing of a table's rows

-- values that are read from the rows that show them
pub read_back : {R : Type 0} (shown : R → Row) (back : Row → R) → ((x : R) → back (shown x) ≡ x)
    → (xs : List R) → map back (map shown xs) ≡ xs
read_back shown back returns [] = refl
read_back shown back returns (x ∷ xs) = rw (returns x) (ap (λ k. x ∷ k) (read_back shown back returns xs))

-- `shown` is the row that a SELECT shows of a value, from which `back` reads what `take` takes of it
module _ {R V : Type 0} (shape : Shape R) (laws : IsShape shape) (take : R → V) (shown : R → Row)
    (back : Row → V) (returns : (x : R) → back (shown x) ≡ take x)
    (l : Listing) (keeps : R → Bool) (shows : (v : Value) (x : R) → l.shown (shape.stored v x) ≡ shown x)
    (passing : (v : Value) (x : R) → l.keeps (shape.stored v x) ≡ keeps x) where
  -- the rows that pass, as values
  typed_rows : (rows : List Row) → AllByRecursion (IsStored shape) rows
      → map back (map l.shown (filter l.keeps rows)) ≡ map take (filter keeps (map shape.typed rows))
  typed_rows [] h = refl
  typed_rows (r ∷ rows) h = one (keeps (shape.typed r)) refl (typed_rows rows h.1)
    where
      same : l.keeps r ≡ keeps (shape.typed r)
      same = ap l.keeps (sym h.0) ∙ passing (rowid r) (shape.typed r)

      says : back (l.shown r) ≡ take (shape.typed r)
      says = ap (λ s. back (l.shown s)) (sym h.0) ∙ ap back (shows (rowid r) (shape.typed r))
          ∙ returns (shape.typed r)

      one : (b : Bool) → keeps (shape.typed r) ≡ b → map back (map l.shown (filter l.keeps rows))
          ≡ map take (filter keeps (map shape.typed rows)) → map back (map l.shown (filter l.keeps (r ∷ rows)))
          ≡ map take (filter keeps (map shape.typed (r ∷ rows)))
      one true e more = rw (same, e, says) (ap (λ k. take (shape.typed r) ∷ k) more)
      one false e more = rw (same, e) more

  -- the answer, as what is taken, is what passes of the table
  pub taken : (db : Database) (formed : IsFormed shape db) (rows : List Row)
      (listed : (at : ℕ) (spelling : Spelling) → HasTable db.schema at (spelled shape.table spelling)
      → IsListing l.key l.shown l.by (filter l.keeps (db.trees (spelled shape.table spelling).tree)) rows)
      → IsPermutation (map take (filter keeps (rows_of shape db))) (map back rows)
  taken db formed rows listed =
      let p = formed.placed in
      let there = stored_rows shape db in
      let same : db.trees (spelled shape.table p.spelling).tree ≡ there =
      sym (rows_placed shape laws db p.at p.spelling p.has) in
      let listing = subst (λ k. IsListing l.key l.shown l.by (filter l.keeps k) rows) same
      (listed p.at p.spelling p.has) in
      let moved : IsPermutation (map l.shown (filter l.keeps there)) rows =
      subst (IsPermutation (map l.shown (filter l.keeps there))) (sym listing.shows)
      (subst (λ k. IsPermutation k (map (λ (o : Row × Row). o.1) listing.ordered))
      (map-map (λ (o : Row × Row). o.1) (λ r. (l.key r, l.shown r)) (filter l.keeps there))
      (IsPermutation-map (λ (o : Row × Row). o.1) _ _ listing.same)) in
      let kept : IsPermutation (map take (filter keeps (map shape.typed there))) (map back rows) =
      subst (λ k. IsPermutation k (map back rows)) (typed_rows there formed.stored)
      (IsPermutation-map back _ _ moved) in
      let arranged_so : IsPermutation (filter keeps (rows_of shape db)) (filter keeps (map shape.typed there)) =
      IsPermutation-sym _ _ (IsPermutation-filter keeps _ _
      (arranged_permutation shape.key (map shape.typed there))) in
      IsPermutation-trans _ (map take (filter keeps (map shape.typed there))) _
      (IsPermutation-map take _ _ arranged_so) kept

-- `shown` is the row that a SELECT * shows of a value, and `back` reads it
module _ {R : Type 0} (shape : Shape R) (laws : IsShape shape) (shown : R → Row) (back : Row → R)
    (returns : (x : R) → back (shown x) ≡ x)
    (l : Listing) (keeps : R → Bool) (shows : (v : Value) (x : R) → l.shown (shape.stored v x) ≡ shown x)
    (passing : (v : Value) (x : R) → l.keeps (shape.stored v x) ≡ keeps x) where
  module _ (db : Database) (formed : IsFormed shape db) (rows : List Row)
      (listed : (at : ℕ) (spelling : Spelling) → HasTable db.schema at (spelled shape.table spelling)
      → IsListing l.key l.shown l.by (filter l.keeps (db.trees (spelled shape.table spelling).tree)) rows) where
    -- the answer, as values, is what passes of the table
    answered : IsPermutation (filter keeps (rows_of shape db)) (map back rows)
    answered = subst (λ k. IsPermutation k (map back rows)) (map-id (filter keeps (rows_of shape db)))
        (taken shape laws (λ x. x) shown back returns l keeps shows passing db formed rows listed)

    -- all of them
    pub those : (xs : List R) → rows ≡ map shown xs → AreThose keeps (rows_of shape db) xs
    those xs read = subst (IsPermutation (filter keeps (rows_of shape db)))
        (ap (map back) read ∙ read_back shown back returns xs) answered

    -- the first of them
    pub one_of : (first : Option R) → MatchOption first (rows ≡ []) (λ x. slice_get rows 0 ≡ Some (shown x))
        → IsOneOf keeps (rows_of shape db) first
    one_of None empty = none_any keeps (rows_of shape db) (none_kept keeps (rows_of shape db)
        (nil_from_length _ (sym (length_permutation _ [] (subst
        (λ k. IsPermutation (filter keeps (rows_of shape db)) (map back k)) empty answered)))))
    one_of (Some x) head = filter_contains keeps (rows_of shape db) x
        (Contains-permutation _ _ x (IsPermutation-sym _ _ answered) (there rows head))
      where
        there : (rows : List Row) → slice_get rows 0 ≡ Some (shown x) → Contains (map back rows) x
        there [] h = absurd cc
        there (r ∷ more) h = (0, omega arith, let same : r ≡ shown x = cc in ap back same ∙ returns x)
