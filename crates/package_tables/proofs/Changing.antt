-- What an UPDATE of all rows makes of a table's values.
use Rattle.std.proofs.Common.{◌≡◌, ℕ, List, [], ◌∷◌, map, length, Bool, true, false, refl, sym, ap}
use Rattle.std.proofs.Common.{subst, ◌∙◌, Less}
use Rattle.std.proofs.lemmas.List.Sorted.{length_permutation}
use Rattle.std.specs.Prelude.{◌&&◌}
use Rattle.std.specs.List.{AllByRecursion}
use Rattle.std.proofs.lemmas.Bool.{false≢true}
use Rattle.sqlite_value.specs.Order.{value_cmp}
use Rattle.sqlite.specs.Table.{Table}
use Rattle.sqlite.specs.Order.{Row}
use Rattle.sqlite.specs.Tree.{rowid, IsTable}
use Rattle.sqlite.specs.Edit.{have_rowids}
use Rattle.sqlite.specs.declared.types.Value.{Value}
use Rattle.sqlite.specs.Effect.{Database}
use Rattle.sqlite_trees.specs.View.{is_int}
use Rattle.sheet_types.specs.Ordered.{is_before, arranged, put}
use Rattle.store_sql.specs.Known.{IsQuiet}
use Rattle.store_sql.specs.Kinds.{has_kinds}
use Rattle.store_sql.specs.Writing.{Updates, IsKeyed}
use Rattle.store_sql.specs.Spelling.{Spelling, spelled}
use Rattle.package_tables.specs.Shape.{Shape, IsShape, IsFormed, IsStored, stored_rows, rows_of}
use Rattle.package_tables.specs.Package.{tables_of, AreFormed}
use Rattle.package_tables.specs.Listed.{Listed}
use Rattle.package_tables.proofs.Lists.{IsListed}
use Rattle.package_tables.proofs.Reading.{arranged_permutation}
use Rattle.package_tables.proofs.Shapes.{standing}

-- ---- lists in the order of a key

module _ {R : Type 0} (key : R → List ℕ) where
  pub length-arranged : (xs : List R) → length (arranged key xs) ≡ length xs
  length-arranged xs = length_permutation xs (arranged key xs) (arranged_permutation key xs)

  module _ (f : R → R) (same : (x : R) → key (f x) ≡ key x) where
    map-put : (x : R) (xs : List R) → put key (f x) (map f xs) ≡ map f (put key x xs)
    map-put x [] = refl
    map-put x (y ∷ ys) = one (is_before (key y) (key x)) refl (map-put x ys)
      where
        one : (b : Bool) → is_before (key y) (key x) ≡ b → put key (f x) (map f ys) ≡ map f (put key x ys)
            → put key (f x) (map f (y ∷ ys)) ≡ map f (put key x (y ∷ ys))
        one true e more = rw (same y, same x, e) (ap (λ l. f y ∷ l) more)
        one false e more = rw (same y, same x, e) refl

    -- a change that leaves the keys alone leaves the order
    pub arranged-map : (xs : List R) → arranged key (map f xs) ≡ map f (arranged key xs)
    arranged-map [] = refl
    arranged-map (x ∷ xs) = ap (put key (f x)) (arranged-map xs) ∙ map-put x (arranged key xs)

-- ---- rows that are changed each in its place

module _ {R : Type 0} (shape : Shape R) (laws : IsShape shape) (g : Row → Row) (f : R → R)
    (steps : (r : Row) → IsStored shape r → g r ≡ shape.stored (rowid r) (f (shape.typed r)))
    (rowids : (v : Value) (x : R) → rowid (shape.stored v (f x)) ≡ rowid (shape.stored v x)) where
  whole : (v : Value) (x : R) → IsStored shape (shape.stored v x)
  whole v x = ap (shape.stored (rowid (shape.stored v x))) (laws.says v x) ∙ laws.again v x

  same_rowid : (r : Row) → IsStored shape r → rowid (g r) ≡ rowid r
  same_rowid r h = ap rowid (steps r h) ∙ rowids (rowid r) (shape.typed r) ∙ ap rowid h

  pub all_stored : (rows : List Row) → AllByRecursion (IsStored shape) rows
      → AllByRecursion (IsStored shape) (map g rows)
  all_stored [] h = tt
  all_stored (r ∷ rows) h = (
    subst (IsStored shape) (sym (steps r h.0)) (whole (rowid r) (f (shape.typed r))),
    all_stored rows h.1,
  )

  pub typed-map : (rows : List Row) → AllByRecursion (IsStored shape) rows
      → map shape.typed (map g rows) ≡ map f (map shape.typed rows)
  typed-map [] h = refl
  typed-map (r ∷ rows) h = rw (ap shape.typed (steps r h.0) ∙ laws.says (rowid r) (f (shape.typed r)))
      (ap (λ l. f (shape.typed r) ∷ l) (typed-map rows h.1))

  pub all_ints : (rows : List Row) → AllByRecursion (IsStored shape) rows → have_rowids rows ≡ true
      → have_rowids (map g rows) ≡ true
  all_ints [] h ints = refl
  all_ints (r ∷ rows) h ints = one (is_int (rowid r)) refl ints (all_ints rows h.1)
    where
      one : (b : Bool) → is_int (rowid r) ≡ b → (b && have_rowids rows) ≡ true
          → (have_rowids rows ≡ true → have_rowids (map g rows) ≡ true)
          → have_rowids (map g (r ∷ rows)) ≡ true
      one true e rest more = rw (same_rowid r h.0, e) (more rest)
      one false e rest more = absurd (false≢true rest)

  above : (v : Value) (rows : List Row) → AllByRecursion (IsStored shape) rows
      → AllByRecursion (λ s. value_cmp v (rowid s) ≡ Less) rows
      → AllByRecursion (λ s. value_cmp v (rowid s) ≡ Less) (map g rows)
  above v [] h less = tt
  above v (r ∷ rows) h less = (ap (value_cmp v) (same_rowid r h.0) ∙ less.0, above v rows h.1 less.1)

  pub still_rises : (rows : List Row) → AllByRecursion (IsStored shape) rows → IsTable rows → IsTable (map g rows)
  still_rises [] h rises = tt
  still_rises (r ∷ rows) h rises = (
    subst (λ v. AllByRecursion (λ s. value_cmp v (rowid s) ≡ Less) (map g rows))
        (sym (same_rowid r h.0)) (above (rowid r) rows h.1 rises.0),
    still_rises rows h.1 rises.1,
  )

all_of_kinds : {R : Type 0} (shape : Shape R) (t : Table) (change : Row → Row) (make : R → R)
    → ((v : Value) (x : R) → is_int v ≡ true → has_kinds t (shape.stored v x) ≡ true)
    → ((v : Value) (x : R) → change (shape.stored v x) ≡ shape.stored v (make x))
    → (rows : List Row) → AllByRecursion (IsStored shape) rows → have_rowids rows ≡ true
    → AllByRecursion (λ r. has_kinds t (change r) ≡ true) rows
all_of_kinds shape t change make kinds makes [] h ints = tt
all_of_kinds shape t change make kinds makes (r ∷ rows) h ints =
    one (is_int (rowid r)) refl ints (all_of_kinds shape t change make kinds makes rows h.1)
  where
    one : (b : Bool) → is_int (rowid r) ≡ b → (b && have_rowids rows) ≡ true
        → (have_rowids rows ≡ true → AllByRecursion (λ r. has_kinds t (change r) ≡ true) rows)
        → AllByRecursion (λ r. has_kinds t (change r) ≡ true) (r ∷ rows)
    one true e rest more = (
      ap (λ s. has_kinds t (change s)) (sym h.0)
          ∙ ap (has_kinds t) (makes (rowid r) (shape.typed r))
          ∙ kinds (rowid r) (make (shape.typed r)) e,
      more rest,
    )
    one false e rest more = absurd (false≢true rest)

module _ {R : Type 0} (shape : Shape R) (laws : IsShape shape) where
  -- each value is changed
  pub changed : (change : Row → Row) (make : R → R) (old new : Database)
      → Updates shape.table (λ _. true) change old new → IsQuiet old.schema → IsFormed shape old
      → ((v : Value) (x : R) → change (shape.stored v x) ≡ shape.stored v (make x))
      → ((x : R) → shape.key (make x) ≡ shape.key x) → ((v : Value) (x : R)
      → rowid (shape.stored v (make x)) ≡ rowid (shape.stored v x))
      → ((spelling : Spelling) (v : Value) (x : R) → is_int v ≡ true
      → has_kinds (spelled shape.table spelling) (shape.stored v x) ≡ true)
      → IsFormed shape new × (rows_of shape new ≡ map make (rows_of shape old))
  changed change make old new updates quiet formed makes keys rowids kinds =
      let p = formed.placed in
      let did = updates p.at p.spelling p.has quiet in
      let there = stored_rows shape old in
      let table = standing shape laws old new p did.spares.schema in
      let fit = all_of_kinds shape (spelled shape.table p.spelling) change make (kinds p.spelling) makes there
      formed.stored formed.keyed.ints in
      let rows : stored_rows shape new ≡ map change there = table.after
      ∙ did.rows (subst IsKeyed (sym table.before) formed.keyed)
      (subst (AllByRecursion (λ r. has_kinds (spelled shape.table p.spelling) (change r) ≡ true))
      (sym table.before) fit)
      ∙ ap (map change) table.before in (
        record {
          placed = table.placed;
          keyed = subst IsKeyed (sym rows) (record {
            ints = all_ints shape laws change make steps rowids there
                formed.stored formed.keyed.ints;
            rises = still_rises shape laws change make steps rowids there
                formed.stored formed.keyed.rises;
          });
          stored = subst (AllByRecursion (IsStored shape)) (sym rows)
              (all_stored shape laws change make steps rowids there formed.stored);
        },
        ap (λ l. arranged shape.key (map shape.typed l)) rows
            ∙ ap (arranged shape.key) (typed-map shape laws change make steps rowids there formed.stored)
            ∙ arranged-map shape.key make keys (map shape.typed there),
      )
    where
      steps : (r : Row) → IsStored shape r → change r ≡ shape.stored (rowid r) (make (shape.typed r))
      steps r h = ap change (sym h) ∙ makes (rowid r) (shape.typed r)

module _ {R : Type 0} {list : Listed R} (is : IsListed list) where
  pub changes : (change : Row → Row) (make : R → R) (old new : Database) → AreFormed old
      → ((v : Value) (x : R) → change (list.shape.stored v x) ≡ list.shape.stored v (make x))
      → ((x : R) → list.shape.key (make x) ≡ list.shape.key x)
      → ((v : Value) (x : R) → rowid (list.shape.stored v (make x)) ≡ rowid (list.shape.stored v x))
      → ((spelling : Spelling) (v : Value) (x : R) → is_int v ≡ true
      → has_kinds (spelled list.shape.table spelling) (list.shape.stored v x) ≡ true)
      → Updates list.shape.table (λ _. true) change old new
      → AreFormed new × (tables_of new ≡ list.with_rows (map make (list.rows (tables_of old))) (tables_of old))
  changes change make old new formed makes keys rowids kinds updates =
      let here = is.formed old formed in
      let did = changed list.shape is.laws change make old new updates formed.quiet here makes keys rowids kinds in
      let both = is.written here.placed.spelling old new (updates here.placed.at here.placed.spelling here.placed.has
      formed.quiet).spares formed did.0 in
      (both.0, rw (is.lists old) (both.1 ∙ ap (λ l. list.with_rows l (tables_of old)) did.1))
