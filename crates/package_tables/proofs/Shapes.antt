-- What an INSERT, a DELETE and a write to another table make of a table's values.
use Rattle.std.proofs.Common.{◌≡◌, ℕ, List, [], ◌∷◌, map, Bool, true, false, cond, refl, sym, ap, subst}
use Rattle.std.proofs.Common.{◌∙◌, Less, Equal, Greater, Ordering}
use Rattle.std.specs.Prelude.{not, ◌&&◌, filter, bytes_eq}
use Rattle.std.specs.List.{AllByRecursion}
use Rattle.std.specs.Ordering.{is_eq, match_ordering}
use Rattle.std.proofs.lemmas.Bool.{true≢false, false≢true, or_parts}
use Rattle.sqlite_value.specs.Order.{value_cmp}
use Rattle.sqlite_trees.proofs.TreeLemmas.{all-put_row, IsTable-put_row}
use Rattle.sqlite.specs.Table.{Table}
use Rattle.sqlite.specs.Schema.{Schema}
use Rattle.sqlite.specs.Order.{Row}
use Rattle.sqlite.specs.Tree.{rowid, put_row, IsTable}
use Rattle.sqlite.specs.Edit.{is_taken, have_rowids}
use Rattle.sqlite.specs.declared.types.Value.{Value}
use Rattle.sqlite.specs.Effect.{Database}
use Rattle.sqlite_trees.specs.View.{is_int}
use Rattle.sheet_types.specs.Ordered.{arranged, put, has}
use Rattle.sheet_types.proofs.Arranging.{put_put, filter-arranged}
use Rattle.sheet_types.proofs.Every.{All-filter, none_pass}
use Rattle.sheet_types.proofs.Order.{list_any-arranged}
use Rattle.store_sql.specs.Known.{HasTable, IsQuiet, is_other, sequence_name}
use Rattle.store_sql.specs.Writing.{Inserts, Deletes, Spares, IsKeyed}
use Rattle.store_sql.specs.Spelling.{Spelling, spelled}
use Rattle.package_tables.specs.Form.{IsPlaced, tree_named}
use Rattle.package_tables.specs.Shape.{Shape, IsShape, IsFormed, IsStored, stored_rows, rows_of}

-- the tree of a table that is there
pub tree_placed : (schema : Schema) (at : ℕ) (t : Table) → HasTable schema at t
    → tree_named schema t.name ≡ t.tree
tree_placed schema at t h = rw (h.named, h.there) refl

module _ {R : Type 0} (shape : Shape R) (laws : IsShape shape) where
  -- the rows of a table that is placed
  pub rows_placed : (db : Database) (at : ℕ) (spelling : Spelling)
      → HasTable db.schema at (spelled shape.table spelling)
      → stored_rows shape db ≡ db.trees (spelled shape.table spelling).tree
  rows_placed db at spelling h =
      let same : tree_named db.schema (shape.table 0).name ≡ (spelled shape.table spelling).tree =
      ap (tree_named db.schema) (sym (laws.named spelling.tree))
      ∙ tree_placed db.schema at (spelled shape.table spelling) h in
      ap db.trees same

-- a table that stands where it stood, and what its tree held and holds
pub record Standing {R : Type 0} (shape : Shape R) (old new : Database) (p : IsPlaced old.schema shape.table) :
    Type 0 where
  pub placed : IsPlaced new.schema shape.table
  pub before : old.trees (spelled shape.table p.spelling).tree ≡ stored_rows shape old
  pub after : stored_rows shape new ≡ new.trees (spelled shape.table p.spelling).tree

-- where the schema stays each table does
pub standing : {R : Type 0} (shape : Shape R) (laws : IsShape shape) (old new : Database)
    (p : IsPlaced old.schema shape.table) → new.schema ≡ old.schema → Standing shape old new p
standing shape laws old new p same =
    let has = subst (λ s. HasTable s p.at (spelled shape.table p.spelling)) (sym same) p.has in
    record {
      placed = record { at = p.at; spelling = p.spelling; meant = p.meant; has = has };
      before = sym (rows_placed shape laws old p.at p.spelling p.has);
      after = rows_placed shape laws new p.at p.spelling has;
    }

-- ---- rows as lists

put_ints : (new : Row) (rows : List Row) → is_int (rowid new) ≡ true → have_rowids rows ≡ true
    → have_rowids (put_row new rows) ≡ true
put_ints new [] h all = rw h refl
put_ints new (r ∷ rows) h all = one (value_cmp (rowid r) (rowid new)) (is_int (rowid r)) refl all
    (put_ints new rows h)
  where
    one : (o : Ordering) (b : Bool) → is_int (rowid r) ≡ b → (b && have_rowids rows) ≡ true
        → (have_rowids rows ≡ true → have_rowids (put_row new rows) ≡ true)
        → have_rowids (match_ordering o (r ∷ put_row new rows) (new ∷ rows) (new ∷ r ∷ rows)) ≡ true
    one Less true e rest more = rw e (more rest)
    one Equal true e rest more = rw h rest
    one Greater true e rest more = rw (h, e) rest
    one o false e rest more = absurd (false≢true rest)

module _ {R : Type 0} (key : R → List ℕ) (typed : Row → R) where
  -- a row that is put in comes to the place of its key
  pub arranged-put_row : (new : Row) (rows : List Row) → is_taken rows new ≡ false
      → AllByRecursion (λ r. bytes_eq (key (typed r)) (key (typed new)) ≡ false) rows
      → arranged key (map typed (put_row new rows)) ≡ put key (typed new) (arranged key (map typed rows))
  arranged-put_row new [] free differ = refl
  arranged-put_row new (r ∷ rows) free differ =
      let both = or_parts (is_eq (value_cmp (rowid r) (rowid new))) (is_taken rows new) free in
      one (value_cmp (rowid r) (rowid new)) both.0 (arranged-put_row new rows both.1 differ.1)
    where
      one : (o : Ordering) → is_eq o ≡ false → arranged key (map typed (put_row new rows))
          ≡ put key (typed new) (arranged key (map typed rows))
          → arranged key (map typed (match_ordering o (r ∷ put_row new rows) (new ∷ rows) (new ∷ r ∷ rows)))
          ≡ put key (typed new) (arranged key (map typed (r ∷ rows)))
      one Less e more = ap (put key (typed r)) more ∙ put_put key (typed r) (typed new)
          (arranged key (map typed rows)) differ.0
      one Equal e more = absurd (true≢false e)
      one Greater e more = refl

  all_mapped : (P : R → Type 0) (rows : List Row) → AllByRecursion P (map typed rows)
      → AllByRecursion (λ r. P (typed r)) rows
  all_mapped P [] h = tt
  all_mapped P (r ∷ rows) h = (h.0, all_mapped P rows h.1)

  -- where the arranged values have no such key, no row has it
  pub all_differ : (k : List ℕ) (rows : List Row) → has key k (arranged key (map typed rows)) ≡ false
      → AllByRecursion (λ r. bytes_eq (key (typed r)) k ≡ false) rows
  all_differ k rows h = all_mapped (λ x. bytes_eq (key x) k ≡ false) rows
      (none_pass (λ x. bytes_eq (key x) k) (map typed rows) (sym
      (list_any-arranged key (λ x. bytes_eq (key x) k) (map typed rows)) ∙ h))

  filter-typed : (keeps : R → Bool) (test : Row → Bool) (rows : List Row)
      → AllByRecursion (λ r. test r ≡ keeps (typed r)) rows → map typed (filter test rows)
      ≡ filter keeps (map typed rows)
  filter-typed keeps test [] h = refl
  filter-typed keeps test (r ∷ rows) h = one (keeps (typed r)) (filter-typed keeps test rows h.1) refl
    where
      one : (b : Bool) → map typed (filter test rows) ≡ filter keeps (map typed rows) → keeps (typed r) ≡ b
          → map typed (filter test (r ∷ rows)) ≡ filter keeps (map typed (r ∷ rows))
      one true more e = rw (h.0, e) (ap (λ l. typed r ∷ l) more)
      one false more e = rw (h.0, e) more

  -- the rows that pass, as values in the order of their keys
  pub arranged-filter : (keeps : R → Bool) (test : Row → Bool) (rows : List Row)
      → AllByRecursion (λ r. test r ≡ keeps (typed r)) rows → arranged key (map typed (filter test rows))
      ≡ filter keeps (arranged key (map typed rows))
  arranged-filter keeps test rows h = ap (arranged key) (filter-typed keeps test rows h)
      ∙ sym (filter-arranged key keeps (map typed rows))

table_filter : (t : Row → Bool) (rows : List Row) → IsTable rows → IsTable (filter t rows)
table_filter t [] h = tt
table_filter t (r ∷ rows) h = elim (t r) as (λ v. IsTable (cond v (r ∷ filter t rows) (filter t rows)))
    [ true ↦ (All-filter _ t rows h.0, table_filter t rows h.1) | false ↦ table_filter t rows h.1 ]

ints_filter : (t : Row → Bool) (rows : List Row) → have_rowids rows ≡ true
    → have_rowids (filter t rows) ≡ true
ints_filter t [] h = refl
ints_filter t (r ∷ rows) h = one (is_int (rowid r)) (t r) refl h refl (ints_filter t rows)
  where
    one : (b v : Bool) → is_int (rowid r) ≡ b → (b && have_rowids rows) ≡ true → t r ≡ v
        → (have_rowids rows ≡ true → have_rowids (filter t rows) ≡ true)
        → have_rowids (cond v (r ∷ filter t rows) (filter t rows)) ≡ true
    one true true e rest f more = rw e (more rest)
    one true false e rest f more = more rest
    one false v e rest f more = absurd (false≢true rest)

-- ---- writes

module _ {R : Type 0} (shape : Shape R) (laws : IsShape shape) where
  -- a row comes in: under a key that is free it comes to its place
  pub inserted : (row : List Row → Row) (x : R) (old new : Database) → Inserts shape.table row old new
      → IsQuiet old.schema → IsFormed shape old
      → ((there : List Row) → (v : Value) × (is_int v ≡ true) × (row there ≡ shape.stored v x))
      → IsFormed shape new × (has shape.key (shape.key x) (rows_of shape old) ≡ false
      → rows_of shape new ≡ put shape.key x (rows_of shape old))
  inserted row x old new inserts quiet formed laid =
      let p = formed.placed in
      let did = inserts p.at p.spelling p.has quiet in
      let there = stored_rows shape old in
      let table = standing shape laws old new p did.spares.schema in
      let mine = laid (old.trees (spelled shape.table p.spelling).tree) in
      let r = shape.stored mine.0 x in
      let rows : stored_rows shape new ≡ put_row r there = table.after ∙ did.rows
      ∙ rw (mine.2, table.before) refl in
      let free : is_taken there r ≡ false = rw (← table.before, ← mine.2) did.free in
      let says : shape.typed r ≡ x = laws.says mine.0 x in
      let whole : IsStored shape r = ap (shape.stored (rowid r)) says ∙ laws.again mine.0 x in (
        record {
          placed = table.placed;
          keyed = subst IsKeyed (sym rows) (record {
            ints = put_ints r there (laws.numbered mine.0 x mine.1)
                formed.keyed.ints;
            rises = IsTable-put_row r there formed.keyed.rises;
          });
          stored = subst (AllByRecursion (IsStored shape)) (sym rows)
              (all-put_row (IsStored shape) r there whole formed.stored);
        },
        λ fresh.
            let differ = all_differ shape.key shape.typed (shape.key x) there fresh in
            ap (λ l. arranged shape.key (map shape.typed l)) rows
            ∙ arranged-put_row shape.key shape.typed r there free
            (subst (λ y. AllByRecursion (λ s. bytes_eq (shape.key (shape.typed s)) (shape.key y) ≡ false)
            there) (sym says) differ)
            ∙ ap (λ y. put shape.key y (rows_of shape old)) says,
      )

  -- the rows that pass a test go
  pub deleted : (goes : Row → Bool) (test : R → Bool) (old new : Database) → Deletes shape.table goes old new
      → IsQuiet old.schema → IsFormed shape old
      → ((v : Value) (x : R) → goes (shape.stored v x) ≡ test x)
      → IsFormed shape new × (rows_of shape new ≡ filter (λ x. not (test x)) (rows_of shape old))
  deleted goes test old new deletes quiet formed same =
      let p = formed.placed in
      let did = deletes p.at p.spelling p.has quiet in
      let there = stored_rows shape old in
      let table = standing shape laws old new p did.spares.schema in
      let rows : stored_rows shape new ≡ filter (λ r. not (goes r)) there =
      table.after ∙ did.rows (subst IsKeyed (sym table.before) formed.keyed)
      ∙ ap (filter (λ r. not (goes r))) table.before in (
        record {
          placed = table.placed;
          keyed = subst IsKeyed (sym rows) (record {
            ints = ints_filter (λ r. not (goes r)) there formed.keyed.ints;
            rises = table_filter (λ r. not (goes r)) there formed.keyed.rises;
          });
          stored = subst (AllByRecursion (IsStored shape)) (sym rows)
              (All-filter (IsStored shape) (λ r. not (goes r)) there formed.stored);
        },
        ap (λ l. arranged shape.key (map shape.typed l)) rows
            ∙ arranged-filter shape.key shape.typed (λ x. not (test x)) (λ r. not (goes r)) there
            (tested there formed.stored),
      )
    where
      tested : (rows : List Row) → AllByRecursion (IsStored shape) rows
          → AllByRecursion (λ r. not (goes r) ≡ not (test (shape.typed r))) rows
      tested [] h = tt
      tested (r ∷ rows) h = (ap not (ap goes (sym h.0) ∙ same (rowid r) (shape.typed r)), tested rows h.1)

  -- a write to another table leaves this one alone
  pub spared : (t : Table) (old new : Database) → Spares t old new → is_other (shape.table 0).name t.name ≡ true
      → is_other (shape.table 0).name sequence_name ≡ true → IsFormed shape old
      → IsFormed shape new × (rows_of shape new ≡ rows_of shape old)
  spared t old new spares other counted formed =
      let p = formed.placed in
      let table = standing shape laws old new p spares.schema in
      let named = laws.named p.spelling.tree in
      let kept = spares.others p.at (spelled shape.table p.spelling) p.has
      (ap (λ n. is_other n t.name) named ∙ other) (ap (λ n. is_other n sequence_name) named
      ∙ counted) in
      let rows : stored_rows shape new ≡ stored_rows shape old = table.after ∙ kept ∙ table.before in (
        record {
          placed = table.placed;
          keyed = subst IsKeyed (sym rows) formed.keyed;
          stored = subst (AllByRecursion (IsStored shape)) (sym rows) formed.stored;
        },
        ap (λ l. arranged shape.key (map shape.typed l)) rows,
      )
