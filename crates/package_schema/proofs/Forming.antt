-- The law: in a sound database whose tables are in the order of their rowids, a table that is there has its form,
-- where no row has a NULL.
use Rattle.std.proofs.Common.{◌≡◌, ℕ, List, [], ◌∷◌, true, sym, ap, subst, ◌∙◌, drop}
use Rattle.std.specs.List.{AllByRecursion, list_all}
use Rattle.std.proofs.lemmas.Bool.{and_parts}
use Rattle.sqlite.specs.Effect.{Database, IsDatabase}
use Rattle.sqlite.specs.Order.{Row}
use Rattle.sqlite.specs.Tree.{rowid}
use Rattle.sqlite.specs.declared.types.Value.{Value}
use Rattle.sqlite_trees.specs.View.{is_int}
use Rattle.sqlite_trees.proofs.ListLemmas.{all-slice_get, all_weaker}
use Rattle.sqlite_schema.specs.Rules.{passes, has_computed, are_typed, are_present}
use Rattle.sqlite_schema.specs.declared.schema.Constraint.TheVariants.{Datatype, NotNull}
use Rattle.store_sql.specs.Writing.{IsKeyed, AreKeyed}
use Rattle.store_sql.specs.Spelling.{spelled}
use Rattle.sheet_types.proofs.Every.{All-both}
use Rattle.package_tables.specs.Form.{IsPlaced}
use Rattle.package_tables.specs.Shape.{Shape, IsShape, IsFormed, IsStored, stored_rows}
use Rattle.package_tables.proofs.Shapes.{rows_placed}
use Rattle.package_schema.specs.Rows.{are_kept, ends_otherwise, are_needed, as_row, is_filled}
use Rattle.package_schema.proofs.Rows.{row_is, needed_filled}

-- what the law asks of a shape; true of a written one by computation
pub record IsPlain {R : Type 0} (shape : Shape R) : Type 0 where
  pub laws : IsShape shape
  pub columns : (tree : ℕ) → (shape.table tree).columns ≡ (shape.table 0).columns
  pub key : (tree : ℕ) → (shape.table tree).key ≡ (shape.table 0).key
  pub kept : are_kept (shape.table 0).columns ≡ true
  pub ends : ends_otherwise (shape.table 0).key 0 (shape.table 0).columns ≡ true
  pub says : (r : Row) → shape.stored (rowid r) (shape.typed r) ≡ as_row (shape.table 0) r
  pub fills : (v : Value) (x : R) → is_filled (shape.table 0) (shape.stored v x) ≡ true

-- each column but the rowid is NOT NULL
abbrev pub IsNeeded : {R : Type 0} → Shape R → Type 0
IsNeeded shape = are_needed (shape.table 0).key 0 (shape.table 0).columns ≡ true

int_rows : (rows : List Row) → list_all (λ r. is_int (rowid r)) rows ≡ true
    → AllByRecursion (λ r. is_int (rowid r) ≡ true) rows
int_rows [] h = tt
int_rows (r ∷ rows) h = let p = and_parts (is_int (rowid r)) (list_all (λ s. is_int (rowid s)) rows) h in
    (p.0, int_rows rows p.1)

module _ {R : Type 0} (shape : Shape R) (plain : IsPlain shape) (db : Database) (sound : IsDatabase db)
    (keyed : AreKeyed db) (p : IsPlaced db.schema shape.table) where
  rows_are : db.trees (spelled shape.table p.spelling).tree ≡ stored_rows shape db
  rows_are = sym (rows_placed shape plain.laws db p.at p.spelling p.has)

  pub keyed_rows : IsKeyed (stored_rows shape db)
  keyed_rows = subst IsKeyed rows_are (all-slice_get (λ t. IsKeyed (db.trees t.tree)) db.schema.tables p.at
      (spelled shape.table p.spelling) p.has.there keyed)

  typed_rows : AllByRecursion (λ r. are_typed (shape.table 0).key 0 (shape.table 0).columns (drop 1 r) ≡ true)
      (stored_rows shape db)
  typed_rows =
      let t = spelled shape.table p.spelling in
      let rule = all-slice_get (λ u. AllByRecursion (λ row. passes Datatype db.schema db.trees u row ≡ true)
      (db.trees u.tree)) db.schema.tables p.at t p.has.there (sound.obeys.rules Datatype) in
      let there = subst (AllByRecursion (λ row. passes Datatype db.schema db.trees t row ≡ true)) rows_are rule in
      all_weaker (λ row. passes Datatype db.schema db.trees t row ≡ true)
      (λ r. are_typed (shape.table 0).key 0 (shape.table 0).columns (drop 1 r) ≡ true)
      (λ r h. ap (λ k. are_typed k 0 (shape.table 0).columns (drop 1 r)) (sym (plain.key p.spelling.tree))
      ∙ ap (λ cs. are_typed t.key 0 cs (drop 1 r)) (sym (plain.columns p.spelling.tree))
      ∙ (and_parts (are_typed t.key 0 t.columns (drop 1 r)) (has_computed t r) h).0)
      (stored_rows shape db) there

  present_rows : AllByRecursion (λ r. are_present (shape.table 0).key 0 (shape.table 0).columns r ≡ true)
      (stored_rows shape db)
  present_rows =
      let t = spelled shape.table p.spelling in
      let rule = all-slice_get (λ u. AllByRecursion (λ row. passes NotNull db.schema db.trees u row ≡ true)
      (db.trees u.tree)) db.schema.tables p.at t p.has.there (sound.obeys.rules NotNull) in
      let there = subst (AllByRecursion (λ row. passes NotNull db.schema db.trees t row ≡ true)) rows_are rule in
      all_weaker (λ row. passes NotNull db.schema db.trees t row ≡ true)
      (λ r. are_present (shape.table 0).key 0 (shape.table 0).columns r ≡ true)
      (λ r h. ap (λ k. are_present k 0 (shape.table 0).columns r) (sym (plain.key p.spelling.tree))
      ∙ ap (λ cs. are_present t.key 0 cs r) (sym (plain.columns p.spelling.tree)) ∙ h)
      (stored_rows shape db) there

  -- the table has its form where no row has a NULL
  pub formed_filled : AllByRecursion (λ r. is_filled (shape.table 0) r ≡ true) (stored_rows shape db)
      → IsFormed shape db
  formed_filled filled = record {
    placed = p;
    keyed = keyed_rows;
    stored = All-both (λ r. (is_int (rowid r) ≡ true) × (are_typed (shape.table 0).key 0 (shape.table 0).columns
        (drop 1 r) ≡ true)) (λ r. is_filled (shape.table 0) r ≡ true) (IsStored shape)
        (λ r h f. plain.says r ∙ row_is (shape.table 0) r plain.kept plain.ends h.0 h.1 f) (stored_rows shape db)
        (All-both (λ r. is_int (rowid r) ≡ true) (λ r. are_typed (shape.table 0).key 0 (shape.table 0).columns
        (drop 1 r) ≡ true) (λ r. (is_int (rowid r) ≡ true)
        × (are_typed (shape.table 0).key 0 (shape.table 0).columns (drop 1 r) ≡ true)) (λ r a b. (a, b))
        (stored_rows shape db) (int_rows (stored_rows shape db) keyed_rows.ints) typed_rows) filled;
  }

  -- and so always where each column but the rowid is NOT NULL
  pub formed_needed : IsNeeded shape → IsFormed shape db
  formed_needed needed = formed_filled (all_weaker (λ r. are_present (shape.table 0).key 0 (shape.table 0).columns r
      ≡ true) (λ r. is_filled (shape.table 0) r ≡ true) (λ r h. needed_filled (shape.table 0).key 0
      (shape.table 0).columns r needed h) (stored_rows shape db) present_rows)

-- a table that has its form has no NULL
pub filled_formed : {R : Type 0} (shape : Shape R) (plain : IsPlain shape) (db : Database) → IsFormed shape db
    → AllByRecursion (λ r. is_filled (shape.table 0) r ≡ true) (stored_rows shape db)
filled_formed shape plain db formed = all_weaker (IsStored shape) (λ r. is_filled (shape.table 0) r ≡ true)
    (λ r h. subst (λ s. is_filled (shape.table 0) s ≡ true) h (plain.fills (rowid r) (shape.typed r)))
    (stored_rows shape db) formed.stored
