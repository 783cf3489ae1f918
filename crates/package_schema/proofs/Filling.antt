-- The two tables whose columns let a NULL in, and what a look at their rows tells of it.
use Rattle.std.proofs.Common.{◌≡◌, ℕ, List, [], ◌∷◌, map, codes, Bool, true, false, Result, Ok, Err}
use Rattle.std.proofs.Common.{IsTrue, IsErr}
use Rattle.std.proofs.Common.{refl, sym, subst, ◌∙◌}
use Rattle.std.specs.Prelude.{◌↔◌, not, IfOk, IfErr, IsOkAnd, IsPermutation}
use Rattle.std.specs.List.{AllByRecursion, list_all}
use Rattle.std.proofs.lemmas.List.Sorted.{IsPermutation-sym, IsPermutation-map}
use Rattle.sheet_types.proofs.Every.{All-both}
use Rattle.std.proofs.lemmas.Bool.{false≢true, and_parts}
use Rattle.sqlite.specs.Order.{Row, column}
use Rattle.sqlite.specs.Ops.{is_null}
use Rattle.sqlite.specs.Tree.{rowid}
use Rattle.sqlite.specs.Term.{Term, col}
use Rattle.sqlite.specs.Store.{Ghosts}
use Rattle.sqlite.specs.Effect.{Database}
use Rattle.sqlite.specs.Held.{Held, state}
use Rattle.sqlite.specs.declared.error.Error.{Error}
use Rattle.sqlite.specs.declared.types.Value.{Value}
use Rattle.sqlite.specs.declared.types.Value.TheVariants.{Null, Int, Real, Text, Blob}
use Rattle.sqlite.specs.State.{HasCleanDisk, Survives, Shown, FailsToQuery, CommitsShowing}
use Rattle.sqlite_value.specs.declared.keys.Key.{Key}
use Rattle.sqlite_trees.specs.View.{is_int}
use Rattle.sqlite_trees.proofs.ListLemmas.{all-permutation, all-map, all_from_map, all-slice_get, map-map, filter_all}
use Rattle.sqlite_trees.proofs.ListLemmas.{all_of}
use Rattle.sqlite_tied.specs.Compute.{everything}
use Rattle.store_sql.specs.Reading.{Listing, IsListing, Finds, always, ascending}
use Rattle.store_sql.specs.Resolving.{resolving}
use Rattle.store_sql.specs.Transactions.{Rests, Looks}
use Rattle.store_sql.specs.Writing.{IsKeyed, AreKeyed}
use Rattle.store_sql.specs.Spelling.{Spelling, spelled}
use Rattle.store_sql.proofs.Answering.{found_looks}
use Rattle.store_sql.proofs.Resolve.{one_table}
use Rattle.store_sql.proofs.Select.{IsSelect, IsPlannedSelect, listing_of}
use Rattle.store_sql.proofs.Transactions.{Shuts, Settles}
use Rattle.package_tables.specs.Form.{IsPlaced}
use Rattle.package_tables.specs.Shape.{Shape, IsShape, stored_rows}
use Rattle.package_tables.specs.Shapes.{spatial_ref_sys_shape, contents_shape}
use Rattle.package_tables.specs.Tables.{gpkg_spatial_ref_sys, gpkg_contents}
use Rattle.package_tables.proofs.Shapes.{rows_placed}
use Rattle.package_schema.specs.Looking.{SaysOf}
use Rattle.package_schema.specs.Rows.{is_filled, IsFull, AreFilled}

-- the text is a SELECT * of all rows of the table, whose answer has no NULL where no row has one
pub record IsWhole {R : Type 0} (shape : Shape R) (text : List ℕ) : Type 0 where
  pub by : List (Term × Key)
  pub selects : (spelling : Spelling) → IsSelect text (spelled shape.table spelling) always by
  pub planned : (spelling : Spelling) → IsPlannedSelect (spelled shape.table spelling) always by
  pub listing : Listing
  pub is : (spelling : Spelling) → listing_of (spelled shape.table spelling) always by [] ≡ listing
  pub keeps : (r : Row) → listing.keeps r ≡ true
  pub shows : (r : Row) → is_int (rowid r) ≡ true → is_filled (shape.table 0) r
      ≡ list_all (λ v. not (is_null v)) (listing.shown r)

systems_text : (spelling : Spelling) → IsSelect (codes "SELECT * FROM gpkg_spatial_ref_sys ORDER BY srs_id")
    (spelled gpkg_spatial_ref_sys spelling) always ((col 1 0, ascending) ∷ [])
unfolding everything
systems_text spelling = record {
  parse = _;
  asks = _;
  src = _;
  item = _;
  parsed = refl;
  statement = refl;
  formats = refl;
  one = one_table refl refl refl refl refl refl refl refl refl refl refl refl refl refl refl;
  condition = refl;
  enough = refl;
  few = λ at. refl;
  some = λ at. refl;
  sorted = λ schema at. (_, refl, refl);
}

systems_plan : (spelling : Spelling) → IsPlannedSelect (spelled gpkg_spatial_ref_sys spelling) always
    ((col 1 0, ascending) ∷ [])
unfolding resolving
systems_plan spelling schema at h = rw (h.stored, h.by_tree) refl

contents_text : (spelling : Spelling) → IsSelect (codes "SELECT * FROM gpkg_contents ORDER BY table_name")
    (spelled gpkg_contents spelling) always ((col 1 1, ascending) ∷ [])
unfolding everything
contents_text spelling = record {
  parse = _;
  asks = _;
  src = _;
  item = _;
  parsed = refl;
  statement = refl;
  formats = refl;
  one = one_table refl refl refl refl refl refl refl refl refl refl refl refl refl refl refl;
  condition = refl;
  enough = refl;
  few = λ at. refl;
  some = λ at. refl;
  sorted = λ schema at. (_, refl, refl);
}

contents_plan : (spelling : Spelling) → IsPlannedSelect (spelled gpkg_contents spelling) always
    ((col 1 1, ascending) ∷ [])
unfolding resolving
contents_plan spelling schema at h = rw (h.stored, h.by_tree) refl

int_is_value : (v : Value) → is_int v ≡ true → not (is_null v) ≡ true
int_is_value (Int i) h = refl
int_is_value Null h = absurd (false≢true h)
int_is_value (Real x) h = absurd (false≢true h)
int_is_value (Text t) h = absurd (false≢true h)
int_is_value (Blob b) h = absurd (false≢true h)

pub contents_whole : IsWhole contents_shape (codes "SELECT * FROM gpkg_contents ORDER BY table_name")
contents_whole = record {
  by = _;
  selects = contents_text;
  planned = contents_plan;
  listing = _;
  is = λ spelling. refl;
  keeps = λ r. refl;
  shows = λ r int. refl;
}

pub systems_whole : IsWhole spatial_ref_sys_shape (codes "SELECT * FROM gpkg_spatial_ref_sys ORDER BY srs_id")
systems_whole = record {
  by = _;
  selects = systems_text;
  planned = systems_plan;
  listing = _;
  is = λ spelling. refl;
  keeps = λ r. refl;
  shows = λ r int. rw (int_is_value (column r 0) int) refl;
}

-- ---- what is full

full_all : (vs : Row) → IsFull vs → list_all (λ v. not (is_null v)) vs ≡ true
full_all [] h = refl
full_all (v ∷ vs) h = rw (h.0) (full_all vs h.1)

value_not : (v : Value) → not (is_null v) ≡ true → is_null v ≡ false
value_not Null h = absurd (false≢true h)
value_not (Int i) h = refl
value_not (Real x) h = refl
value_not (Text t) h = refl
value_not (Blob b) h = refl

all_full : (vs : Row) → list_all (λ v. not (is_null v)) vs ≡ true → IsFull vs
all_full [] h = tt
all_full (v ∷ vs) h = let p = and_parts (not (is_null v)) (list_all (λ w. not (is_null w)) vs) h in
    (value_not v p.0, all_full vs p.1)

module _ {R : Type 0} (shape : Shape R) (laws : IsShape shape) {text : List ℕ} (it : IsWhole shape text) where
  int_rows : (rows : List Row) → list_all (λ r. is_int (rowid r)) rows ≡ true
      → AllByRecursion (λ r. is_int (rowid r) ≡ true) rows
  int_rows [] h = tt
  int_rows (r ∷ rows) h = let p = and_parts (is_int (rowid r)) (list_all (λ s. is_int (rowid s)) rows) h in
      (p.0, int_rows rows p.1)

  -- the rows that are shown are full where those of the table are filled
  module _ (db : Database) (keyed : AreKeyed db) (p : IsPlaced db.schema shape.table) (rows : List Row)
      (found : Finds shape.table it.listing rows db db) where
    there : List Row
    there = db.trees (spelled shape.table p.spelling).tree

    ints : AllByRecursion (λ r. is_int (rowid r) ≡ true) there
    unfolding there
    ints = int_rows there (all-slice_get (λ t. IsKeyed (db.trees t.tree)) db.schema.tables p.at
        (spelled shape.table p.spelling) p.has.there keyed).ints

    listed : IsListing it.listing.key it.listing.shown it.listing.by there rows
    unfolding there
    listed = subst (λ k. IsListing it.listing.key it.listing.shown it.listing.by k rows)
        (filter_all it.listing.keeps there (all_of (λ r. it.listing.keeps r ≡ true) it.keeps there))
        (found.listed p.at p.spelling p.has)

    same_rows : IsPermutation (map it.listing.shown there) rows
    same_rows =
        let l = listed in
        subst (IsPermutation (map it.listing.shown there)) (sym l.shows)
        (subst (λ k. IsPermutation k (map (λ (o : Row × Row). o.1) l.ordered))
        (map-map (λ (o : Row × Row). o.1) (λ r. (it.listing.key r, it.listing.shown r)) there)
        (IsPermutation-map (λ (o : Row × Row). o.1) _ _ l.same))

    to_filled : AllByRecursion IsFull rows → AllByRecursion (λ r. is_filled (shape.table 0) r ≡ true) there
    to_filled full =
        let shown = all_from_map IsFull it.listing.shown there
        (all-permutation IsFull rows (map it.listing.shown there) (IsPermutation-sym _ _ same_rows) full) in
        All-both (λ r. is_int (rowid r) ≡ true) (λ r. IsFull (it.listing.shown r))
        (λ r. is_filled (shape.table 0) r ≡ true) (λ r int f. it.shows r int ∙ full_all (it.listing.shown r) f)
        there ints shown

    to_full : AllByRecursion (λ r. is_filled (shape.table 0) r ≡ true) there → AllByRecursion IsFull rows
    to_full filled =
        let shown = All-both (λ r. is_int (rowid r) ≡ true) (λ r. is_filled (shape.table 0) r ≡ true)
        (λ r. IsFull (it.listing.shown r)) (λ r int f. all_full (it.listing.shown r)
        (sym (it.shows r int) ∙ f)) there ints filled in
        all-permutation IsFull (map it.listing.shown there) rows same_rows (all-map IsFull it.listing.shown there shown)

    pub filled_answer : (full : Bool) → (IsTrue full ↔ AllByRecursion IsFull rows)
        → (IsTrue full ↔ AllByRecursion (λ r. is_filled (shape.table 0) r ≡ true) (stored_rows shape db))
    unfolding there
    filled_answer full is =
        let same = sym (rows_placed shape laws db p.at p.spelling p.has) in (
          λ h. subst (AllByRecursion (λ r. is_filled (shape.table 0) r ≡ true)) same (to_filled (is.0 h)),
          λ h. is.1
              (to_full (subst (AllByRecursion (λ r. is_filled (shape.table 0) r ≡ true)) (sym same) h)),
        )

  pub whole_looks : {S Y E : Type 0} (items : Y → List Row) (given : Row) (same : given ≡ []) (g : Ghosts S)
      (shuts : Shuts g) (settles : Settles g) (old new : Held S) (rests : Rests (state g old)) (r : Result Y Error)
      → (HasCleanDisk (state g new) → IfOk r (λ y. Shown text given (state g old) (state g new) (items y)))
      → (HasCleanDisk (state g new) → IfErr r (FailsToQuery text given (state g old) (state g new)))
      → (old.in_transaction ≡ false → new.in_transaction ≡ false)
      → Survives (state g old) (state g new) (CommitsShowing text given (state g old))
      → (result : Result Bool E) → IfOk result (λ full. IsOkAnd r
      (λ y. IsTrue full ↔ AllByRecursion IsFull (items y)))
      → Looks (SaysOf (AreFilled shape)) (state g old) (state g new) result
  whole_looks {S} {Y} {E} items given same g shuts settles old new rests r ok err mode survives result said =
      let found = found_looks text shape.table always it.by it.selects it.planned [] refl it.listing it.is g shuts
      settles items old new rests r
      (subst (λ p. HasCleanDisk (state g new) → IfOk r (λ y. Shown text p (state g old) (state g new) (items y)))
      same
      ok)
      (subst (λ p. HasCleanDisk (state g new) → IfErr r (FailsToQuery text p (state g old) (state g new))) same err)
      mode
      (subst (λ p. Survives (state g old) (state g new) (CommitsShowing text p (state g old))) same survives) in
      record {
        rests = found.rests;
        done = λ clean. at r result (found.done clean) said;
        was_open = found.was_open;
        holds = found.holds;
        survives = found.survives;
      }
    where
      at : (r : Result Y Error) (result : Result Bool E) → IfOk r
          (λ y. IsTrue (state g new).is_open × Finds shape.table it.listing (items y) (state g old).now
          (state g new).now) → IfOk result (λ full. IsOkAnd r
          (λ y. IsTrue full ↔ AllByRecursion IsFull (items y)))
          → IfOk result (λ x. IsTrue (state g new).is_open × SaysOf (AreFilled shape) x (state g old).now
          (state g new).now)
      at (Ok y) (Ok x) found said = (
        found.0,
        (
          found.1.same,
          λ keyed placed. filled_answer (state g old).now keyed
              placed (items y) (record { same = refl; listed = found.1.listed }) x said,
        ),
      )
      at (Err e) (Ok x) found said = absurd said
      at r (Err f) found said = tt

-- a call that failed answered nothing
pub none_ok : {X E : Type 0} (P : X → Type 0) (r : Result X E) → IsErr r → IfOk r P
none_ok P (Ok x) h = cc
none_ok P (Err e) h = tt
