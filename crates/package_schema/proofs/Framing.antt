-- The fixed rows as they were read are those of the tables, which stand in the order of their keys.
use Rattle.std.proofs.Common.{◌≡◌, ◌<◌, ◌+◌, ℕ, zero, suc, ℤ, pos, ◌≤ℤ◌, ◌+ℤ◌, List}
use Rattle.std.proofs.Common.{[], ◌∷◌, map, Bool, true, false}
use Rattle.std.proofs.Common.{Option, Some, None, refl, sym, ap, subst, ◌∙◌, arith, IsTrue, unsigned_abs}
use Rattle.std.specs.Prelude.{◌↔◌, IsPermutation, bytes_eq}
use Rattle.std.specs.List.{AllByRecursion, range_with_len}
use Rattle.std.specs.Ordering.{on, int_cmp}
use Rattle.std.proofs.lemmas.Int.{ints}
use Rattle.std.proofs.lemmas.List.Sorted.{IsPermutation-refl, IsPermutation-sym, IsPermutation-trans, IsPermutation-map}
use Rattle.sqlite_trees.specs.Tree.{IsAscending}
use Rattle.sqlite.specs.Effect.{Database}
use Rattle.sheet_types.specs.Matrix.{is_good_frame}
use Rattle.sheet_types.specs.Ordered.{IsArranged, arranged}
use Rattle.sheet_types.specs.declared.frame.Frame.{Frame}
use Rattle.sheet_types.proofs.Every.{none_pass}
use Rattle.sheet_types.proofs.Order.{put_arranged}
use Rattle.matrix_rules.proofs.Frames.{good_frame}
use Rattle.package_tables.specs.Calls.{AreAll, AreThose}
use Rattle.package_tables.specs.Fixed.{HasFixed, standard_systems, own_system, is_standard, systems_of, contents_of}
use Rattle.package_tables.specs.Fixed.{undated, matrix_set, level_row, first_levels, levels_of, mapping_relations}
use Rattle.package_tables.specs.Package.{Tables, tables_of}
use Rattle.package_tables.specs.Shape.{stored_rows}
use Rattle.package_tables.specs.Shapes.{spatial_ref_sys_shape, contents_shape, tile_matrix_shape, relation_shape}
use Rattle.package_tables.specs.Shapes.{signed_key}
use Rattle.package_tables.specs.declared.rows.ContentsRow.{ContentsRow}
use Rattle.package_tables.specs.declared.rows.TileMatrixRow.{TileMatrixRow}
use Rattle.package_tables.specs.declared.rows.TileMatrixSetRow.{TileMatrixSetRow}
use Rattle.package_tables.proofs.FixedRows.{own_free, own_comes, standard_suffices, level_free, level_comes}
use Rattle.package_v1.specs.FirstVersion.{first_relations}
use Rattle.package_tables.specs.declared.rows.RelationRow.{RelationRow}
use Rattle.package_schema.specs.Frames.{AreRead, AreRowsOf, HasFixedWith, IsFrameOf, ReadsFrame, ReadsFirstFrame}
use Rattle.package_schema.specs.declared.fixed_rows.FixedRows.{FixedRows}
use Rattle.package_schema.proofs.Ascending.{Up, sorted_same}
use Rattle.package_schema.proofs.Claiming.{map_arranged}
use Rattle.package_schema.proofs.Dating.{all_pass}
use Rattle.package_schema.proofs.Having.{arranged_is}
use Rattle.package_schema.proofs.Heading.{single}

-- ---- the rows that a frame asks for stand in the order of their keys

pub standard_order : IsArranged spatial_ref_sys_shape.key standard_systems
standard_order = ((refl, (refl, tt)), ((refl, tt), (tt, tt)))

pub systems_order : (n : ℤ) → IsArranged spatial_ref_sys_shape.key (systems_of n)
systems_order n = one (is_standard n) refl
  where
    one : (b : Bool) → is_standard n ≡ b → IsArranged spatial_ref_sys_shape.key (systems_of n)
    one true e = subst (IsArranged spatial_ref_sys_shape.key) (sym (standard_suffices n e)) standard_order
    one false e = subst (IsArranged spatial_ref_sys_shape.key) (own_comes n e)
        (put_arranged spatial_ref_sys_shape.key (own_system n) standard_systems standard_order
        (none_pass (λ y. bytes_eq (spatial_ref_sys_shape.key y) (signed_key n)) standard_systems (own_free n e)))

pub contents_order : (f : Frame) (at : List ℕ) → IsArranged contents_shape.key (contents_of f at)
contents_order f at = ((refl, (refl, tt)), ((refl, tt), (tt, tt)))

pub relations_order : IsArranged relation_shape.key mapping_relations
relations_order = ((refl, (refl, tt)), ((refl, tt), (tt, tt)))

levels_order : (f : Frame) (n : ℕ) → pos 0 ≤ℤ f.first_zoom → IsArranged tile_matrix_shape.key
    (first_levels f n)
levels_order f zero low = tt
levels_order f (suc n) low = subst (IsArranged tile_matrix_shape.key)
    (level_comes f n low ∙ ap (first_levels f) (let e : n + 1 ≡ suc n = omega arith in e))
    (put_arranged tile_matrix_shape.key (level_row f (f.first_zoom +ℤ pos n)) (first_levels f n)
    (levels_order f n low) (none_pass (λ y. bytes_eq (tile_matrix_shape.key y)
    (tile_matrix_shape.key (level_row f (f.first_zoom +ℤ pos n)))) (first_levels f n) (level_free f n low)))

-- the levels rise
above : (f : Frame) (k a n : ℕ) → k < a → AllByRecursion (Up (λ (m : TileMatrixRow). m.zoom_level)
    (level_row f (f.first_zoom +ℤ pos k))) (map (λ j. level_row f (f.first_zoom +ℤ pos j)) (range_with_len a n))
above f k a zero less = tt
above f k a (suc n) less = (omega (arith, ints, less), above f k (a + 1) n (omega (arith, less)))

levels_up : (f : Frame) (a n : ℕ) → IsAscending (Up (λ (m : TileMatrixRow). m.zoom_level))
    (map (λ j. level_row f (f.first_zoom +ℤ pos j)) (range_with_len a n))
levels_up f a zero = tt
levels_up f a (suc n) = (above f a (a + 1) n (omega arith), levels_up f (a + 1) n)

-- ---- a table and what was read of it

module _ {R : Type 0} (key : R → List ℕ) (raw found es : List R) (order : IsArranged key es)
    (read : IsPermutation (arranged key raw) found) where
  pub table_same : IsPermutation found es ↔ (arranged key raw ≡ es)
  table_same = (
    λ same. arranged_is key raw es (IsPermutation-trans (arranged key raw) found es read same) order,
    λ e. subst (IsPermutation found) e (IsPermutation-sym (arranged key raw) found read),
  )

abbrev pub undate : ContentsRow → ContentsRow
undate c = record c { last_change = [] }

those : {X : Type 0} (rows found : List X) → AreThose (λ _. true) rows found → IsPermutation rows found
those rows found are = subst (λ l. IsPermutation l found) (all_pass rows) are

contents_same : (raw found es : List ContentsRow) → IsArranged contents_shape.key es
    → IsPermutation (arranged contents_shape.key raw) found → IsPermutation (undated found) es ↔
    (undated (arranged contents_shape.key raw) ≡ es)
contents_same raw found es order read =
    let turned : undated (arranged contents_shape.key raw) ≡ arranged contents_shape.key (undated raw) =
    map_arranged undate contents_shape.key raw in
    let both = table_same contents_shape.key (undated raw) (undated found) es order
    (subst (λ l. IsPermutation l (undated found)) turned
    (IsPermutation-map undate (arranged contents_shape.key raw) found read)) in
    (λ same. turned ∙ both.0 same, λ e. both.1 (sym turned ∙ e))

levels_same : (f : Frame) → pos 0 ≤ℤ f.first_zoom → (raw found : List TileMatrixRow)
    → AreAll (on (λ x. x.zoom_level) int_cmp) (arranged tile_matrix_shape.key raw) found
    → (found ≡ levels_of f) ↔ (arranged tile_matrix_shape.key raw ≡ levels_of f)
levels_same f low raw found all =
    let es = levels_of f in (
      λ e. (table_same tile_matrix_shape.key raw found es (levels_order f (unsigned_abs f.levels) low) all.0).0
          (subst (λ l. IsPermutation l es) (sym e) (IsPermutation-refl es)),
      λ e. sorted_same (λ (m : TileMatrixRow). m.zoom_level) es found (levels_up f 0 (unsigned_abs f.levels))
          (subst (λ l. IsPermutation l found) e all.0) all.1,
    )

sets_same : (rows found : List TileMatrixSetRow) (s : TileMatrixSetRow) → IsPermutation rows found
    → (found ≡ s ∷ []) ↔ (rows ≡ s ∷ [])
sets_same rows found s read = (
  λ e. single rows found s read e,
  λ e. single found rows s
      (IsPermutation-sym rows found read) e,
)

-- ---- the tables

pub first_order : IsArranged relation_shape.key first_relations
first_order = ((refl, tt), (tt, tt))

pub frame_same : (rels : List RelationRow) → IsArranged relation_shape.key rels → (f : Frame)
    → IsTrue (is_good_frame f) → (db : Database) (found : FixedRows) → AreRead (tables_of db) found
    → AreRowsOf rels f found ↔ HasFixedWith rels f (tables_of db)
frame_same rels order f good db found read =
    let t = tables_of db in
    let low : pos 0 ≤ℤ f.first_zoom = (good_frame f good).first_zoom in
    let systems = table_same spatial_ref_sys_shape.key (map spatial_ref_sys_shape.typed
    (stored_rows spatial_ref_sys_shape db)) found.systems.items (systems_of f.srs_id) (systems_order f.srs_id)
    read.systems.0 in
    let listed = contents_same (map contents_shape.typed (stored_rows contents_shape db)) found.listed.items
    (contents_of f []) (contents_order f []) (those t.contents found.listed.items read.listed) in
    let sets = sets_same t.tile_matrix_set found.sets.items (matrix_set f)
    (those t.tile_matrix_set found.sets.items read.sets) in
    let levels = levels_same f low (map tile_matrix_shape.typed (stored_rows tile_matrix_shape db)) found.levels.items
    read.levels in
    let related = table_same relation_shape.key (map relation_shape.typed (stored_rows relation_shape db))
    found.related.items rels order read.related.0 in (
      λ are. (
        related.0 are.related,
        record {
          spatial_ref_sys = systems.0 are.systems;
          contents = listed.0 are.listed;
          tile_matrix_set = sets.0 are.sets;
          tile_matrix = levels.0 are.levels;
          relations = refl;
        },
      ),
      λ has. record {
        systems = systems.1 has.1.spatial_ref_sys;
        listed = listed.1 has.1.contents;
        sets = sets.1 has.1.tile_matrix_set;
        levels = levels.1 has.1.tile_matrix;
        related = related.1 has.0;
      },
    )

-- the relations of the second version are those of the fixed rows
whole_fixed : (f : Frame) (t : Tables) → HasFixedWith mapping_relations f t → HasFixed f t
whole_fixed f t has = record {
  spatial_ref_sys = has.1.spatial_ref_sys;
  contents = has.1.contents;
  tile_matrix_set = has.1.tile_matrix_set;
  tile_matrix = has.1.tile_matrix;
  relations = has.0;
}

parted_fixed : (f : Frame) (t : Tables) → HasFixed f t → HasFixedWith mapping_relations f t
parted_fixed f t has = (
  has.relations,
  record {
    spatial_ref_sys = has.spatial_ref_sys;
    contents = has.contents;
    tile_matrix_set = has.tile_matrix_set;
    tile_matrix = has.tile_matrix;
    relations = refl;
  },
)

pub frame_read : (db : Database) (found : FixedRows) → AreRead (tables_of db) found → (r : Option Frame)
    → IsFrameOf mapping_relations found r → ReadsFrame (tables_of db) r
frame_read db found read (Some f) is = (
  is.0,
  whole_fixed f (tables_of db)
      ((frame_same mapping_relations relations_order f is.0 db found read).0 is.1),
)
frame_read db found read None none = λ f has. none f has.0 ((frame_same mapping_relations relations_order f has.0 db
    found read).1 (parted_fixed f (tables_of db) has.1))

pub first_frame_read : (db : Database) (found : FixedRows) → AreRead (tables_of db) found → (r : Option Frame)
    → IsFrameOf first_relations found r → ReadsFirstFrame (tables_of db) r
first_frame_read db found read (Some f) is = (
  is.0,
  (frame_same first_relations first_order f is.0 db found read).0
      is.1,
)
first_frame_read db found read None none = λ f has. none f has.0
    ((frame_same first_relations first_order f has.0 db found read).1 has.1)
