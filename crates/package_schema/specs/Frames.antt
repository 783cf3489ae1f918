-- Of which frame the fixed rows of a store are.
use Rattle.std.specs.Prelude.{◌≡◌, ◌&&◌, Bool, true, List, [], ◌∷◌, Option, Some, None, IsTrue}
use Rattle.std.specs.Prelude.{IsPermutation, bytes_eq}
use Rattle.std.specs.List.{AllByRecursion}
use Rattle.std.specs.Ordering.{on, int_cmp, int_eq}
use Rattle.sheet_types.specs.Matrix.{is_good_frame}
use Rattle.sheet_types.specs.Texts.{is_moment}
use Rattle.sheet_types.specs.declared.frame.Frame.{Frame}
use Rattle.package_tables.specs.Package.{Tables}
use Rattle.package_tables.specs.Calls.{AreAll, AreThose}
use Rattle.package_tables.specs.Fixed.{HasFixed, systems_of, contents_of, undated, matrix_set, levels_of}
use Rattle.package_tables.specs.Fixed.{mapping_relations}
use Rattle.package_tables.specs.declared.rows.SpatialRefSysRow.{SpatialRefSysRow}
use Rattle.package_tables.specs.declared.rows.ContentsRow.{ContentsRow}
use Rattle.package_tables.specs.declared.rows.TileMatrixSetRow.{TileMatrixSetRow}
use Rattle.package_tables.specs.declared.rows.TileMatrixRow.{TileMatrixRow}
use Rattle.package_tables.specs.declared.rows.RelationRow.{RelationRow}
use Rattle.package_v1.specs.FirstVersion.{first_relations}
use Rattle.package_schema.specs.declared.fixed_rows.FixedRows.{FixedRows}
use Rattle.package_schema.specs.declared.versions.Version.{Version}
use Rattle.package_schema.specs.declared.versions.Version.TheVariants.{First, Second}

-- the frame is good, and the fixed rows are its own, whatever the moments of the last change
abbrev pub HasFrame : Frame → Tables → Type 0
HasFrame f t = IsTrue (is_good_frame f) × HasFixed f t

-- the frame whose fixed rows the tables have, or none where there is no such frame
abbrev pub ReadsFrame : Tables → Option Frame → Type 0
ReadsFrame t (Some f) = HasFrame f t
ReadsFrame t None = (f : Frame) → HasFrame f t → ⊥

-- the relations of a version
abbrev pub relations_at : Version → List RelationRow
relations_at First = first_relations
relations_at Second = mapping_relations

-- the tables have these relations, and the fixed rows of the frame beside them
abbrev pub HasFixedWith : List RelationRow → Frame → Tables → Type 0
HasFixedWith relations f t = (t.relations ≡ relations) × HasFixed f (record t { relations = mapping_relations })

-- the same of the first version, which has two relations
abbrev pub HasFirstFrame : Frame → Tables → Type 0
HasFirstFrame f t = IsTrue (is_good_frame f) × HasFixedWith first_relations f t

abbrev pub ReadsFirstFrame : Tables → Option Frame → Type 0
ReadsFirstFrame t (Some f) = HasFirstFrame f t
ReadsFirstFrame t None = (f : Frame) → HasFirstFrame f t → ⊥

-- the last change of a table has a moment
unfoldable pub HasMoment : ContentsRow → Type 0
HasMoment c = is_moment c.last_change ≡ true

-- the last change of each table has one
abbrev pub AreDated : Tables → Type 0
AreDated t = AllByRecursion HasMoment t.contents

-- ---- the rows as they were read

-- all rows of the five tables, the levels by their zooms
pub record AreRead (t : Tables) (found : FixedRows) : Type 0 where
  pub systems : AreAll (on (λ x. x.srs_id) int_cmp) t.spatial_ref_sys found.systems.items
  pub listed : AreThose (λ _. true) t.contents found.listed.items
  pub sets : AreThose (λ _. true) t.tile_matrix_set found.sets.items
  pub levels : AreAll (on (λ x. x.zoom_level) int_cmp) t.tile_matrix found.levels.items
  pub related : AreAll (on (λ x. x.id) int_cmp) t.relations found.related.items

-- these are the fixed rows of the frame with these relations: the levels by their zooms, all others in any order
pub record AreRowsOf (relations : List RelationRow) (f : Frame) (found : FixedRows) : Type 0 where
  pub systems : IsPermutation found.systems.items (systems_of f.srs_id)
  pub listed : IsPermutation (undated found.listed.items) (contents_of f [])
  pub sets : found.sets.items ≡ matrix_set f ∷ []
  pub levels : found.levels.items ≡ levels_of f
  pub related : IsPermutation found.related.items relations

-- the frame whose rows these are, or none where there is no such frame
abbrev pub IsFrameOf : List RelationRow → FixedRows → Option Frame → Type 0
IsFrameOf relations found (Some f) = IsTrue (is_good_frame f) × AreRowsOf relations f found
IsFrameOf relations found None = (f : Frame) → IsTrue (is_good_frame f) → AreRowsOf relations f found → ⊥

-- ---- two rows, column by column

abbrev pub same_system : SpatialRefSysRow → SpatialRefSysRow → Bool
same_system a b = bytes_eq a.srs_name b.srs_name && int_eq a.srs_id b.srs_id && bytes_eq a.organization b.organization
    && int_eq a.organization_coordsys_id b.organization_coordsys_id && bytes_eq a.definition b.definition
    && bytes_eq a.description b.description

-- but for the moment of the last change
abbrev pub same_content : ContentsRow → ContentsRow → Bool
same_content a b = bytes_eq a.table_name b.table_name && bytes_eq a.data_type b.data_type
    && bytes_eq a.identifier b.identifier && bytes_eq a.description b.description
    && int_eq a.min_x b.min_x && int_eq a.min_y b.min_y && int_eq a.max_x b.max_x && int_eq a.max_y b.max_y
    && int_eq a.srs_id b.srs_id

abbrev pub same_set : TileMatrixSetRow → TileMatrixSetRow → Bool
same_set a b = bytes_eq a.table_name b.table_name && int_eq a.srs_id b.srs_id
    && int_eq a.min_x b.min_x && int_eq a.min_y b.min_y && int_eq a.max_x b.max_x && int_eq a.max_y b.max_y

abbrev pub same_level : TileMatrixRow → TileMatrixRow → Bool
same_level a b = bytes_eq a.table_name b.table_name && int_eq a.zoom_level b.zoom_level
    && int_eq a.matrix_width b.matrix_width && int_eq a.matrix_height b.matrix_height
    && int_eq a.tile_width b.tile_width && int_eq a.tile_height b.tile_height
    && int_eq a.pixel_x_size b.pixel_x_size && int_eq a.pixel_y_size b.pixel_y_size

abbrev pub same_relation : RelationRow → RelationRow → Bool
same_relation a b = int_eq a.id b.id
    && bytes_eq a.base_table_name b.base_table_name && bytes_eq a.base_primary_column b.base_primary_column
    && bytes_eq a.related_table_name b.related_table_name
    && bytes_eq a.related_primary_column b.related_primary_column
    && bytes_eq a.relation_name b.relation_name && bytes_eq a.mapping_table_name b.mapping_table_name
