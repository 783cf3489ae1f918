-- The rows that are the same in every package but for the frame and the moment of the last change. OGC GeoPackage 1.3
-- (spatial reference systems, contents, tile matrix sets, tile matrices) and OGC 18-000 (relations) say which rows
-- have to be there; names, definitions and bounds are profile.
use Rattle.std.specs.Prelude.{◌≡◌, ℕ, ℤ, pos, negsuc, ◌+ℤ◌, unsigned_abs, ◌||◌, Bool, List, []}
use Rattle.std.specs.Prelude.{◌∷◌, ◌++◌, map, codes, if◌then◌else◌}
use Rattle.std.specs.Ordering.{int_eq}
use Rattle.std.specs.List.{range_with_len}
use Rattle.std.specs.Fmt.{signed_decimal}
use Rattle.sheet_types.specs.Ordered.{put}
use Rattle.sheet_types.specs.Matrix.{width_at, height_at, level_of, pixel_x_size, pixel_y_size}
use Rattle.sheet_types.specs.declared.frame.Frame.{Frame}
use Rattle.package_tables.specs.Shapes.{spatial_ref_sys_shape}
use Rattle.package_tables.specs.Package.{Tables}
use Rattle.package_tables.specs.declared.rows.SpatialRefSysRow.{SpatialRefSysRow}
use Rattle.package_tables.specs.declared.rows.ContentsRow.{ContentsRow}
use Rattle.package_tables.specs.declared.rows.TileMatrixSetRow.{TileMatrixSetRow}
use Rattle.package_tables.specs.declared.rows.TileMatrixRow.{TileMatrixRow}
use Rattle.package_tables.specs.declared.rows.RelationRow.{RelationRow}

abbrev pub system : List ℕ → ℤ → List ℕ → List ℕ → SpatialRefSysRow
system name number organization definition = record {
  srs_name = name;
  srs_id = number;
  organization = organization;
  organization_coordsys_id = number;
  definition = definition;
  description = [];
}

-- the three reference systems that each package has, by their numbers
abbrev pub standard_systems : List SpatialRefSysRow
standard_systems =
    system (codes "undefined cartesian") (negsuc 0) (codes "NONE") (codes "undefined")
    ∷ system (codes "undefined geographic") (pos 0) (codes "NONE") (codes "undefined")
    ∷ system (codes "WGS 84") (pos 4326) (codes "EPSG") (codes "profile")
    ∷ []

-- the reference system of a frame that has none of the three
abbrev pub own_system : ℤ → SpatialRefSysRow
own_system n = system (codes "srs " ++ signed_decimal n) n (codes "EPSG") (codes "profile")

abbrev pub is_standard : ℤ → Bool
is_standard n = int_eq n (negsuc 0) || int_eq n (pos 0) || int_eq n (pos 4326)

-- the reference systems of a package whose frame has this one, by their numbers
abbrev pub systems_of : ℤ → List SpatialRefSysRow
systems_of n = if is_standard n then standard_systems else put spatial_ref_sys_shape.key (own_system n) standard_systems

-- the row of a table in the contents
abbrev pub content : List ℕ → List ℕ → Frame → List ℕ → ContentsRow
content name kind f at = record {
  table_name = name;
  data_type = kind;
  identifier = name;
  description = [];
  last_change = at;
  min_x = f.min_x;
  min_y = f.min_y;
  max_x = f.max_x;
  max_y = f.max_y;
  srs_id = f.srs_id;
}

-- the contents, by the names of the tables
abbrev pub contents_of : Frame → List ℕ → List ContentsRow
contents_of f at =
    content (codes "sheet_media") (codes "attributes") f at
    ∷ content (codes "sheet_rows") (codes "attributes") f at
    ∷ content (codes "sheet_tiles") (codes "tiles") f at
    ∷ []

abbrev pub matrix_set : Frame → TileMatrixSetRow
matrix_set f = record {
  table_name = codes "sheet_tiles";
  srs_id = f.srs_id;
  min_x = f.min_x;
  min_y = f.min_y;
  max_x = f.max_x;
  max_y = f.max_y;
}

-- the tile matrix of a zoom level
abbrev pub level_row : Frame → ℤ → TileMatrixRow
level_row f zoom = record {
  table_name = codes "sheet_tiles";
  zoom_level = zoom;
  matrix_width = width_at f (level_of f zoom);
  matrix_height = height_at f (level_of f zoom);
  tile_width = f.tile_width;
  tile_height = f.tile_height;
  pixel_x_size = pixel_x_size f zoom;
  pixel_y_size = pixel_y_size f zoom;
}

-- the tile matrices of the first levels, and of all, by their zooms
abbrev pub first_levels : Frame → ℕ → List TileMatrixRow
first_levels f n = map (λ k. level_row f (f.first_zoom +ℤ pos k)) (range_with_len 0 n)

abbrev pub levels_of : Frame → List TileMatrixRow
levels_of f = first_levels f (unsigned_abs f.levels)

-- a mapping table, by the tables of its two ends and the name of what the other end is
abbrev pub relation : ℤ → List ℕ → List ℕ → List ℕ → List ℕ → RelationRow
relation number base related name mapping = record {
  id = number;
  base_table_name = base;
  base_primary_column = codes "id";
  related_table_name = related;
  related_primary_column = codes "id";
  relation_name = name;
  mapping_table_name = mapping;
}

abbrev pub mapping_relations : List RelationRow
mapping_relations =
    relation (pos 1) (codes "sheet_tiles") (codes "sheet_media") (codes "media") (codes "tiles_media")
    ∷ relation (pos 2) (codes "sheet_rows") (codes "sheet_media") (codes "media") (codes "rows_media")
    ∷ relation (pos 3) (codes "sheet_rows") (codes "sheet_tiles") (codes "tiles") (codes "rows_tiles")
    ∷ []

-- the contents whatever the moments of the last change
abbrev pub undated : List ContentsRow → List ContentsRow
undated = map (λ (c : ContentsRow). record c { last_change = [] })

-- these lists are the fixed rows of the frame, with no others beside them
pub record AreFixed (f : Frame) (systems : List SpatialRefSysRow) (listed : List ContentsRow)
    (sets : List TileMatrixSetRow) (levels : List TileMatrixRow) (related : List RelationRow) : Type 0 where
  pub spatial_ref_sys : systems ≡ systems_of f.srs_id
  pub contents : undated listed ≡ contents_of f []
  pub tile_matrix_set : sets ≡ matrix_set f ∷ []
  pub tile_matrix : levels ≡ levels_of f
  pub relations : related ≡ mapping_relations

-- the tables have the fixed rows of the frame, and no others beside them
abbrev pub HasFixed : Frame → Tables → Type 0
HasFixed f t = AreFixed f t.spatial_ref_sys t.contents t.tile_matrix_set t.tile_matrix t.relations
