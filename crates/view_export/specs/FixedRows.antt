-- The rows of an export that say what its tables are: by the frame and the package alone.
use Rattle.std.specs.Prelude.{ℕ, zero, suc, Bool, ◌||◌, List, [], ◌∷◌, ◌++◌, if◌then◌else◌, ℤ}
use Rattle.std.specs.Prelude.{pos, negsuc, ◌+ℤ◌}
use Rattle.std.specs.Prelude.{unsigned_abs, codes}
use Rattle.std.specs.Fmt.{signed_decimal}
use Rattle.std.specs.List.{join_with_byte}
use Rattle.std.specs.Ordering.{int_eq}
use Rattle.matrix_rules.specs.Axes.{axes}
use Rattle.matrix_rules.specs.declared.axis.Axes.{Axes}
use Rattle.sheet_types.specs.Texts.{uuid_text}
use Rattle.sheet_types.specs.declared.frame.Frame.{Frame}
use Rattle.view_export.specs.Statements.{insert, thousandths}

-- ---- reference systems (1.1.2)

abbrev pub undefined_cartesian : List ℕ
undefined_cartesian = insert (codes "gpkg_spatial_ref_sys")
    (codes "'Undefined Cartesian SRS'" ∷ codes "-1" ∷ codes "'NONE'" ∷ codes "-1" ∷ codes "'undefined'"
    ∷ codes "'undefined Cartesian coordinate reference system'" ∷ [])

abbrev pub undefined_geographic : List ℕ
undefined_geographic = insert (codes "gpkg_spatial_ref_sys")
    (codes "'Undefined geographic SRS'" ∷ codes "0" ∷ codes "'NONE'" ∷ codes "0" ∷ codes "'undefined'"
    ∷ codes "'undefined geographic coordinate reference system'" ∷ [])

-- its well-known text (OGC 01-009, 7)
abbrev pub wgs_84_definition : List ℕ
wgs_84_definition =
    codes "'GEOGCS[\"WGS 84\",DATUM[\"WGS_1984\",SPHEROID[\"WGS 84\",6378137,298.257223563,"
    ++ (codes "AUTHORITY[\"EPSG\",\"7030\"]],AUTHORITY[\"EPSG\",\"6326\"]],PRIMEM[\"Greenwich\",0,"
    ++ (codes "AUTHORITY[\"EPSG\",\"8901\"]],UNIT[\"degree\",0.0174532925199433,"
    ++ codes "AUTHORITY[\"EPSG\",\"9122\"]],AUTHORITY[\"EPSG\",\"4326\"]]'"))

abbrev pub wgs_84 : List ℕ
wgs_84 = insert (codes "gpkg_spatial_ref_sys")
    (codes "'WGS 84 geodetic'" ∷ codes "4326" ∷ codes "'EPSG'" ∷ codes "4326" ∷ wgs_84_definition
    ∷ codes "'longitude/latitude coordinates in decimal degrees on the WGS 84 spheroid'" ∷ [])

-- the systems that each GeoPackage has
abbrev pub is_standard : ℤ → Bool
is_standard srs = int_eq srs (negsuc 0) || (int_eq srs (pos 0) || int_eq srs (pos 4326))

-- one that the register knows by its number alone
abbrev pub numbered_system : ℤ → List ℕ
numbered_system srs = insert (codes "gpkg_spatial_ref_sys")
    ((codes "'EPSG:" ++ (signed_decimal srs ++ codes "'")) ∷ signed_decimal srs ∷ codes "'EPSG'"
    ∷ signed_decimal srs
    ∷ codes "'undefined'" ∷ codes "NULL" ∷ [])

-- the system of a frame, where it is none of those
abbrev pub own_system : ℤ → List ℕ
own_system srs = if is_standard srs then [] else numbered_system srs

abbrev pub reference_systems : ℤ → List ℕ
reference_systems srs = undefined_cartesian ++ (undefined_geographic ++ (wgs_84 ++ own_system srs))

-- ---- contents (1.1.3)

-- the bounds of the frame and its system
abbrev pub bounds : Frame → List ℕ
bounds f = join_with_byte 44
    (thousandths f.min_x ∷ thousandths f.min_y ∷ thousandths f.max_x ∷ thousandths f.max_y
    ∷ signed_decimal f.srs_id
    ∷ [])

abbrev pub no_bounds : List ℕ
no_bounds = codes "NULL,NULL,NULL,NULL,NULL"

-- A table of this type. Its last change is the moment in which the text is read, by the default of the standard.
abbrev pub contents_row : List ℕ → List ℕ → List ℕ → List ℕ → List ℕ
contents_row name type p ends = insert
    (codes "gpkg_contents (table_name,data_type,identifier,description,min_x,min_y,max_x,max_y,srs_id)")
    (name ∷ type ∷ name ∷ (codes "'package " ++ (uuid_text p ++ codes "'")) ∷ ends ∷ [])

-- what is drawn on a map
abbrev pub layers : Frame → List ℕ → List ℕ
layers f p =
    contents_row (codes "'sheet_tiles'") (codes "'tiles'") p (bounds f)
    ++ (contents_row (codes "'sheet_rows'") (codes "'features'") p (bounds f)
    ++ contents_row (codes "'sheet_tile_identity'") (codes "'features'") p (bounds f))

-- A table without geometry. One that has no row here is not opened by QGIS.
abbrev pub attributes_row : List ℕ → List ℕ → List ℕ
attributes_row name p = contents_row name (codes "'attributes'") p no_bounds

abbrev pub other_tables : List ℕ → List ℕ
other_tables p =
    attributes_row (codes "'sheet_media'") p ++ (attributes_row (codes "'tiles_media'") p
    ++ (attributes_row (codes "'rows_media'") p ++ (attributes_row (codes "'rows_tiles'") p
    ++ attributes_row (codes "'layer_styles'") p)))

abbrev pub contents : Frame → List ℕ → List ℕ
contents f p = layers f p ++ other_tables p

-- ---- features and tiles

-- geometries of this type, without height and measure (2.1.5)
abbrev pub geometry_column : List ℕ → List ℕ → ℤ → List ℕ
geometry_column name type srs = insert (codes "gpkg_geometry_columns")
    (name ∷ codes "'geom'" ∷ type ∷ signed_decimal srs ∷ codes "0" ∷ codes "0" ∷ [])

abbrev pub geometry_columns : ℤ → List ℕ
geometry_columns srs =
    geometry_column (codes "'sheet_rows'") (codes "'POINT'") srs
    ++ geometry_column (codes "'sheet_tile_identity'") (codes "'POLYGON'") srs

-- 2.2.6
abbrev pub matrix_set : Frame → List ℕ
matrix_set f = insert (codes "gpkg_tile_matrix_set")
    (codes "'sheet_tiles'" ∷ signed_decimal f.srs_id
    ∷ thousandths f.min_x ∷ thousandths f.min_y ∷ thousandths f.max_x ∷ thousandths f.max_y ∷ [])

-- two values with a comma between them
abbrev pub pair : List ℕ → List ℕ → List ℕ
pair first second = first ++ (codes "," ++ second)

-- a zoom level of these axes: the columns and rows of tiles, the pixels of a tile, the ground of a pixel (2.2.7)
abbrev pub matrix_row : Frame → ℤ → Axes → List ℕ
matrix_row f zoom a = insert (codes "gpkg_tile_matrix")
    (codes "'sheet_tiles'" ∷ signed_decimal zoom
    ∷ pair (signed_decimal a.across.tiles) (signed_decimal a.down.tiles)
    ∷ pair (signed_decimal f.tile_width) (signed_decimal f.tile_height)
    ∷ pair (thousandths a.across.pixel_size) (thousandths a.down.pixel_size) ∷ [])

abbrev pub matrix : Frame → ℤ → List ℕ
matrix f zoom = matrix_row f zoom (axes f zoom)

-- so many levels, from the first
abbrev pub matrices : Frame → ℕ → List ℕ
matrices f zero = []
matrices f (suc k) = matrices f k ++ matrix f (f.first_zoom +ℤ pos k)

-- ---- relations (OGC 18-000)

-- a table that the extension speaks of (GeoPackage 1.3, 2.3.2)
abbrev pub extension : List ℕ → List ℕ
extension name = insert (codes "gpkg_extensions")
    (name ∷ codes "NULL" ∷ codes "'gpkg_related_tables'"
    ∷ codes "'http://www.geopackage.org/18-000.html'" ∷ codes "'read-write'" ∷ [])

abbrev pub extensions : List ℕ
extensions =
    extension (codes "'gpkgext_relations'") ++ (extension (codes "'tiles_media'")
    ++ (extension (codes "'rows_media'") ++ extension (codes "'rows_tiles'")))

-- a mapping table and what it relates
abbrev pub relation : List ℕ → List ℕ → List ℕ → List ℕ → List ℕ → List ℕ
relation n base related name mapping = insert (codes "gpkgext_relations")
    (n ∷ base ∷ codes "'id'" ∷ related ∷ codes "'id'" ∷ name ∷ mapping ∷ [])

abbrev pub relations : List ℕ
relations =
    relation (codes "1") (codes "'sheet_tiles'") (codes "'sheet_media'") (codes "'media'") (codes "'tiles_media'")
    ++ (relation (codes "2") (codes "'sheet_rows'") (codes "'sheet_media'") (codes "'media'") (codes "'rows_media'")
    ++ relation (codes "3") (codes "'sheet_rows'") (codes "'sheet_tiles'") (codes "'tiles'") (codes "'rows_tiles'"))

-- ---- all

abbrev pub fixed_rows : Frame → List ℕ → List ℕ
fixed_rows f p =
    reference_systems f.srs_id ++ (contents f p ++ (geometry_columns f.srs_id ++ (matrix_set f
    ++ (matrices f (unsigned_abs f.levels) ++ (extensions ++ relations)))))
