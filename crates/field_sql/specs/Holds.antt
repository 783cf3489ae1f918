-- The SQL by which stock `sqlite3` lists what a GeoPackage holds. Profile; what it prints is told in FORMATS.md.
use Rattle.std.specs.Prelude.{ℕ, List, [], ◌∷◌, ◌++◌, codes}

-- a line each
abbrev pub lines : List (List ℕ) → List ℕ
lines [] = []
lines (x ∷ xs) = x ++ (codes "\n" ++ lines xs)

abbrev pub joined : List (List ℕ) → List ℕ
joined [] = []
joined (x ∷ xs) = x ++ joined xs

-- ---- expressions that stand twice

-- the bits of a double as a whole number, from this digit of a point's body on; no number where it is none
abbrev pub double_at : List ℕ → List ℕ
double_at digit = joined
    (codes "CASE WHEN length(body) = 42 AND substr(body, 1, 10) IN ('0101000000', '0000000001') THEN"
    ∷ codes "\n    (SELECT sum(instr('123456789ABCDEF', substr(body, " ∷ digit
    ∷ codes " + place, 1)) << CASE substr(body, 2, 1)"
    ∷ codes "\n      WHEN '1' THEN 4 * (place + 1 - place % 2 * 2) ELSE 60 - 4 * place END) FROM read_places) END"
    ∷ [])

-- the nearest thousandth of the double of these bits, ties away from zero; none from 2^52 on, and of no number
abbrev pub thousandths_of : List ℕ → List ℕ
thousandths_of bits = joined
    (codes "CASE WHEN ((" ∷ bits ∷ codes " >> 52) & 2047) < 1075 THEN"
    ∷ codes "\n    (((((" ∷ bits ∷ codes " & 4503599627370495) | ((((" ∷ bits
    ∷ codes " >> 52) & 2047) > 0) << 52)) * 1000"
    ∷ codes "\n    >> (1074 - ((" ∷ bits ∷ codes " >> 52) & 2047))) + 1) >> 1)"
    ∷ codes "\n    * CASE WHEN " ∷ bits ∷ codes " < 0 THEN -1 ELSE 1 END END"
    ∷ [])

-- the number of a reference system: EPSG's, or -1 and 0
abbrev pub system_number : List ℕ → List ℕ → List ℕ
system_number row system = joined
    (codes "CASE upper(" ∷ system ∷ codes ".organization) WHEN 'EPSG' THEN " ∷ system
    ∷ codes ".organization_coordsys_id"
    ∷ codes "\n    WHEN 'NONE' THEN CASE WHEN " ∷ row ∷ codes ".srs_id IN (-1, 0) THEN " ∷ row
    ∷ codes ".srs_id END END"
    ∷ [])

-- the tile of this number, or the one that stands now at the place where it stood
abbrev pub tile_held : List ℕ → List ℕ
tile_held number = joined
    (codes "coalesce((SELECT id FROM sheet_tiles WHERE id = " ∷ number ∷ codes "),"
    ∷ codes "\n    (SELECT n.id FROM sheet_tile_identity i JOIN sheet_tiles n ON n.zoom_level = i.zoom_level"
    ∷ codes "\n    AND n.tile_column = i.tile_column AND n.tile_row = i.tile_row WHERE i.id = " ∷ number
    ∷ codes "))"
    ∷ [])

-- a UUID as it stands there, or nothing
abbrev pub uuid_or_empty : List ℕ → List ℕ
uuid_or_empty column = joined
    (codes "CASE WHEN typeof(" ∷ column ∷ codes ") = 'text' AND instr(" ∷ column ∷ codes ", char(0)) = 0"
    ∷ codes "\n    AND " ∷ column ∷ codes " LIKE '________-____-____-____-____________' AND length(replace("
    ∷ column ∷ codes ", '-', '')) = 32"
    ∷ codes "\n    AND " ∷ column ∷ codes " NOT GLOB '*[^0-9a-fA-F-]*' THEN " ∷ column ∷ codes " ELSE '' END"
    ∷ [])

-- ---- the statements

-- how the shell prints, and the beginning of one transaction
abbrev pub start : List ℕ
start = lines
    (codes ".mode list"
    ∷ codes ".headers off"
    ∷ codes ".bail on"
    ∷ codes "BEGIN;"
    ∷ [])

-- the tables of an export under the names that are read
abbrev pub own_tables : List ℕ
own_tables = lines
    (codes "CREATE TEMP VIEW sheet_matrix_set AS"
    ∷ codes "SELECT * FROM main.gpkg_tile_matrix_set WHERE table_name = 'sheet_tiles';"
    ∷ codes "CREATE TEMP VIEW sheet_matrix AS"
    ∷ codes "SELECT * FROM main.gpkg_tile_matrix WHERE table_name = 'sheet_tiles';"
    ∷ codes "CREATE TEMP VIEW sheet_points_system AS"
    ∷ codes "SELECT srs_id FROM main.gpkg_geometry_columns WHERE table_name = 'sheet_rows' AND column_name = 'geom';"
    ∷ [])

-- points: whole thousandths of the two doubles, and what is at fault with a row
abbrev pub points : List ℕ
points = lines
    (codes "CREATE TEMP VIEW read_places(place) AS"
    ∷ codes "VALUES (0),(1),(2),(3),(4),(5),(6),(7),(8),(9),(10),(11),(12),(13),(14),(15);"
    ∷ codes "CREATE TEMP VIEW read_heads AS"
    ∷ codes "SELECT id, code, label, uuid, geom,"
    ∷ codes "  CASE WHEN typeof(geom) = 'blob' AND substr(geom, 1, 3) = x'475000' THEN"
    ∷ codes "    16 * instr('123456789ABCDEF', substr(hex(substr(geom, 4, 1)), 1, 1))"
    ∷ codes "    + instr('123456789ABCDEF', substr(hex(substr(geom, 4, 1)), 2, 1)) END AS flags"
    ∷ codes "FROM sheet_rows;"
    ∷ codes "CREATE TEMP TABLE read_bodies AS"
    ∷ codes "SELECT id, code, label, uuid, hex(substr(geom, 5, 4)) AS system, flags & 1 AS little,"
    ∷ codes "  CASE WHEN flags & 48 = 0 THEN hex(substr(geom, 9 + CASE (flags >> 1) & 7"
    ∷ codes "    WHEN 0 THEN 0 WHEN 1 THEN 32 WHEN 2 THEN 48 WHEN 3 THEN 48 WHEN 4 THEN 64 END, 22)) END AS body"
    ∷ codes "FROM read_heads;"
    ∷ codes "CREATE TEMP TABLE read_bits AS"
    ∷ codes "SELECT id, code, label, uuid, CASE little"
    ∷ codes "    WHEN 1 THEN substr(system, 7, 2) || substr(system, 5, 2) || substr(system, 3, 2)"
    ∷ codes "      || substr(system, 1, 2)"
    ∷ codes "    ELSE system END AS system,"
    ∷ (codes "  " ++ (double_at (codes "11") ++ codes " AS x,"))
    ∷ (codes "  " ++ (double_at (codes "27") ++ codes " AS y"))
    ∷ codes "FROM read_bodies;"
    ∷ codes "CREATE TEMP TABLE read_points AS"
    ∷ codes "SELECT id, label, uuid, system, CASE typeof(code)"
    ∷ codes "    WHEN 'integer' THEN code"
    ∷ codes "    WHEN 'real' THEN CASE WHEN code = CAST(code AS INTEGER) THEN CAST(code AS INTEGER) END"
    ∷ codes "    WHEN 'text' THEN CASE WHEN length(code) BETWEEN 1 AND 9 AND instr(code, char(0)) = 0"
    ∷ codes "      AND code NOT GLOB '*[^0-9]*' THEN CAST(code AS INTEGER) END END AS code,"
    ∷ (codes "  " ++ (thousandths_of (codes "x") ++ codes " AS x,"))
    ∷ (codes "  " ++ (thousandths_of (codes "y") ++ codes " AS y"))
    ∷ codes "FROM read_bits;"
    ∷ codes "CREATE TEMP VIEW read_system AS"
    ∷ codes "SELECT c.srs_id, printf('%08X', c.srs_id & 4294967295) AS spelled,"
    ∷ (codes "  " ++ (system_number (codes "c") (codes "s") ++ codes " AS system"))
    ∷ codes "FROM sheet_points_system c LEFT JOIN gpkg_spatial_ref_sys s ON s.srs_id = c.srs_id;"
    ∷ codes "CREATE TEMP TABLE read_rows AS"
    ∷ codes "SELECT id, x, y, code, label, uuid, CASE"
    ∷ codes "    WHEN x IS NULL OR y IS NULL THEN 'geometry'"
    ∷ codes "    WHEN system <> (SELECT spelled FROM read_system) THEN 'system'"
    ∷ codes "    WHEN code IS NULL THEN 'code'"
    ∷ codes "    WHEN typeof(label) = 'blob' OR instr(label, char(0)) > 0 THEN 'label' END AS fault"
    ∷ codes "FROM read_points;"
    ∷ [])

-- links that have both ends; a tile that was replaced is found by its place
abbrev pub links : List ℕ
links = lines
    (codes "CREATE TEMP TABLE read_links AS"
    ∷ codes "SELECT DISTINCT 4 AS kind, 'tiles_media' AS mapping, t.id AS base, o.id AS other FROM tiles_media m"
    ∷ (codes "JOIN sheet_tiles t ON t.id = " ++ tile_held (codes "m.base_id"))
    ∷ codes "JOIN sheet_media o ON o.id = m.related_id"
    ∷ codes "UNION ALL"
    ∷ codes "SELECT DISTINCT 5, 'rows_media', b.id, o.id FROM rows_media m"
    ∷ codes "JOIN sheet_rows b ON b.id = m.base_id JOIN sheet_media o ON o.id = m.related_id"
    ∷ codes "UNION ALL"
    ∷ codes "SELECT DISTINCT 6, 'rows_tiles', b.id, t.id FROM rows_tiles m JOIN sheet_rows b ON b.id = m.base_id"
    ∷ (codes "JOIN sheet_tiles t ON t.id = " ++ (tile_held (codes "m.related_id") ++ codes ";"))
    ∷ [])

-- the frame of the pyramid, or why there is none
abbrev pub levels : List ℕ
levels = lines
    (codes "CREATE TEMP VIEW read_levels AS"
    ∷ codes "SELECT zoom_level AS zoom, matrix_width, matrix_height, tile_width, tile_height,"
    ∷ codes "  CAST(round(pixel_x_size * 1000) AS INTEGER) AS pixel_x,"
    ∷ codes "  CAST(round(pixel_y_size * 1000) AS INTEGER) AS pixel_y,"
    ∷ codes "  coalesce(abs(pixel_x_size * 1000 - round(pixel_x_size * 1000)) < 0.000001"
    ∷ codes "    AND abs(pixel_y_size * 1000 - round(pixel_y_size * 1000)) < 0.000001, 0) AS whole"
    ∷ codes "FROM sheet_matrix;"
    ∷ codes "CREATE TEMP VIEW read_ends AS"
    ∷ codes "SELECT min(zoom) AS first_zoom, max(zoom) AS last_zoom, count(*) AS levels,"
    ∷ codes "  min(tile_width) AS tile_width, max(tile_width) AS widest,"
    ∷ codes "  min(tile_height) AS tile_height, max(tile_height) AS highest, min(whole) AS whole,"
    ∷ codes "  (SELECT pixel_x FROM read_levels ORDER BY zoom DESC LIMIT 1) AS pixel_x,"
    ∷ codes "  (SELECT pixel_y FROM read_levels ORDER BY zoom DESC LIMIT 1) AS pixel_y"
    ∷ codes "FROM read_levels;"
    ∷ codes "CREATE TEMP VIEW read_matrix AS"
    ∷ codes "SELECT e.*,"
    ∷ codes "  (SELECT max(((l.matrix_width - 1) >> (l.zoom - e.first_zoom)) + 1)"
    ∷ codes "    FROM read_levels l) AS matrix_width,"
    ∷ codes "  (SELECT max(((l.matrix_height - 1) >> (l.zoom - e.first_zoom)) + 1)"
    ∷ codes "    FROM read_levels l) AS matrix_height,"
    ∷ codes "  (SELECT min(l.pixel_x = e.pixel_x << (e.last_zoom - l.zoom)"
    ∷ codes "    AND l.pixel_y = e.pixel_y << (e.last_zoom - l.zoom)) FROM read_levels l) AS doubles"
    ∷ codes "FROM read_ends e;"
    ∷ codes "CREATE TEMP VIEW read_set AS"
    ∷ codes "SELECT s.min_x, s.max_y, CAST(round(s.min_x * 1000) AS INTEGER) AS west,"
    ∷ codes "  CAST(round(s.max_y * 1000) AS INTEGER) AS north,"
    ∷ (codes "  " ++ (system_number (codes "s") (codes "r") ++ codes " AS system, m.*"))
    ∷ codes "FROM sheet_matrix_set s LEFT JOIN gpkg_spatial_ref_sys r ON r.srs_id = s.srs_id, read_matrix m;"
    ∷ codes "CREATE TEMP VIEW read_frame AS"
    ∷ codes "SELECT CASE WHEN count(*) <> 1 THEN 'pyramid' WHEN system IS NULL THEN 'system'"
    ∷ codes "    WHEN coalesce(abs(min_x * 1000 - round(min_x * 1000)) > 0.001"
    ∷ codes "      OR abs(max_y * 1000 - round(max_y * 1000)) > 0.001, 1) THEN 'corner'"
    ∷ codes "    WHEN levels = 0 OR last_zoom - first_zoom + 1 <> levels OR first_zoom < 0"
    ∷ codes "      OR last_zoom > 20 THEN 'zooms'"
    ∷ codes "    WHEN tile_width <> widest OR tile_height <> highest THEN 'tiles'"
    ∷ codes "    WHEN whole = 0 OR pixel_x < 1 OR pixel_y < 1 THEN 'pixels'"
    ∷ codes "    WHEN doubles = 0 THEN 'doubling' END AS fault,"
    ∷ codes "  printf('%d,%d,%d,%d,%d,%d,%d,%d,%d,%d,%d', system, west,"
    ∷ codes "    north - matrix_height * tile_height * (pixel_y << (levels - 1)),"
    ∷ codes "    west + matrix_width * tile_width * (pixel_x << (levels - 1)), north,"
    ∷ codes "    tile_width, tile_height, first_zoom, levels, matrix_width, matrix_height) AS frame"
    ∷ codes "FROM read_set;"
    ∷ [])

-- what is printed, a record a line, and their count at the end
abbrev pub records : List ℕ
records = lines
    (codes "SELECT 'kind,number,other,identity,zoom,column,row,x,y,code,text,data';"
    ∷ codes "SELECT 'package,' || CASE typeof(ticket) WHEN 'integer' THEN ticket ELSE '' END || ',,'"
    ∷ (codes "  || " ++ uuid_or_empty (codes "package"))
    ∷ codes "  || ',,,,,,,,' FROM sheet_export;"
    ∷ codes "SELECT 'system,' || coalesce(system, -2) || ',,,,,,,,,,' FROM read_system;"
    ∷ codes "SELECT CASE WHEN fault IS NULL THEN 'frame,,,,,,,,,,\"' || frame || '\",'"
    ∷ codes "  ELSE 'bad,,,,,,,,,,frame ' || fault || ',' END"
    ∷ codes "FROM read_frame WHERE EXISTS (SELECT 1 FROM sheet_matrix_set);"
    ∷ codes "SELECT CASE WHEN typeof(zoom_level) = 'integer' AND typeof(tile_column) = 'integer'"
    ∷ codes "    AND typeof(tile_row) = 'integer' AND typeof(tile_data) = 'blob'"
    ∷ codes "  THEN 'tile,' || id || ',,,' || zoom_level || ',' || tile_column || ',' || tile_row"
    ∷ codes "    || ',,,,,' || hex(tile_data)"
    ∷ codes "  ELSE 'bad,' || id || ',,,,,,,,,tile data,' END"
    ∷ codes "FROM sheet_tiles ORDER BY id;"
    ∷ codes "SELECT CASE WHEN typeof(data) = 'blob' AND typeof(content_type) = 'text'"
    ∷ codes "    AND instr(content_type, char(0)) = 0"
    ∷ codes "  THEN 'media,' || id || ',,' ||"
    ∷ (codes "  " ++ uuid_or_empty (codes "uuid"))
    ∷ codes "  || ',,,,,,,\"' || replace(content_type, '\"', '\"\"') || '\",' || hex(data)"
    ∷ codes "  ELSE 'bad,' || id || ',,,,,,,,,media data,' END"
    ∷ codes "FROM sheet_media ORDER BY id;"
    ∷ codes "SELECT CASE WHEN fault IS NULL"
    ∷ codes "  THEN 'row,' || id || ',,' ||"
    ∷ (codes "  " ++ uuid_or_empty (codes "uuid"))
    ∷ codes "  || ',,,,' || x || ',' || y || ',' || code || ',\"'"
    ∷ codes "  || replace(coalesce(label, ''), '\"', '\"\"') || '\",'"
    ∷ codes "  ELSE 'bad,' || id || ',,,,,,,,,row ' || fault || ',' END"
    ∷ codes "FROM read_rows ORDER BY id;"
    ∷ codes "SELECT mapping || ',' || base || ',' || other || ',,,,,,,,,' FROM read_links ORDER BY kind, base, other;"
    ∷ codes "SELECT 'end,' || ((SELECT count(*) FROM sheet_export) + (SELECT count(*) FROM read_system)"
    ∷ codes "  + EXISTS (SELECT 1 FROM sheet_matrix_set) + (SELECT count(*) FROM sheet_tiles)"
    ∷ codes "  + (SELECT count(*) FROM sheet_media) + (SELECT count(*) FROM sheet_rows)"
    ∷ codes "  + (SELECT count(*) FROM read_links)) || ',,,,,,,,,,';"
    ∷ codes "COMMIT;"
    ∷ [])

-- behind the tables that are read
abbrev pub body : List ℕ
body = points ++ (links ++ (levels ++ records))

-- what an export holds
abbrev pub holds : List ℕ
holds = start ++ (own_tables ++ body)
