-- The layers of a project. The name of the file is fit for the text of an element. Profile, over QGS of QGIS 3.
use Rattle.std.specs.Prelude.{ℕ, List, [], ◌++◌, codes}
use Rattle.view_export.specs.Styles.{outlines_style}
use Rattle.view_project.specs.LinkStyles.{marks_of_sheets_style, media_of_marks_style, media_of_sheets_style}
use Rattle.view_project.specs.NumberedStyles.{marks_style, media_style}
use Rattle.view_project.specs.declared.layers.Layer.{Layer}

-- what a layer is, and the table of the file that it shows
abbrev pub source : List ℕ → List ℕ → List ℕ → List ℕ
source table geometry file =
    codes "<maplayer type=\"vector\" geometry=\"" ++ (geometry ++ (codes "\"><id>layer_" ++ (table
    ++ (codes "</id><datasource>./" ++ (file ++ (codes "|layername=" ++ (table ++ codes "</datasource>")))))))

-- how it is called, where it lies, how it is drawn and edited
abbrev pub drawing : List ℕ → List ℕ → List ℕ → List ℕ
drawing title style system =
    codes "<layername>" ++ (title ++ (codes "</layername><srs>" ++ (system
    ++ (codes "</srs><provider encoding=\"UTF-8\">ogr</provider>" ++ (style ++ codes "</maplayer>\n")))))

abbrev pub vector : List ℕ → List ℕ → List ℕ → List ℕ → List ℕ → List ℕ → List ℕ
vector table title geometry style file system = source table geometry file ++ drawing title style system

abbrev pub layer_of : Layer → List ℕ → List ℕ → List ℕ
layer_of l file system = vector l.table.now l.title.now l.geometry.now l.style.now file system

abbrev pub marks : List ℕ → List ℕ → List ℕ
marks file system = vector (codes "sheet_rows") (codes "Marks") (codes "Point") marks_style file system

abbrev pub outlines : List ℕ → List ℕ → List ℕ
outlines file system =
    vector (codes "sheet_tile_identity") (codes "Outlines of the sheets") (codes "Polygon") outlines_style file system

-- a table without geometry
abbrev pub attributes : List ℕ → List ℕ → List ℕ → List ℕ → List ℕ
attributes table title style file = vector table title (codes "No geometry") style file []

abbrev pub media : List ℕ → List ℕ
media file = attributes (codes "sheet_media") (codes "Photographs and other media") media_style file

abbrev pub tables : List ℕ → List ℕ → List ℕ
tables file system = marks file system ++ (outlines file system ++ media file)

abbrev pub media_of_marks : List ℕ → List ℕ
media_of_marks file = attributes (codes "rows_media") (codes "Media of marks") media_of_marks_style file

abbrev pub media_of_sheets : List ℕ → List ℕ
media_of_sheets file = attributes (codes "tiles_media") (codes "Media of sheets") media_of_sheets_style file

abbrev pub marks_of_sheets : List ℕ → List ℕ
marks_of_sheets file = attributes (codes "rows_tiles") (codes "Marks of sheets") marks_of_sheets_style file

abbrev pub links : List ℕ → List ℕ
links file = media_of_marks file ++ (media_of_sheets file ++ marks_of_sheets file)

-- the pyramid of the file, as a picture
abbrev pub sheets : List ℕ → List ℕ → List ℕ
sheets file system =
    codes "<maplayer type=\"raster\"><id>layer_sheet_tiles</id><datasource>./" ++ (file
    ++ (codes "</datasource><layername>Sheets</layername><srs>" ++ (system
    ++ codes "</srs><provider>gdal</provider></maplayer>\n")))

abbrev pub layers : List ℕ → List ℕ → List ℕ
layers file system = tables file system ++ (links file ++ sheets file system)
