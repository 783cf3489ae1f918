-- What stands in every project. Profile, over QGS of QGIS 3.
use Rattle.std.specs.Prelude.{ℕ, List, [], ◌∷◌, ◌++◌, codes}
use Rattle.view_export.specs.Styles.{joined}

abbrev pub beginning : List ℕ
beginning =
    codes "<!DOCTYPE qgis PUBLIC 'http://mrcc.com/qgis.dtd' 'SYSTEM'>\n"
    ++ codes "<qgis version=\"3.22.0\" projectname=\"\">\n<title>Field work</title>\n"

-- a layer in the list of layers
abbrev pub node : List ℕ → List ℕ → List ℕ
node table title = joined
    (codes "<layer-tree-layer id=\"layer_" ∷ table ∷ codes "\" name=\"" ∷ title
    ∷ codes "\" checked=\"Qt::Checked\" expanded=\"0\"/>\n" ∷ [])

-- the layers, from the one that is drawn above all others
abbrev pub tree : List ℕ
tree = joined
    (codes "<layer-tree-group>\n"
    ∷ node (codes "sheet_rows") (codes "Marks")
    ∷ node (codes "sheet_tile_identity") (codes "Outlines of the sheets")
    ∷ node (codes "sheet_media") (codes "Photographs and other media")
    ∷ node (codes "rows_media") (codes "Media of marks")
    ∷ node (codes "tiles_media") (codes "Media of sheets")
    ∷ node (codes "rows_tiles") (codes "Marks of sheets")
    ∷ node (codes "sheet_tiles") (codes "Sheets")
    ∷ codes "</layer-tree-group>\n" ∷ [])

abbrev pub opening : List ℕ
opening = codes "<projectlayers>\n"

-- by which a form asks for the relation of this field of a table
abbrev pub relation_id : List ℕ → List ℕ → List ℕ
relation_id table field = joined (table ∷ codes "_" ∷ field ∷ [])

-- an end of the links of a table: the field, and the table whose number stands in it
abbrev pub relation : List ℕ → List ℕ → List ℕ → List ℕ → List ℕ
relation table title field end = joined
    (codes "<relation id=\"" ∷ relation_id table field ∷ codes "\" name=\"" ∷ title
    ∷ codes "\" referencingLayer=\"layer_" ∷ table ∷ codes "\" referencedLayer=\"layer_" ∷ end
    ∷ codes "\" strength=\"Association\"><fieldRef referencingField=\"" ∷ field
    ∷ codes "\" referencedField=\"id\"/></relation>\n" ∷ [])

-- both ends of them
abbrev pub ends : List ℕ → List ℕ → List ℕ → List ℕ → List ℕ
ends table title base related =
    relation table title (codes "base_id") base ++ relation table title (codes "related_id") related

abbrev pub relations : List ℕ
relations = joined
    (codes "</projectlayers>\n<relations>\n"
    ∷ ends (codes "rows_media") (codes "Media of marks") (codes "sheet_rows") (codes "sheet_media")
    ∷ ends (codes "tiles_media") (codes "Media of sheets") (codes "sheet_tile_identity") (codes "sheet_media")
    ∷ ends (codes "rows_tiles") (codes "Marks of sheets") (codes "sheet_rows") (codes "sheet_tile_identity")
    ∷ codes "</relations>\n" ∷ [])

abbrev pub closing : List ℕ
closing =
    codes "<properties><SpatialRefSys><ProjectionsEnabled type=\"int\">1</ProjectionsEnabled></SpatialRefSys></properties>\n"
    ++ codes "</qgis>\n"
