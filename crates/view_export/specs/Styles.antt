-- How QGIS draws and edits three tables of an export: a style for each (QML of QGIS 3), as a row of `layer_styles`.
use Rattle.std.specs.Prelude.{ℕ, List, [], ◌∷◌, ◌++◌, codes}
use Rattle.view_export.specs.Statements.{insert}

-- ---- pieces of QML

abbrev pub joined : List (List ℕ) → List ℕ
joined [] = []
joined (x ∷ xs) = x ++ joined xs

abbrev pub typed_option : List ℕ → List ℕ → List ℕ → List ℕ
typed_option type name value = joined
    (codes "<Option name=\"" ∷ name ∷ codes "\" value=\"" ∷ value ∷ codes "\" type=\"" ∷ type
    ∷ codes "\"/>" ∷ [])

abbrev pub option : List ℕ → List ℕ → List ℕ
option name value = typed_option (codes "QString") name value

abbrev pub options : List (List ℕ) → List ℕ
options inside = codes "<Option type=\"Map\">" ++ (joined inside ++ codes "</Option>")

-- what a form shows of a field
abbrev pub widget : List ℕ → List ℕ → List (List ℕ) → List ℕ
widget field kind config = joined
    (codes "<field name=\"" ∷ field ∷ codes "\"><editWidget type=\"" ∷ kind ∷ codes "\"><config>"
    ∷ options config ∷ codes "</config></editWidget></field>" ∷ [])

abbrev pub hidden : List ℕ → List ℕ
hidden field = widget field (codes "Hidden") []

-- how a field is called
abbrev pub alias : List ℕ → List ℕ → List ℕ
alias field name = joined
    (codes "<alias field=\"" ∷ field ∷ codes "\" name=\"" ∷ name ∷ codes "\"/>" ∷ [])

-- the fields of a form, their names, and the expression that stands for a row
abbrev pub form : List (List ℕ) → List (List ℕ) → List ℕ → List ℕ
form widgets names shown = joined
    (codes "<fieldConfiguration>" ∷ joined widgets ∷ codes "</fieldConfiguration><aliases>" ∷ joined names
    ∷ codes "</aliases><previewExpression>" ∷ shown ∷ codes "</previewExpression>" ∷ [])

-- all features drawn alike
abbrev pub symbol : List ℕ → List ℕ → List (List ℕ) → List ℕ
symbol kind layer properties = joined
    (codes "<renderer-v2 type=\"singleSymbol\"><symbols><symbol type=\"" ∷ kind
    ∷ codes "\" name=\"0\" alpha=\"1\"><layer class=\"" ∷ layer ∷ codes "\" enabled=\"1\">"
    ∷ options properties ∷ codes "</layer></symbol></symbols></renderer-v2>" ∷ [])

-- ---- marks

abbrev pub dots : List ℕ
dots = symbol (codes "marker") (codes "SimpleMarker")
    (option (codes "color") (codes "214,40,40,255")
    ∷ option (codes "outline_color") (codes "255,255,255,255")
    ∷ option (codes "name") (codes "circle")
    ∷ option (codes "size") (codes "3")
    ∷ [])

abbrev pub labels : List ℕ
labels =
    codes "<labeling type=\"simple\"><settings><text-style fieldName=\"label\" fontSize=\"9\"/>"
    ++ codes "<placement dist=\"1\"/></settings></labeling>"

-- a code is a whole number that the register takes
abbrev pub code_widget : List ℕ
code_widget = widget (codes "code") (codes "Range")
    (typed_option (codes "int") (codes "Min") (codes "0")
    ∷ typed_option (codes "int") (codes "Max") (codes "999999")
    ∷ typed_option (codes "bool") (codes "AllowNull") (codes "false")
    ∷ [])

abbrev pub label_widget : List ℕ
label_widget =
    widget (codes "label") (codes "TextEdit") (typed_option (codes "bool") (codes "IsMultiline") (codes "false") ∷ [])

abbrev pub rows_style : List ℕ
rows_style = dots ++ (labels ++ form
    (hidden (codes "id") ∷ code_widget ∷ label_widget ∷ hidden (codes "uuid") ∷ [])
    (alias (codes "code") (codes "Code") ∷ alias (codes "label") (codes "Label") ∷ [])
    (codes "\"label\""))

-- ---- outlines of sheets

abbrev pub edges : List ℕ
edges = symbol (codes "fill") (codes "SimpleFill")
    (option (codes "style") (codes "no") ∷ option (codes "outline_color") (codes "60,60,60,255") ∷ [])

-- Number and place of a sheet. An apostrophe stands as `&apos;`, since it would end the literal of SQL.
abbrev pub sheet_name : List ℕ
sheet_name =
    codes "\"id\" || &apos;: &apos; || \"zoom_level\" || &apos;, &apos; || "
    ++ codes "\"tile_column\" || &apos;, &apos; || \"tile_row\""

abbrev pub outlines_style : List ℕ
outlines_style = edges ++ form
    (hidden (codes "uuid") ∷ [])
    (alias (codes "id") (codes "Sheet") ∷ [])
    sheet_name

-- ---- media

-- one of two types, by a word
abbrev pub types_widget : List ℕ
types_widget = widget (codes "content_type") (codes "ValueMap")
    (codes "<Option name=\"map\" type=\"List\">"
    ∷ options (option (codes "photograph (JPEG)") (codes "image/jpeg") ∷ [])
    ∷ options (option (codes "picture (PNG)") (codes "image/png") ∷ [])
    ∷ codes "</Option>" ∷ [])

abbrev pub media_style : List ℕ
media_style = form
    (widget (codes "id") (codes "TextEdit") [] ∷ widget (codes "data") (codes "Binary") []
    ∷ types_widget ∷ hidden (codes "uuid") ∷ [])
    (alias (codes "id") (codes "Number") ∷ alias (codes "data") (codes "File")
    ∷ alias (codes "content_type") (codes "Type") ∷ [])
    (codes "\"id\"")

-- ---- rows

-- the style by which QGIS opens this table
abbrev pub style_row : List ℕ → List ℕ → List ℕ → List ℕ
style_row name column style = insert
    (codes "layer_styles (f_table_catalog,f_table_schema,f_table_name,f_geometry_column,styleName,styleQML,useAsDefault)")
    (codes "''" ∷ codes "''" ∷ name ∷ column ∷ name
    ∷ (codes "'<qgis version=\"3.22.0\">" ++ (style ++ codes "</qgis>'")) ∷ codes "1" ∷ [])

abbrev pub rows_style_row : List ℕ
rows_style_row = style_row (codes "'sheet_rows'") (codes "'geom'") rows_style

abbrev pub outlines_style_row : List ℕ
outlines_style_row = style_row (codes "'sheet_tile_identity'") (codes "'geom'") outlines_style

abbrev pub media_style_row : List ℕ
media_style_row = style_row (codes "'sheet_media'") (codes "''") media_style

abbrev pub styles : List ℕ
styles = rows_style_row ++ (outlines_style_row ++ media_style_row)
