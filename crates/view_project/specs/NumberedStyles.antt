-- How QGIS draws and edits marks and media in a project: as in the file alone (`view_export`, `specs/Styles.antt`), but
-- a row is named by its number too. Links are chosen by these names, and a label may be empty.
use Rattle.std.specs.Prelude.{ℕ, List, [], ◌∷◌, ◌++◌, codes}
use Rattle.view_export.specs.Styles.{alias, code_widget, dots, form, hidden, joined, label_widget, labels}
use Rattle.view_export.specs.Styles.{types_widget, widget}

-- its number, and what stands in this field: nothing where that is NULL
abbrev pub numbered : List ℕ → List ℕ
numbered field = joined (codes "concat(\"id\", &apos;: &apos;, \"" ∷ field ∷ codes "\")" ∷ [])

abbrev pub marks_style : List ℕ
marks_style = dots ++ (labels ++ form
    (hidden (codes "id") ∷ code_widget ∷ label_widget ∷ hidden (codes "uuid") ∷ [])
    (alias (codes "code") (codes "Code") ∷ alias (codes "label") (codes "Label") ∷ [])
    (numbered (codes "label")))

abbrev pub media_style : List ℕ
media_style = form
    (widget (codes "id") (codes "TextEdit") [] ∷ widget (codes "data") (codes "Binary") []
    ∷ types_widget ∷ hidden (codes "uuid") ∷ [])
    (alias (codes "id") (codes "Number") ∷ alias (codes "data") (codes "File")
    ∷ alias (codes "content_type") (codes "Type") ∷ [])
    (numbered (codes "content_type"))
