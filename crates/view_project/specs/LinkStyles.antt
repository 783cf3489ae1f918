-- How QGIS edits links: each end is chosen from a list of the rows of its table (QML of QGIS 3).
use Rattle.std.specs.Prelude.{ℕ, List, [], ◌∷◌, codes}
use Rattle.view_export.specs.Styles.{alias, form, hidden, option, typed_option, widget}
use Rattle.view_project.specs.Parts.{relation_id}

-- A field that is chosen from the rows that its relation leads to. Each is listed by what stands for a row of its
-- layer. Before one is chosen there is none, and QGIS saves no such link.
abbrev pub chosen : List ℕ → List ℕ → List ℕ
chosen table field = widget field (codes "RelationReference")
    (option (codes "Relation") (relation_id table field)
    ∷ typed_option (codes "bool") (codes "AllowNULL") (codes "true")
    ∷ [])

-- of a table of links, whose ends are called so
abbrev pub link_style : List ℕ → List ℕ → List ℕ → List ℕ
link_style table base related = form
    (hidden (codes "id") ∷ chosen table (codes "base_id") ∷ chosen table (codes "related_id") ∷ [])
    (alias (codes "base_id") base ∷ alias (codes "related_id") related ∷ [])
    (codes "\"id\"")

abbrev pub media_of_marks_style : List ℕ
media_of_marks_style = link_style (codes "rows_media") (codes "Mark") (codes "Medium")

abbrev pub media_of_sheets_style : List ℕ
media_of_sheets_style = link_style (codes "tiles_media") (codes "Sheet") (codes "Medium")

abbrev pub marks_of_sheets_style : List ℕ
marks_of_sheets_style = link_style (codes "rows_tiles") (codes "Mark") (codes "Sheet")
