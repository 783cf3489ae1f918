-- The texts of which a map is made (SVG 1.1). Profile.
use Rattle.std.specs.Prelude.{ℕ, zero, suc, ◌+◌, ◌-◌, ◌*◌, ◌%◌, Bool, ◌&&◌, nat_le}
use Rattle.std.specs.Prelude.{if◌then◌else◌, List, [], ◌∷◌}
use Rattle.std.specs.Prelude.{◌++◌, max, codes, decimal, slice_index_or}
use Rattle.std.specs.List.{flat_map}
use Rattle.sheet_types.specs.Texts.{uuid_text}
use Rattle.view_map.specs.Layout.{map_width, map_height, column_left, row_top, line_at, sheets_on}
use Rattle.view_map.specs.Sheets.{Shape}
use Rattle.view_map.specs.declared.holders.Holder.{Holder}
use Rattle.view_map.specs.declared.layout.Layout.{Layout}

-- ---- colours

abbrev pub palette : List (List ℕ)
palette =
    codes "#eedd66" ∷ codes "#7799ee" ∷ codes "#ee7788" ∷ codes "#006644" ∷ codes "#00ddee" ∷ codes "#994400"
    ∷ codes "#bbeebb" ∷ codes "#664499" ∷ codes "#aa9933" ∷ codes "#cc77aa" ∷ codes "#778844"
    ∷ codes "#884477" ∷ []

-- the colour of the n-th package: the twelve in turn
abbrev pub colour : ℕ → List ℕ
colour n = slice_index_or palette (n % 12) []

-- ---- the page

abbrev pub page_width : Layout → ℕ
page_width l = max 480 (map_width l + 40)

-- of a map with so many packages
abbrev pub page_height : Layout → ℕ → ℕ
page_height l count = line_at l count

-- the beginning: the size of the page, and a white ground
unfoldable pub page_text : ℕ → ℕ → List ℕ
page_text width height =
    codes "<svg xmlns=\"http://www.w3.org/2000/svg\" viewBox=\"0 0 " ++ (decimal width ++ (codes " " ++ (decimal height
    ++ (codes "\" width=\"" ++ (decimal width ++ (codes "\" height=\"" ++ (decimal height
    ++ codes "\" font-family=\"Helvetica, Arial, sans-serif\" font-size=\"11\">\n<rect width=\"100%\" height=\"100%\" fill=\"#ffffff\"/>\n")))))))

unfoldable pub title_text : ℕ → ℕ → ℕ → List ℕ
title_text zoom columns rows =
    codes "<text x=\"20\" y=\"30\" font-size=\"16\">Who holds which sheets at zoom " ++ (decimal zoom
    ++ (codes ", " ++ (decimal columns ++ (codes " by " ++ (decimal rows ++ codes " places</text>\n")))))

abbrev pub head_text : Layout → ℕ → ℕ → List ℕ
head_text l zoom count = page_text (page_width l) (page_height l count) ++ title_text zoom l.columns l.rows

-- the outline of the frame
abbrev pub outline_text : Layout → List ℕ
outline_text l =
    codes "<rect x=\"20\" y=\"48\" width=\"" ++ (decimal (map_width l)
    ++ (codes "\" height=\"" ++ (decimal (map_height l)
    ++ codes "\" fill=\"none\" stroke=\"#6b6250\"/>\n")))

-- ---- the grid

-- whether there are few enough places for lines between them
abbrev pub has_grid : Layout → Bool
has_grid l = nat_le l.columns 256 && nat_le l.rows 256

-- the line at the left edge of a column, and at the upper edge of a row, as parts of a path
abbrev pub column_line : Layout → ℕ → List ℕ
column_line l column = codes "M" ++ (decimal (column_left l column) ++ (codes " 48v" ++ decimal (map_height l)))

abbrev pub row_line : Layout → ℕ → List ℕ
row_line l row = codes "M20 " ++ (decimal (row_top l row) ++ (codes "h" ++ decimal (map_width l)))

-- the parts of the first n, in turn
unfoldable pub first_lines : (ℕ → List ℕ) → ℕ → List ℕ
first_lines line zero = []
first_lines line (suc n) = first_lines line n ++ line n

abbrev pub grid_path : Layout → List ℕ
grid_path l = first_lines (column_line l) l.columns ++ first_lines (row_line l) l.rows

abbrev pub grid_text : Layout → List ℕ
grid_text l =
    if has_grid l
    then codes "<path d=\"" ++ (grid_path l ++ codes "\" fill=\"none\" stroke=\"#d8d4c8\" stroke-width=\"0.5\"/>\n")
    else []

-- ---- sheets

-- how far the rectangle of a sheet stands inside its place: the more sheets lie below it, the farther
abbrev pub inset : ℕ → ℕ
inset layer = 1 + 2 * layer

-- where a rectangle stands and how large it is
unfoldable pub box_text : ℕ → ℕ → ℕ → ℕ → List ℕ
box_text x y width height =
    codes "<rect x=\"" ++ (decimal x ++ (codes "\" y=\"" ++ (decimal y
    ++ (codes "\" width=\"" ++ (decimal width ++ (codes "\" height=\"" ++ (decimal height ++ codes "\"")))))))

-- its colour, and the package as its title
unfoldable pub owner_text : List ℕ → List ℕ → List ℕ
owner_text fill uuid = codes " fill=\"" ++ (fill ++ (codes "\"><title>" ++ (uuid_text uuid ++ codes " ")))

-- and behind the package the place: zoom/column/row
unfoldable pub place_text : ℕ → ℕ → ℕ → List ℕ
place_text zoom column row =
    decimal zoom ++ (codes "/" ++ (decimal column ++ (codes "/" ++ (decimal row ++ codes "</title></rect>\n"))))

abbrev pub shape_box : Layout → Shape → List ℕ
shape_box l s = box_text (column_left l s.sheet.place.column + inset s.layer)
    (row_top l s.sheet.place.row + inset s.layer)
    (l.width - 2 * inset s.layer) (l.height - 2 * inset s.layer)

-- the rectangle of a sheet
abbrev pub shape_text : Layout → ℕ → Shape → List ℕ
shape_text l zoom s = shape_box l s
    ++ (owner_text (colour s.sheet.index) s.sheet.uuid ++ place_text zoom s.sheet.place.column s.sheet.place.row)

-- all of them, in one group
abbrev pub shapes_text : Layout → ℕ → List Shape → List ℕ
shapes_text l zoom shapes = flat_map (shape_text l zoom) shapes

-- ---- the legend

-- the colour of a package
unfoldable pub mark_text : ℕ → List ℕ → List ℕ
mark_text top fill =
    codes "<rect x=\"20\" y=\"" ++ (decimal top ++ (codes "\" width=\"12\" height=\"12\" fill=\""
    ++ (fill ++ codes "\"/>\n")))

-- its UUID, how many sheets of the map it has, and its depth
unfoldable pub told_text : ℕ → List ℕ → ℕ → ℕ → List ℕ
told_text base uuid sheets depth =
    codes "<text x=\"39\" y=\"" ++ (decimal base ++ (codes "\"><tspan font-family=\"monospace\">" ++ (uuid_text uuid
    ++ (codes "</tspan> sheets: " ++ (decimal sheets ++ (codes ", depth: " ++ (decimal depth ++ codes "</text>\n")))))))

-- the line of a package
abbrev pub legend_line : Layout → ℕ → Holder → List ℕ
legend_line l n h = mark_text (line_at l n) (colour n) ++ told_text (line_at l n + 10) h.uuid (sheets_on l h) h.depth

-- the lines of packages, numbered from n
unfoldable pub legend_from : Layout → ℕ → List Holder → List ℕ
legend_from l n [] = []
legend_from l n (h ∷ hs) = legend_line l n h ++ legend_from l (n + 1) hs
