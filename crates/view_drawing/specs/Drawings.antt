-- The whole text of a drawing (SVG). Profile.
use Rattle.std.specs.Prelude.{ℕ, ◌/◌, List, ◌++◌, length, codes, decimal, flat_map}
use Rattle.view_map.specs.Layout.{layout_of}
use Rattle.view_map.specs.Zooms.{default_zoom}
use Rattle.view_map.specs.declared.layout.Layout.{Layout}
use Rattle.view_report.specs.Levels.{level_total, plus, share, times}
use Rattle.view_report.specs.Patterns.{pattern_row}
use Rattle.view_report.specs.Pieces.{plain_name}
use Rattle.view_report.specs.declared.words.TheConstants.{SHAPES}
use Rattle.view_report.specs.declared.registers.Register.{Register}
use Rattle.view_drawing.specs.Legends.{holder_row}
use Rattle.view_drawing.specs.Marks.{mark_if}
use Rattle.view_drawing.specs.Names.{named_at}
use Rattle.view_drawing.specs.Sheets.{levels_text}
use Rattle.view_drawing.specs.declared.style.TheConstants.{STYLE}
use Rattle.view_drawing.specs.declared.words.TheConstants.{GROUND, HEAD, MAP_HEAD}

-- how high the map is, 480 units wide; and the whole, with a legend of so many rows
abbrev pub map_height : Layout → ℕ
map_height l = times 480 (share (times l.rows l.height) (times l.columns l.width)) / 10000

abbrev pub whole_height : ℕ → ℕ → ℕ
whole_height height rows = plus (plus height 48) (times 26 rows)

abbrev pub head_text : Register → ℕ → List ℕ
head_text r whole =
    HEAD.now ++ (decimal whole ++ (codes "\" width=\"512\" height=\"" ++ (decimal whole ++ (codes "\">\n<title>"
    ++ (plain_name r.names r.archive ++ (codes ", as of receipt " ++ decimal (length r.receipts.items)))))))

-- the style, a pattern a holder, and the shapes of marks
abbrev pub defs_text : Register → List ℕ
defs_text r = STYLE.now ++ (flat_map (λ p. pattern_row p.number) r.packages.items ++ SHAPES.now)

-- so many zooms, the names of the first, and the marks
abbrev pub map_text : Register → ℕ → ℕ → List ℕ
map_text r total height =
    MAP_HEAD.now ++ (decimal height ++ (GROUND.now ++ (levels_text r total total ++ (named_at r total
    ++ (flat_map (mark_if r) r.things ++ codes "</svg>\n")))))

-- below it
abbrev pub legend_text : Register → ℕ → List ℕ
legend_text r height =
    codes "<g transform=\"translate(16 " ++ (decimal (plus height 32) ++ (codes ")\">\n"
    ++ (flat_map (holder_row r) r.packages.items ++ codes "</g>\n</svg>\n")))

abbrev pub height_of : Register → ℕ
height_of r = map_height (layout_of r.frame (default_zoom r.frame))

-- The map of a register.
abbrev pub drawing_text : Register → List ℕ
drawing_text r =
    head_text r (whole_height (height_of r) (length r.packages.items)) ++ (defs_text r
    ++ (map_text r (level_total r.frame) (height_of r) ++ legend_text r (height_of r)))
