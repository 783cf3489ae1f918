-- The whole text of a map (SVG 1.1). Profile.
use Rattle.std.specs.Prelude.{ℕ, List, ◌++◌, ℤ, length, codes, unsigned_abs}
use Rattle.sheet_types.specs.declared.frame.Frame.{Frame}
use Rattle.view_map.specs.Layout.{layout_of}
use Rattle.view_map.specs.Sheets.{shapes}
use Rattle.view_map.specs.Pieces.{head_text, outline_text, grid_text, shapes_text, legend_from}
use Rattle.view_map.specs.declared.holders.Holder.{Holder}
use Rattle.view_map.specs.declared.layout.Layout.{Layout}

-- what stands round the rectangles of sheets, and round the legend
abbrev pub group_text : List ℕ
group_text = codes "<g stroke=\"#4a4a4a\" stroke-width=\"0.5\">\n"

abbrev pub group_end : List ℕ
group_end = codes "</g>\n"

-- the picture of the frame, the grid and the sheets
abbrev pub picture_text : Layout → ℕ → List Holder → List ℕ
picture_text l zoom hs =
    grid_text l ++ (group_text ++ (shapes_text l zoom (shapes l hs) ++ (group_end ++ outline_text l)))

-- a map by its layout
abbrev pub map_of : Layout → ℕ → List Holder → List ℕ
map_of l zoom hs =
    head_text l zoom (length hs) ++ (picture_text l zoom hs ++ (legend_from l 0 hs ++ codes "</svg>\n"))

-- The map of a zoom of a frame: who holds which of its sheets, of these packages.
abbrev pub map_text : Frame → ℤ → List Holder → List ℕ
map_text f zoom hs = map_of (layout_of f zoom) (unsigned_abs zoom) hs
