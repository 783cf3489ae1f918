-- The text so far and the rectangles to come are the whole text, and the sheets so far are counted.
use Rattle.std.proofs.Common.{◌≡◌, ◌++◌, [], drop, take, string_bytes}
use Rattle.view_map.specs.Pieces.{shapes_text}
use Rattle.view_map.specs.Sheets.{layered}
use Rattle.view_map.proofs.Drawing.{AreCounted, numbers_of}
use Rattle.view_map.proofs.maps.add_shapes.Given as goal

abbrev pub invariant-loop-sheet : goal.invariant-loop-sheet
invariant-loop-sheet l = record {
  counted : AreCounted l.layers (numbers_of l.layout (take l.sheet-index l.sheets));
  text : string_bytes l.text ++ shapes_text l.layout l.zoom (layered l.layout
      (numbers_of l.layout (take l.sheet-index l.sheets)) (drop l.sheet-index l.sheets))
      ≡ string_bytes l.initial.text ++ shapes_text l.layout l.zoom (layered l.layout [] l.sheets);
}
