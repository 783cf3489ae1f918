-- The text so far and the lines to come are the whole text.
use Rattle.std.proofs.Common.{◌≡◌, ◌++◌, drop, string_bytes}
use Rattle.view_map.specs.Pieces.{legend_from}
use Rattle.view_map.proofs.maps.add_legend.Given as goal

abbrev pub invariant-loop-index : goal.invariant-loop-index
invariant-loop-index l = string_bytes l.text ++ legend_from l.layout l.index (drop l.index l.holders)
    ≡ string_bytes l.initial.text ++ legend_from l.layout 0 l.holders
