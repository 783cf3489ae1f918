-- Which zoom is asked for, and drawn. Profile.
use Rattle.std.specs.Prelude.{◌≡◌, ℕ, ℤ, List, Option, Some, None, FitsSigned}
use Rattle.std.specs.Fmt.{signed_decimal}
use Rattle.std.specs.Int.{w64}
use Rattle.sheet_types.specs.declared.frame.Frame.{Frame}
use Rattle.view_map.specs.Zooms.{default_zoom}

-- Which zoom a word asks for: where there is no word, none in particular; else the word is its plain decimal, and it
-- fits 64 bits.
abbrev pub AsksZoom : Option (List ℕ) → Option ℤ → Type 0
AsksZoom None asked = asked ≡ None
AsksZoom (Some text) None = ⊥
AsksZoom (Some text) (Some zoom) = FitsSigned w64 zoom × (text ≡ signed_decimal zoom)

-- the zoom that is drawn: the one that is asked for, or that of a frame where none is
abbrev pub drawn_zoom : Frame → Option ℤ → ℤ
drawn_zoom f None = default_zoom f
drawn_zoom f (Some zoom) = zoom
