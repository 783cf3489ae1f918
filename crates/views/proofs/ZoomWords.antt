-- A text that no number of 64 bits writes asks for no zoom.
use Rattle.std.proofs.Common.{◌≢◌, ℕ, ℤ, List, Option, Some, None, FitsSigned, w64}
use Rattle.std.specs.Fmt.{signed_decimal}
use Rattle.views.specs.Zooms.{AsksZoom}

pub no_zoom : (text : List ℕ) → ((zoom : ℤ) → FitsSigned w64 zoom → text ≢ signed_decimal zoom)
    → (asked : Option ℤ)
    → ¬ AsksZoom (Some text) asked
no_zoom text none None asks = absurd asks
no_zoom text none (Some zoom) asks = none zoom asks.0 asks.1
