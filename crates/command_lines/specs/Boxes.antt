-- The word for the least area that covers a box. Profile.
use Rattle.std.specs.Prelude.{◌≡◌, ℕ, ℤ, true, false, List, Option, Some, None}
use Rattle.sheet_types.specs.declared.frame.Frame.{Frame}
use Rattle.sheet_types.specs.declared.frame.Ground.{Ground}
use Rattle.sheet_types.specs.declared.frame.Rect.{Rect}
use Rattle.command_boxes.specs.Covering.{IsLeastCover, can_cover}
use Rattle.command_replies.specs.Receipts.{area_text}

-- The box can be covered, and this is the least rectangle that does.
abbrev pub IsCoverOf : Frame → ℤ → Ground → Rect → Type 0
IsCoverOf f zoom g r = (can_cover f zoom g ≡ true) × IsLeastCover f zoom g r

-- It says the least rectangle that covers the box; or the box cannot be covered.
abbrev pub IsAreaOver : Frame → ℤ → Ground → Option (List ℕ) → Type 0
IsAreaOver f zoom g (Some word) = (r : Rect) × IsCoverOf f zoom g r × (word ≡ area_text r)
IsAreaOver f zoom g None = can_cover f zoom g ≡ false
