-- Why a package cannot hold an item of a file: the first reason that holds. Profile.
use Rattle.std.specs.Prelude.{◌==◌, ◌||◌, ◌&&◌, not, List, [], ◌∷◌, Option, pos}
use Rattle.std.specs.List.{list_any, list_all}
use Rattle.sheet_types.specs.Matrix.{is_within, first_row, has_place, in_frame}
use Rattle.sheet_types.specs.Refuse.{is_printable, is_length_within}
use Rattle.sheet_types.specs.declared.command.Content.{Content}
use Rattle.sheet_types.specs.declared.command.Content.TheVariants.{Tile, Media, Row}
use Rattle.sheet_types.specs.declared.frame.Frame.{Frame}
use Rattle.field_faults.specs.declared.reasons.Reason.{Reason}
use Rattle.field_faults.specs.declared.reasons.Reason.TheVariants.{BadData, BadPlace, BadText, BadCode, BadPoint}

-- the reasons that lie in the item alone
abbrev pub reason_of : Frame → Content → Option Reason
reason_of f (Tile zoom column row bytes) = first_row
    ((not (is_length_within 1 1048576 bytes), BadData)
    ∷ (not (has_place f zoom column row), BadPlace)
    ∷ [])
reason_of f (Media content_type bytes) = first_row
    ((not (list_all is_printable content_type && is_length_within 1 100 content_type), BadText)
    ∷ (not (is_length_within 1 1048576 bytes), BadData)
    ∷ [])
reason_of f (Row x y code label) = first_row
    ((list_any (λ c. c == 10) label || not (is_length_within 0 200 label), BadText)
    ∷ (not (is_within (pos 0) (pos 999999) code), BadCode)
    ∷ (not (in_frame f x y), BadPoint)
    ∷ [])
