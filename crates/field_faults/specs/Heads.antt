-- Whether a file is one of this package as it is. Profile.
use Rattle.std.specs.Prelude.{ℕ, ◌^◌, Bool, true, false, not, ◌&&◌, ◌||◌, List, [], ◌∷◌, Option}
use Rattle.std.specs.Prelude.{Some, None, ℤ, pos}
use Rattle.std.specs.Prelude.{◌*ℤ◌, int_le, nat_eq, unsigned_abs, bytes_eq, codes, take}
use Rattle.std.specs.List.{list_any}
use Rattle.sheet_types.specs.Matrix.{is_within, first_row, is_good_frame, tile_span_x, tile_span_y}
use Rattle.sheet_types.specs.Texts.{kind_of}
use Rattle.sheet_types.specs.World.{kind_is}
use Rattle.sheet_types.specs.declared.frame.Frame.{Frame}
use Rattle.sheet_types.specs.declared.receipt.MovedKind.{MovedKind}
use Rattle.sheet_types.specs.declared.receipt.MovedKind.TheVariants.{TileItem, RowItem}
use Rattle.field_changes.specs.declared.held.BadRecord.{BadRecord}
use Rattle.field_changes.specs.declared.held.Export.{Export}
use Rattle.field_changes.specs.declared.held.HeldItem.{HeldItem}
use Rattle.field_changes.specs.declared.held.Held.{Held}
use Rattle.field_faults.specs.declared.heads.HeadFault.{HeadFault}
use Rattle.field_faults.specs.declared.heads.HeadFault.TheVariants.{OtherPackage, Stale, OtherSystem, OtherFrame}

-- two numbers are one
abbrev pub is_same : ℤ → ℤ → Bool
is_same a b = is_within a a b

-- a number of 64 bits is this one
abbrev pub is_number : ℕ → ℤ → Bool
is_number n number = int_le (pos 0) number && nat_eq (unsigned_abs number) n

-- it was an export of this package, or it was none where more is all that is asked
abbrev pub is_of : List ℕ → Bool → Option Export → Bool
is_of p more None = more
is_of p more (Some export) = bytes_eq export.«package» p

-- it was one at another ticket
abbrev pub is_stale : ℕ → Option Export → Bool
is_stale ticket None = false
is_stale ticket (Some export) = not (is_number ticket export.ticket)

-- an item of this kind is there
abbrev pub has_kind : MovedKind → List HeldItem → Bool
has_kind kind items = list_any (λ h. kind_is kind (kind_of h.content)) items

-- its points have this system; a file without points needs none
abbrev pub has_system : ℤ → Option ℤ → Bool → Bool
has_system wanted None has_rows = not has_rows
has_system wanted (Some system) has_rows = is_same wanted system

-- how wide and how high a tile would be at zoom 0
abbrev pub width_at_zero : Frame → ℤ
width_at_zero f = tile_span_x f f.first_zoom *ℤ pos (2 ^ unsigned_abs f.first_zoom)

abbrev pub height_at_zero : Frame → ℤ
height_at_zero f = tile_span_y f f.first_zoom *ℤ pos (2 ^ unsigned_abs f.first_zoom)

-- the corner from which columns and rows count, the system, and the pixels of a tile
abbrev pub same_corner : Frame → Frame → Bool
same_corner mine theirs = is_same mine.srs_id theirs.srs_id && is_same mine.min_x theirs.min_x && is_same mine.max_y
    theirs.max_y && is_same mine.tile_width theirs.tile_width && is_same mine.tile_height theirs.tile_height

abbrev pub same_spans : Frame → Frame → Bool
same_spans mine theirs = is_same (width_at_zero mine) (width_at_zero theirs) && is_same (height_at_zero mine)
    (height_at_zero theirs)

-- a place of one is the same ground in the other, whatever zooms they have and how far they reach to the east and the
-- south
abbrev pub same_grid : Frame → Frame → Bool
same_grid mine theirs = same_corner mine theirs && (is_good_frame theirs && same_spans mine theirs)

-- its tiles have this grid; a file without tiles needs none, and where the frame could not be listed that is told as
-- a record
abbrev pub has_grid : Frame → Option Frame → Bool → Bool
has_grid mine None has_tiles = not has_tiles
has_grid mine (Some theirs) has_tiles = same_grid mine theirs

-- the frame is a record that could not be listed
abbrev pub tells_frame : BadRecord → Bool
tells_frame bad = bytes_eq (take 5 bad.text) (codes "frame")

-- the first reason for which a file is none of this package at this ticket, if there is one
abbrev pub head_fault : List ℕ → ℕ → Frame → Bool → Held → Option HeadFault
head_fault p ticket frame more held = first_row
    ((not (is_of p more held.export), OtherPackage)
    ∷ (is_stale ticket held.export, Stale)
    ∷ (not (has_system frame.srs_id held.system (has_kind RowItem held.items.items)), OtherSystem)
    ∷ (
      not (list_any tells_frame held.bad.items || has_grid frame held.frame (has_kind TileItem held.items.items)),
      OtherFrame,
    )
    ∷ [])
