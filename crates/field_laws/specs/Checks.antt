-- What a caller looks at before it asks for changes. Where each test passes, no request is refused. Profile.
use Rattle.std.specs.Prelude.{◌≡◌, ℕ, ◌+◌, ◌≤◌, Bool, true, false, not, ◌&&◌, List, [], map}
use Rattle.std.specs.Prelude.{filter, length}
use Rattle.std.specs.List.{list_all, list_any}
use Rattle.sheet_types.specs.Custody.{is_used}
use Rattle.sheet_types.specs.Cut.{identities}
use Rattle.sheet_types.specs.Matrix.{has_place, in_frame}
use Rattle.sheet_types.specs.Refuse.{bad_text, has_good_size, takes_place, place_of, is_overfull, too_many}
use Rattle.sheet_types.specs.Refuse.{greatest_receipts}
use Rattle.sheet_types.specs.Texts.{is_moment, kind_of}
use Rattle.sheet_types.specs.World.{World, holdings, receipts_of, kind_is}
use Rattle.sheet_types.specs.declared.command.Command.TheVariants.{Add}
use Rattle.sheet_types.specs.declared.command.Content.{Content}
use Rattle.sheet_types.specs.declared.command.Content.TheVariants.{Tile, Media, Row}
use Rattle.sheet_types.specs.declared.command.Request.{Request}
use Rattle.sheet_types.specs.declared.frame.Frame.{Frame}
use Rattle.sheet_types.specs.declared.receipt.MovedKind.TheVariants.{TileItem}
use Rattle.field_changes.specs.declared.asking.Parts.{Parts}
use Rattle.field_changes.specs.declared.held.HeldItem.{HeldItem}
use Rattle.field_run_laws.specs.Lists.{has_twice, AreNew}
use Rattle.field_laws.specs.Making.{after_parts}

-- a tile has a place in the frame, a row's point lies in it
abbrev pub has_fit_place : Frame → Content → Bool
has_fit_place f (Tile zoom column row bytes) = has_place f zoom column row
has_fit_place f (Media content_type bytes) = true
has_fit_place f (Row x y code label) = in_frame f x y

-- an Add can bring the content: its text, its size and its place are in bounds
abbrev pub is_fit : Frame → Content → Bool
is_fit f c = not (bad_text (Add [] [] c)) && has_good_size c && has_fit_place f c

-- the places of the tiles of a file
abbrev pub tile_places : List HeldItem → List (List ℕ)
tile_places file = map (λ h. place_of h.content) (filter (λ h. kind_is TileItem (kind_of h.content)) file)

-- the package can take the file
pub record CanTake (w : World) (p moment : List ℕ) (more : Bool) (file : List HeldItem) (parts : Parts)
    (requests : List Request) : Type 0 where
  pub moment_fits : is_moment moment ≡ true
  pub contents_fit : list_all (λ h. is_fit w.frame h.content) file ≡ true
  -- no two tiles of the file have one place; with `more` no new one has that of a tile of the package
  pub places_apart : has_twice (tile_places file) ≡ false
  pub places_free : (more && list_any (λ i. takes_place (holdings w p) i.content) parts.adds.items) ≡ false
  -- no new identity was ever used, and no two are one
  pub unused : list_any (λ i. is_used w i.identity) parts.adds.items ≡ false
  pub identities_apart : has_twice (identities parts.adds.items) ≡ false
  pub requests_new : AreNew w requests
  -- nothing is past its limit, before and after
  pub within_limits : too_many w ≡ false
  pub ledger_within : length (receipts_of w) + length requests ≤ greatest_receipts
  pub package_within : is_overfull (after_parts parts (holdings w p)) ≡ false
