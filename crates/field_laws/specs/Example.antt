-- An example: an empty archive, and a file with one tile. Profile.
use Rattle.std.specs.Prelude.{◌≡◌, true, false, ℕ, pos, List, [], ◌∷◌, None, codes}
use Rattle.sheet_types.specs.Register.{IsRegister}
use Rattle.sheet_types.specs.World.{is_live, new_world}
use Rattle.sheet_types.specs.declared.command.Content.{Content}
use Rattle.sheet_types.specs.declared.command.Content.TheVariants.{Tile}
use Rattle.sheet_types.specs.declared.command.Item.{Item}
use Rattle.sheet_types.specs.declared.command.Request.{Request}
use Rattle.sheet_types.specs.declared.frame.Frame.{Frame}
use Rattle.field_changes.specs.Asked.{adding}
use Rattle.field_changes.specs.Ids.{derived, item_text, request_of}
use Rattle.field_changes.specs.declared.asking.Parts.{Parts}
use Rattle.field_changes.specs.declared.held.HeldItem.{HeldItem}
use Rattle.field_laws.specs.Changing.{Changes}
use Rattle.field_laws.specs.Checks.{CanTake}

-- one zoom of one tile
abbrev pub sheet : Frame
sheet = record {
  srs_id = pos 25832;
  min_x = pos 0;
  min_y = pos 0;
  max_x = pos 4096;
  max_y = pos 4096;
  tile_width = pos 256;
  tile_height = pos 256;
  first_zoom = pos 0;
  levels = pos 1;
  matrix_width = pos 1;
  matrix_height = pos 1;
}

abbrev pub archive : List ℕ
archive = 160 ∷ 0 ∷ 0 ∷ 0 ∷ 0 ∷ 0 ∷ 64 ∷ 0 ∷ 128 ∷ 0 ∷ 0 ∷ 0 ∷ 0 ∷ 0 ∷ 0 ∷ 0 ∷ []

abbrev pub morning : List ℕ
morning = codes "2024-05-01T08:00:00.000Z"

abbrev pub picture : Content
picture = Tile (pos 0) (pos 0) (pos 0) (66 ∷ [])

-- the tile has no identity in the file
abbrev pub drawn : HeldItem
drawn = record { number = pos 1; identity = None; content = picture }

-- the item that it comes to be
abbrev pub town : Item
town = record { identity = derived (item_text archive 0 0 picture); content = picture }

abbrev pub asked : List Request
asked = request_of archive 0 morning (adding archive town) ∷ []

-- parts that add this tile are those for the file, and the archive can take it
abbrev pub EmptyArchiveTakes : Type 0
EmptyArchiveTakes = (parts : Parts) →
    parts.unlinks.items ≡ [] → parts.deletes.items ≡ [] → parts.adds.items ≡ town ∷ []
    → parts.links.items ≡ [] →
    IsRegister (new_world archive sheet) × (is_live (new_world archive sheet) archive ≡ true)
    × ((changes : Changes (new_world archive sheet) archive 0 morning false (drawn ∷ []) [] asked)
    × CanTake (new_world archive sheet) archive morning false (drawn ∷ []) changes.parts asked)
