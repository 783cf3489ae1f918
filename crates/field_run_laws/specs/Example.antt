-- An example: a new archive takes a tile and a medium, links and unlinks them, and gives the tile up. Profile.
use Rattle.std.specs.Prelude.{◌≡◌, false, ℕ, pos, List, [], ◌∷◌, codes}
use Rattle.sheet_types.specs.Refuse.{too_many}
use Rattle.sheet_types.specs.World.{new_world}
use Rattle.sheet_types.specs.declared.command.Command.{Command}
use Rattle.sheet_types.specs.declared.command.Command.TheVariants.{Add, Delete, Link, Unlink}
use Rattle.sheet_types.specs.declared.command.Content.TheVariants.{Tile, Media}
use Rattle.sheet_types.specs.declared.command.Mapping.TheVariants.{TilesMedia}
use Rattle.sheet_types.specs.declared.command.Request.{Request}
use Rattle.sheet_types.specs.declared.frame.Frame.{Frame}
use Rattle.field_run_laws.specs.Lists.{AreWithin, AreNew}
use Rattle.field_run_laws.specs.Ready.{AreReady}

-- one zoom of one tile
abbrev pub sheet : Frame
sheet = record {
  srs_id = pos 25832;
  min_x = pos 0;
  min_y = pos 0;
  max_x = pos 4096;
  max_y = pos 4096;
  tile_width = pos 256;
  tile_height = pos 256;
  first_zoom = pos 0;
  levels = pos 1;
  matrix_width = pos 1;
  matrix_height = pos 1;
}

-- a UUID that ends so
abbrev pub uuid_of : ℕ → List ℕ
uuid_of n = 0 ∷ 0 ∷ 0 ∷ 0 ∷ 0 ∷ 0 ∷ 64 ∷ 0 ∷ 128 ∷ 0 ∷ 0 ∷ 0 ∷ 0 ∷ 0 ∷ 0 ∷ n ∷ []

abbrev pub archive : List ℕ
archive = uuid_of 0

abbrev pub ask : ℕ → Command → Request
ask n command = record { id = uuid_of n; at = codes "2024-05-01T08:00:00.000Z"; command = command }

abbrev pub visit : List Request
visit = ask 11 (Add archive (uuid_of 1) (Tile (pos 0) (pos 0) (pos 0) (66 ∷ [])))
    ∷ ask 12 (Add archive (uuid_of 2) (Media (codes "image/jpeg") (66 ∷ [])))
    ∷ ask 13 (Link archive TilesMedia (uuid_of 1) (uuid_of 2))
    ∷ ask 14 (Unlink archive TilesMedia (uuid_of 1) (uuid_of 2))
    ∷ ask 15 (Delete archive (uuid_of 1))
    ∷ []

-- each is ready when its turn comes
abbrev pub VisitIsReady : Type 0
VisitIsReady = AreWithin archive visit × AreNew (new_world archive sheet) visit
    × (too_many (new_world archive sheet) ≡ false) × AreReady (new_world archive sheet) [] [] [] visit
