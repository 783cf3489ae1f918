-- A story of nine requests, with each receipt and each world written out: the six commands, a loan and its return.
-- Digests are those of FIPS 180-4 as another program computes them.
use Rattle.std.specs.Prelude.{◌≡◌, ℕ, List, [], ◌∷◌, Option, Some, None, Ok, pos, codes}
use Rattle.sheet_types.specs.World.{World, Package}
use Rattle.sheet_types.specs.Step.{outcome}
use Rattle.sheet_types.specs.declared.command.Command.TheVariants.{Add, Delete, Link, Unlink, Split, Merge}
use Rattle.sheet_types.specs.declared.command.Content.{Content}
use Rattle.sheet_types.specs.declared.command.Content.TheVariants.{Row}
use Rattle.sheet_types.specs.declared.command.Item.{Item}
use Rattle.sheet_types.specs.declared.command.Mapping.TheVariants.{TilesMedia}
use Rattle.sheet_types.specs.declared.command.Mode.TheVariants.{Strict}
use Rattle.sheet_types.specs.declared.command.Relation.{Relation}
use Rattle.sheet_types.specs.declared.receipt.Moved.{Moved}
use Rattle.sheet_types.specs.declared.receipt.MovedKind.{MovedKind}
use Rattle.sheet_types.specs.declared.receipt.MovedKind.TheVariants.{TileItem, MediaItem, RowItem, TilesMediaLink}
use Rattle.sheet_types.specs.declared.receipt.Receipt.{Receipt}
use Rattle.sheet_examples.specs.Sheets.{sheet, ask, morning, archive, crew, item, request, tile, picture, quarter}
use Rattle.sheet_examples.specs.Sheets.{tile_link}

-- ---- what is held

abbrev pub gate : Content
gate = Row (pos 3000) (pos 1000) (pos 7) (codes "gate")

abbrev pub kept_as : ℕ → Content → Item
kept_as n content = record { identity = item n; content = content }

abbrev pub archive_with : List Item → List Relation → List Receipt → Package
archive_with items links receipts = record {
  uuid = archive;
  parent = None;
  depth = 0;
  loan = 0;
  items = items;
  links = links;
  receipts = receipts;
}

-- the loan of the fifth request
abbrev pub crew_with : List Item → List Relation → List Receipt → Package
crew_with items links receipts = record {
  uuid = crew;
  parent = Some archive;
  depth = 1;
  loan = 5;
  items = items;
  links = links;
  receipts = receipts;
}

abbrev pub world_with : List Package → World
world_with packages = record { frame = sheet; packages = packages }

-- ---- what is moved

abbrev pub moved_item : MovedKind → ℕ → ℕ → List ℕ → Moved
moved_item kind n size digest = record {
  kind = kind;
  base = item n;
  other = None;
  size = size;
  fingerprint = Some digest;
}

abbrev pub moved_gate : Moved
moved_gate = moved_item RowItem 2 4 (57 ∷ 147 ∷ 177 ∷ 88 ∷ 213 ∷ 112 ∷ 166 ∷ 218 ∷ 121 ∷ 121 ∷ 245
    ∷ 166 ∷ 57 ∷ 89
    ∷ 198 ∷ 120 ∷ 144 ∷ 63 ∷ 190 ∷ 61 ∷ 175 ∷ 183 ∷ 182 ∷ 206 ∷ 245 ∷ 79 ∷ 72 ∷ 190 ∷ 87
    ∷ 175 ∷ 43 ∷ 175 ∷ [])

abbrev pub moved_corner : Moved
moved_corner = moved_item TileItem 1 1 (194 ∷ 14 ∷ 183 ∷ 30 ∷ 99 ∷ 240 ∷ 38 ∷ 8 ∷ 52 ∷ 150 ∷ 13
    ∷ 207 ∷ 191 ∷ 251
    ∷ 223 ∷ 158 ∷ 150 ∷ 234 ∷ 220 ∷ 11 ∷ 137 ∷ 70 ∷ 219 ∷ 53 ∷ 163 ∷ 75 ∷ 147 ∷ 130
    ∷ 220 ∷ 48 ∷ 24 ∷ 72 ∷ [])

abbrev pub moved_photo : Moved
moved_photo = moved_item MediaItem 3 2 (13 ∷ 41 ∷ 62 ∷ 247 ∷ 176 ∷ 110 ∷ 92 ∷ 44 ∷ 210 ∷ 150 ∷ 53
    ∷ 11 ∷ 72 ∷ 105 ∷ 77
    ∷ 9 ∷ 33 ∷ 200 ∷ 172 ∷ 183 ∷ 167 ∷ 36 ∷ 7 ∷ 174 ∷ 231 ∷ 210 ∷ 219 ∷ 211 ∷ 147 ∷ 109
    ∷ 125 ∷ 160 ∷ [])

abbrev pub moved_small : Moved
moved_small = moved_item TileItem 4 1 (213 ∷ 215 ∷ 2 ∷ 202 ∷ 133 ∷ 90 ∷ 110 ∷ 77 ∷ 145 ∷ 172 ∷ 10
    ∷ 95 ∷ 61 ∷ 52 ∷ 113
    ∷ 188 ∷ 109 ∷ 107 ∷ 45 ∷ 86 ∷ 65 ∷ 166 ∷ 200 ∷ 237 ∷ 175 ∷ 149 ∷ 93 ∷ 225 ∷ 114
    ∷ 162 ∷ 181 ∷ 102 ∷ [])

abbrev pub moved_link : Moved
moved_link = record { kind = TilesMediaLink; base = item 1; other = Some (item 3); size = 0; fingerprint = None }

-- a receipt but for its counts, which are a row's, a tile's and so on
abbrev pub entered : ℕ → List ℕ → Option (List ℕ) → Option (List ℕ) → List Moved → Receipt
entered seq line source target items = record {
  seq = seq;
  request = request seq;
  at = morning;
  line = line;
  source = source;
  target = target;
  items = items;
  tiles = 0;
  media = 0;
  rows = 0;
  links = 0;
  bytes = 0;
}

abbrev pub receipt_1 : Receipt
receipt_1 = record (entered 1 (codes "add a0000000-0000-4000-8000-000000000000 00000000-0000-4000-8000-000000000002 row 4 3993b158d570a6da7979f5a63959c678903fbe3dafb7b6cef54f48be57af2baf") None (Some archive) (moved_gate ∷ [])) { rows = 1; bytes = 4 }

abbrev pub receipt_2 : Receipt
receipt_2 = record (entered 2 (codes "add a0000000-0000-4000-8000-000000000000 00000000-0000-4000-8000-000000000001 tile 1 c20eb71e63f0260834960dcfbffbdf9e96eadc0b8946db35a34b9382dc301848") None (Some archive) (moved_corner ∷ [])) { tiles = 1; bytes = 1 }

abbrev pub receipt_3 : Receipt
receipt_3 = record (entered 3 (codes "add a0000000-0000-4000-8000-000000000000 00000000-0000-4000-8000-000000000003 media 2 0d293ef7b06e5c2cd296350b48694d0921c8acb7a72407aee7d2dbd3936d7da0") None (Some archive) (moved_photo ∷ [])) { media = 1; bytes = 2 }

abbrev pub receipt_4 : Receipt
receipt_4 = record (entered 4 (codes "link tiles_media a0000000-0000-4000-8000-000000000000 00000000-0000-4000-8000-000000000001 00000000-0000-4000-8000-000000000003") None (Some archive) (moved_link ∷ [])) { links = 1 }

abbrev pub receipt_5 : Receipt
receipt_5 =
    record (entered 5
    (codes "split a0000000-0000-4000-8000-000000000000 b0000000-0000-4000-8000-000000000000 strict 1 0 0 0 0")
    (Some archive) (Some crew) (moved_corner ∷ moved_photo ∷ moved_link ∷ []))
    { tiles = 1; media = 1; links = 1; bytes = 3 }

abbrev pub receipt_6 : Receipt
receipt_6 = record (entered 6 (codes "add b0000000-0000-4000-8000-000000000000 00000000-0000-4000-8000-000000000004 tile 1 d5d702ca855a6e4d91ac0a5f3d3471bc6d6b2d5641a6c8edaf955de172a2b566") None (Some crew) (moved_small ∷ [])) { tiles = 1; bytes = 1 }

abbrev pub receipt_7 : Receipt
receipt_7 =
    record (entered 7 (codes "merge b0000000-0000-4000-8000-000000000000 a0000000-0000-4000-8000-000000000000 6")
    (Some crew) (Some archive) (moved_corner ∷ moved_small ∷ moved_photo ∷ moved_link ∷ []))
    { tiles = 2; media = 1; links = 1; bytes = 4 }

abbrev pub receipt_8 : Receipt
receipt_8 = record (entered 8 (codes "unlink tiles_media a0000000-0000-4000-8000-000000000000 00000000-0000-4000-8000-000000000001 00000000-0000-4000-8000-000000000003") (Some archive) None (moved_link ∷ [])) { links = 1 }

abbrev pub receipt_9 : Receipt
receipt_9 =
    record (entered 9 (codes "delete a0000000-0000-4000-8000-000000000000 00000000-0000-4000-8000-000000000001")
    (Some archive) None (moved_corner ∷ [])) { tiles = 1; bytes = 1 }

-- ---- the worlds, from the new archive on

abbrev pub world_0 : World
world_0 = world_with (archive_with [] [] [] ∷ [])

abbrev pub world_1 : World
world_1 = world_with (archive_with (kept_as 2 gate ∷ []) [] (receipt_1 ∷ []) ∷ [])

abbrev pub world_2 : World
world_2 = world_with (archive_with (kept_as 1 (tile 1 0 0) ∷ kept_as 2 gate ∷ []) []
    (receipt_1 ∷ receipt_2 ∷ []) ∷ [])

abbrev pub world_3 : World
world_3 = world_with (archive_with (kept_as 1 (tile 1 0 0) ∷ kept_as 3 picture ∷ kept_as 2 gate ∷ []) []
    (receipt_1 ∷ receipt_2 ∷ receipt_3 ∷ []) ∷ [])

abbrev pub world_4 : World
world_4 = world_with (archive_with (kept_as 1 (tile 1 0 0) ∷ kept_as 3 picture ∷ kept_as 2 gate ∷ [])
    (tile_link 1 3 ∷ []) (receipt_1 ∷ receipt_2 ∷ receipt_3 ∷ receipt_4 ∷ []) ∷ [])

abbrev pub world_5 : World
world_5 = world_with (archive_with (kept_as 2 gate ∷ []) [] (receipt_1 ∷ receipt_2 ∷ receipt_3 ∷ receipt_4
    ∷ receipt_5
    ∷ []) ∷ crew_with (kept_as 1 (tile 1 0 0) ∷ kept_as 3 picture ∷ []) (tile_link 1 3 ∷ []) [] ∷ [])

abbrev pub world_6 : World
world_6 = world_with (archive_with (kept_as 2 gate ∷ []) [] (receipt_1 ∷ receipt_2 ∷ receipt_3 ∷ receipt_4
    ∷ receipt_5
    ∷ []) ∷ crew_with (kept_as 1 (tile 1 0 0) ∷ kept_as 4 (tile 2 0 0) ∷ kept_as 3 picture ∷ [])
    (tile_link 1 3 ∷ [])
    (receipt_6 ∷ []) ∷ [])

abbrev pub world_7 : World
world_7 = world_with (archive_with (kept_as 1 (tile 1 0 0) ∷ kept_as 4 (tile 2 0 0) ∷ kept_as 3 picture
    ∷ kept_as 2 gate ∷ []) (tile_link 1 3 ∷ []) (receipt_1 ∷ receipt_2 ∷ receipt_3 ∷ receipt_4
    ∷ receipt_5 ∷ receipt_6
    ∷ receipt_7 ∷ []) ∷ [])

abbrev pub world_8 : World
world_8 = world_with (archive_with (kept_as 1 (tile 1 0 0) ∷ kept_as 4 (tile 2 0 0) ∷ kept_as 3 picture
    ∷ kept_as 2 gate ∷ []) [] (receipt_1 ∷ receipt_2 ∷ receipt_3 ∷ receipt_4 ∷ receipt_5 ∷ receipt_6
    ∷ receipt_7
    ∷ receipt_8 ∷ []) ∷ [])

abbrev pub world_9 : World
world_9 = world_with (archive_with (kept_as 4 (tile 2 0 0) ∷ kept_as 3 picture ∷ kept_as 2 gate ∷ []) []
    (receipt_1 ∷ receipt_2 ∷ receipt_3 ∷ receipt_4 ∷ receipt_5 ∷ receipt_6 ∷ receipt_7 ∷ receipt_8
    ∷ receipt_9 ∷ [])
    ∷ [])

-- ---- each request in its world: the receipt, and the world after it

abbrev pub AddsARow : Type 0
AddsARow = outcome world_0 (ask 1 (Add archive (item 2) gate)) ≡ (Ok receipt_1, world_1)

abbrev pub AddsATile : Type 0
AddsATile = outcome world_1 (ask 2 (Add archive (item 1) (tile 1 0 0))) ≡ (Ok receipt_2, world_2)

abbrev pub AddsAMedium : Type 0
AddsAMedium = outcome world_2 (ask 3 (Add archive (item 3) picture)) ≡ (Ok receipt_3, world_3)

abbrev pub LinksThem : Type 0
LinksThem = outcome world_3 (ask 4 (Link archive TilesMedia (item 1) (item 3))) ≡ (Ok receipt_4, world_4)

abbrev pub LendsThem : Type 0
LendsThem = outcome world_4 (ask 5 (Split archive crew Strict quarter)) ≡ (Ok receipt_5, world_5)

abbrev pub AddsToTheLoan : Type 0
AddsToTheLoan = outcome world_5 (ask 6 (Add crew (item 4) (tile 2 0 0))) ≡ (Ok receipt_6, world_6)

abbrev pub BringsThemBack : Type 0
BringsThemBack = outcome world_6 (ask 7 (Merge crew archive (pos 6))) ≡ (Ok receipt_7, world_7)

abbrev pub UnlinksThem : Type 0
UnlinksThem = outcome world_7 (ask 8 (Unlink archive TilesMedia (item 1) (item 3))) ≡ (Ok receipt_8, world_8)

abbrev pub DeletesOne : Type 0
DeletesOne = outcome world_8 (ask 9 (Delete archive (item 1))) ≡ (Ok receipt_9, world_9)
