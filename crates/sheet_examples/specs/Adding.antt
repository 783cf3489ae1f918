-- Adding, deleting, linking and unlinking. Digests are those of FIPS 180-4 as another program computes them.
use Rattle.std.specs.Prelude.{◌≡◌, ℕ, List, [], ◌∷◌, ◌++◌, length, Some, None, Ok, Err, pos, codes}
use Rattle.hex.specs.Hex.{encode_lower}
use Rattle.sha2.specs.Sha256.{sha256}
use Rattle.sheet_types.specs.Texts.{content_bytes, fingerprint, uuid_text}
use Rattle.sheet_types.specs.World.{World}
use Rattle.sheet_types.specs.Step.{outcome}
use Rattle.sheet_types.specs.Answers.{holdings_answer}
use Rattle.sheet_types.specs.declared.command.Command.TheVariants.{Add, Delete, Link, Unlink}
use Rattle.sheet_types.specs.declared.command.Content.TheVariants.{Tile, Media, Row}
use Rattle.sheet_types.specs.declared.command.Mapping.TheVariants.{TilesMedia, RowsMedia}
use Rattle.sheet_types.specs.declared.receipt.MovedKind.TheVariants.{TileItem}
use Rattle.sheet_types.specs.declared.receipt.Receipt.{Receipt}
use Rattle.sheet_types.specs.declared.refusal.Refusal.TheVariants.{TooLarge, BadPlace, IdentityUsed, WrongKind, Linked}
use Rattle.sheet_examples.specs.Sheets.{sheet, new_archive, after_all, ask, morning, archive, item, request, tile}
use Rattle.sheet_examples.specs.Sheets.{picture, row_link, replied, answer}

-- ---- the texts

abbrev pub Texts : Type 0
Texts = (uuid_text archive ≡ codes "a0000000-0000-4000-8000-000000000000")
    × (content_bytes (tile 2 3 3) ≡ 0x74 ∷ 0x69 ∷ 0x6c ∷ 0x65 ∷ 0x20 ∷ 0x32 ∷ 0x20 ∷ 0x33 ∷ 0x20
    ∷ 0x33 ∷ 0x0a ∷ 0x41
    ∷ [])
    × (content_bytes picture ≡ codes "media image/jpeg" ++ 0x0a ∷ 0x4a ∷ 0x50 ∷ [])
    × (content_bytes (Row (pos 0) (pos 4096) (pos 7) (codes "gate")) ≡ codes "row 0 4096 7" ++ 0x0a ∷ codes "gate")
    × (encode_lower (sha256 (codes "abc"))
    ≡ codes "ba7816bf8f01cfea414140de5dae2223b00361a396177a9cb410ff61f20015ad")

-- ---- the first tile: its line, its receipt, and the world that holds it

abbrev first_digest : List ℕ
first_digest = 179 ∷ 99 ∷ 238 ∷ 14 ∷ 204 ∷ 156 ∷ 246 ∷ 27 ∷ 18 ∷ 236 ∷ 218 ∷ 253 ∷ 117 ∷ 220
    ∷ 162 ∷ 119 ∷ 151 ∷ 41
    ∷ 180 ∷ 252 ∷ 197 ∷ 241 ∷ 189 ∷ 113 ∷ 140 ∷ 51 ∷ 170 ∷ 210 ∷ 201 ∷ 74 ∷ 244 ∷ 248 ∷ []

abbrev first_receipt : Receipt
first_receipt = record {
  seq = 1;
  request = request 1;
  at = morning;
  line = codes "add a0000000-0000-4000-8000-000000000000 00000000-0000-4000-8000-000000000001 tile 1 b363ee0ecc9cf61b12ecdafd75dca2779729b4fcc5f1bd718c33aad2c94af4f8";
  source = None;
  target = Some archive;
  items = record { kind = TileItem; base = item 1; other = None; size = 1; fingerprint = Some first_digest } ∷ [];
  tiles = 1;
  media = 0;
  rows = 0;
  links = 0;
  bytes = 1;
}

abbrev with_first_tile : World
with_first_tile = record {
  frame = sheet;
  packages = record {
    uuid = archive;
    parent = None;
    depth = 0;
    loan = 0;
    items = record { identity = item 1; content = tile 2 3 3 } ∷ [];
    links = [];
    receipts = first_receipt ∷ [];
  } ∷ [];
}

abbrev pub FirstTile : Type 0
FirstTile = outcome new_archive (ask 1 (Add archive (item 1) (tile 2 3 3))) ≡ (Ok first_receipt, with_first_tile)

-- ---- there is no such place

abbrev pub NoSuchPlace : Type 0
NoSuchPlace = (outcome new_archive (ask 1 (Add archive (item 1) (tile 2 4 0))) ≡ (Err BadPlace, new_archive))
    × (outcome new_archive (ask 1 (Add archive (item 1) (tile 3 0 0))) ≡ (Err BadPlace, new_archive))

-- ---- the sizes of a tile: of one byte to 1,048,576, whatever the bytes are

abbrev pub TileSizes : Type 0
TileSizes = (replied new_archive (ask 1 (Add archive (item 1) (Tile (pos 0) (pos 0) (pos 0) []))) ≡ Err TooLarge)
    × (replied new_archive (ask 1 (Add archive (item 1) (tile 0 0 0)))
    ≡ Ok (1 ∷ 1 ∷ 0 ∷ 0 ∷ 0 ∷ 1 ∷ [], None, Some archive))
    × ((bytes : List ℕ) → length bytes ≡ 1048576 → replied new_archive
    (ask 1 (Add archive (item 1) (Tile (pos 0) (pos 0) (pos 0) bytes)))
    ≡ Ok (1 ∷ 1 ∷ 0 ∷ 0 ∷ 0 ∷ 1048576 ∷ [], None, Some archive))
    × ((bytes : List ℕ) → length bytes ≡ 1048577 → replied new_archive
    (ask 1 (Add archive (item 1) (Tile (pos 0) (pos 0) (pos 0) bytes))) ≡ Err TooLarge)
    × ((bytes : List ℕ) → length bytes ≡ 1048577 → replied new_archive
    (ask 1 (Add archive (item 1) (Media (codes "image/jpeg") bytes))) ≡ Err TooLarge)

-- ---- used for good: an identity once, a link again

abbrev deleted : World
deleted = after_all new_archive (ask 1 (Add archive (item 1) (tile 1 0 0)) ∷ ask 2 (Delete archive (item 1)) ∷ [])

abbrev unlinked : World
unlinked = after_all deleted (ask 4 (Add archive (item 2) (tile 1 0 0)) ∷ ask 5 (Add archive (item 3) picture)
    ∷ ask 6 (Link archive TilesMedia (item 2) (item 3)) ∷ ask 7 (Unlink archive TilesMedia (item 2) (item 3))
    ∷ [])

abbrev pub UsedForGood : Type 0
UsedForGood = (replied deleted (ask 3 (Add archive (item 1) (tile 1 0 0))) ≡ Err IdentityUsed)
    × (replied unlinked (ask 8 (Link archive TilesMedia (item 2) (item 3)))
    ≡ Ok (7 ∷ 0 ∷ 0 ∷ 0 ∷ 1 ∷ 0 ∷ [], None, Some archive))

-- ---- a linked medium, and a wrong base

abbrev linked_pair : World
linked_pair = after_all new_archive (ask 1 (Add archive (item 2) (tile 1 0 0)) ∷ ask 2 (Add archive (item 3) picture)
    ∷ ask 3 (Link archive TilesMedia (item 2) (item 3)) ∷ [])

abbrev pub LinkedMedium : Type 0
LinkedMedium = (answer linked_pair (ask 4 (Delete archive (item 3))) ≡ Err Linked)
    × (answer linked_pair (ask 4 (Link archive RowsMedia (item 2) (item 3))) ≡ Err WrongKind)

-- ---- a row, a medium and their link, in the order of a list of holdings

abbrev gate : World
gate = after_all new_archive (ask 1 (Add archive (item 1) (Row (pos 0) (pos 4096) (pos 7) (codes "gate")))
    ∷ ask 2 (Add archive (item 3) picture) ∷ ask 3 (Link archive RowsMedia (item 1) (item 3)) ∷ [])

abbrev pub RowMediumAndLink : Type 0
RowMediumAndLink = (holdings_answer gate archive
    ≡ Some (
      record { identity = item 3; content = picture } ∷ record
          { identity = item 1; content = Row (pos 0) (pos 4096) (pos 7) (codes "gate") } ∷ [],
      row_link 1 3 ∷ [],
    ))
    × (encode_lower (fingerprint picture) ≡ codes "0d293ef7b06e5c2cd296350b48694d0921c8acb7a72407aee7d2dbd3936d7da0")
    × (encode_lower (fingerprint (Row (pos 0) (pos 4096) (pos 7) (codes "gate")))
    ≡ codes "e43e5d2489a3da72d168ede7401f6f60f459782a7e66f46822d8dcd10bb20517")
