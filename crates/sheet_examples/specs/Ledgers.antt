-- A sound ledger, ledgers each of which breaks one rule, and worlds for which no sound ledger accounts.
use Rattle.std.specs.Prelude.{◌≡◌, ℕ, true, false, List, [], ◌∷◌, Some, None, Ok, pos, codes, count_by}
use Rattle.std.specs.Prelude.{sum_by, length}
use Rattle.sheet_types.specs.Texts.{size}
use Rattle.sheet_types.specs.World.{World, Package, receipts_of, link_key, is_tile, is_medium, is_row}
use Rattle.sheet_types.specs.Lines.{is_uuid}
use Rattle.sheet_types.specs.Step.{outcome, receipt_of, relation}
use Rattle.sheet_types.specs.Balance.{AddsUp, Balanced, IsLedger, altered}
use Rattle.sheet_types.specs.Register.{IsKeptPackage, IsRegister}
use Rattle.sheet_types.specs.declared.command.Command.TheVariants.{Add, Delete, Link, Split, Merge}
use Rattle.sheet_types.specs.declared.command.Content.{Content}
use Rattle.sheet_types.specs.declared.command.Content.TheVariants.{Media}
use Rattle.sheet_types.specs.declared.command.Item.{Item}
use Rattle.sheet_types.specs.declared.command.Mapping.TheVariants.{TilesMedia}
use Rattle.sheet_types.specs.declared.command.Mode.TheVariants.{Strict}
use Rattle.sheet_types.specs.declared.command.Request.{Request}
use Rattle.sheet_types.specs.declared.receipt.Receipt.{Receipt}
use Rattle.sheet_examples.specs.Sheets.{new_archive, after_all, ask, archive, crew, second_crew, item, request, tile}
use Rattle.sheet_examples.specs.Sheets.{tile_of, picture, row_at, quarter, tile_link}
use Rattle.sheet_examples.specs.Story.{gate, entered, moved_corner, moved_photo, moved_small, receipt_1, receipt_2}
use Rattle.sheet_examples.specs.Story.{receipt_3, receipt_4, receipt_6, kept_as, archive_with, crew_with, world_with}

-- ---- a tile is added, lent and brought back

abbrev pub added : Receipt
added = record receipt_2 { seq = 1; request = request 1 }

abbrev pub lent : Receipt
lent = record
    (entered 2
    (codes "split a0000000-0000-4000-8000-000000000000 b0000000-0000-4000-8000-000000000000 strict 1 0 0 0 0")
    (Some archive) (Some crew) (moved_corner ∷ [])) { tiles = 1; bytes = 1 }

abbrev pub returned : Receipt
returned =
    record (entered 3 (codes "merge b0000000-0000-4000-8000-000000000000 a0000000-0000-4000-8000-000000000000 2")
    (Some crew) (Some archive) (moved_corner ∷ [])) { tiles = 1; bytes = 1 }

abbrev pub SoundLedger : Type 0
SoundLedger = IsLedger archive [] (added ∷ lent ∷ returned ∷ [])

abbrev corner : Item
corner = kept_as 1 (tile 1 0 0)

abbrev crew_of : ℕ → List Item → List Receipt → Package
crew_of number items receipts = record (crew_with items [] receipts) { loan = number }

-- the worlds that have it: with the tile, with the loan, and after its return
abbrev after_adding : World
after_adding = world_with (archive_with (corner ∷ []) [] (added ∷ []) ∷ [])

abbrev after_lending : World
after_lending = world_with (archive_with [] [] (added ∷ lent ∷ []) ∷ crew_of 2 (corner ∷ []) [] ∷ [])

abbrev after_returning : World
after_returning = world_with (archive_with (corner ∷ []) [] (added ∷ lent ∷ returned ∷ []) ∷ [])

abbrev pub LedgerOfRequests : Type 0
LedgerOfRequests = (outcome new_archive (ask 1 (Add archive (item 1) (tile 1 0 0))) ≡ (Ok added, after_adding))
    × (outcome after_adding (ask 2 (Split archive crew Strict quarter)) ≡ (Ok lent, after_lending))
    × (outcome after_lending (ask 3 (Merge crew archive (pos 2))) ≡ (Ok returned, after_returning))

-- ---- ledgers that are not sound

abbrev Unsound : List Receipt → Type 0
Unsound receipts = IsLedger archive [] receipts → ⊥

-- the numbers are 1 to that of the receipts, no request stands twice, and the counts are those of what is moved
abbrev pub WrongNumbers : Type 0
WrongNumbers = Unsound (added ∷ lent ∷ record returned { seq = 4 } ∷ [])
    × Unsound (added ∷ record lent { request = request 1 } ∷ [])
    × Unsound (record added { tiles = 2 } ∷ [])
    × Unsound (record added { media = 1 } ∷ [])
    × Unsound (record added { rows = 1 } ∷ [])
    × Unsound (record added { links = 1 } ∷ [])
    × Unsound (record added { bytes = 2 } ∷ [])

-- a receipt fits its whole line: its ends are the command's, what an Add moves is what its line says, and there is
-- such a line
abbrev pub WrongLines : Type 0
WrongLines =
    Unsound (record added
    { line = codes "delete a0000000-0000-4000-8000-000000000000 00000000-0000-4000-8000-000000000001" } ∷ [])
    × Unsound (record added { target = Some crew } ∷ [])
    × Unsound (record added { items = moved_small ∷ [] } ∷ [])
    × Unsound (record added { line = codes "add" } ∷ [])
    × Unsound (added ∷ record lent { line = codes "split" } ∷ [])
    -- a ticket that is no number of 64 bits
    × Unsound (added ∷ lent ∷ record returned {
      line = codes
          "merge b0000000-0000-4000-8000-000000000000 a0000000-0000-4000-8000-000000000000 9223372036854775808";
    } ∷ [])
    -- a UUID in upper case
    × Unsound (added ∷ lent ∷ record returned {
      line = codes
          "merge B0000000-0000-4000-8000-000000000000 a0000000-0000-4000-8000-000000000000 2";
    } ∷ [])

-- an item has one end, and what is moved stands in its order
abbrev small_added : Receipt
small_added = record receipt_6 { seq = 2; request = request 2; line = codes "add a0000000-0000-4000-8000-000000000000 00000000-0000-4000-8000-000000000004 tile 1 d5d702ca855a6e4d91ac0a5f3d3471bc6d6b2d5641a6c8edaf955de172a2b566"; target = Some archive }

abbrev pub WrongThings : Type 0
WrongThings = Unsound (added ∷ record lent { items = record moved_corner { other = Some (item 2) } ∷ [] } ∷ [])
    × Unsound (added ∷ small_added ∷ record lent {
      seq = 3;
      request = request 3;
      items = moved_small ∷ moved_corner ∷ [];
      tiles = 2;
      bytes = 2;
    } ∷ [])

-- a thing moves from where the receipts before it put it, with one size and one digest, and no two loans have one name
abbrev pub WrongMoves : Type 0
WrongMoves = Unsound (record lent { seq = 1 } ∷ [])
    × Unsound (added ∷ lent ∷ record lent { seq = 3; request = request 3 } ∷ [])
    × Unsound
    (added ∷ record lent {
      line = codes
          "split c0000000-0000-4000-8000-000000000000 b0000000-0000-4000-8000-000000000000 strict 1 0 0 0 0";
      source = Some second_crew;
    } ∷ [])
    × Unsound (added ∷ record lent { items = record moved_corner { size = 2 } ∷ []; bytes = 2 } ∷ [])
    × Unsound (added ∷ record lent { items = record moved_corner { fingerprint = moved_photo.fingerprint } ∷ [] }
    ∷ [])
    × Unsound (added ∷ lent ∷ returned ∷ record lent { seq = 4; request = request 4 } ∷ [])
    -- the archive lends nothing under its own name
    × Unsound
    (added ∷ record lent {
      line = codes
          "split a0000000-0000-4000-8000-000000000000 a0000000-0000-4000-8000-000000000000 strict 1 0 0 0 0";
      target = Some archive;
    } ∷ [])

-- what an Add names, no receipt before it names, even where a deletion lies between
abbrev pub taken_out : Receipt
taken_out =
    record (entered 2 (codes "delete a0000000-0000-4000-8000-000000000000 00000000-0000-4000-8000-000000000001")
    (Some archive) None (moved_corner ∷ [])) { tiles = 1; bytes = 1 }

abbrev pub AddedTwice : Type 0
AddedTwice = Unsound (added ∷ record added { seq = 2; request = request 2 } ∷ [])
    × IsLedger archive [] (added ∷ taken_out ∷ [])
    × Unsound (added ∷ taken_out ∷ record added { seq = 3; request = request 3 } ∷ [])

-- ---- worlds that a sound ledger does not account for

-- a second loan, which takes nothing
abbrev lent_nothing : Receipt
lent_nothing =
    entered 3
    (codes "split a0000000-0000-4000-8000-000000000000 c0000000-0000-4000-8000-000000000000 strict 1 1 1 0 0")
    (Some archive) (Some second_crew) []

-- the first loan comes back into the second
abbrev returned_there : Receipt
returned_there =
    record (entered 4 (codes "merge b0000000-0000-4000-8000-000000000000 c0000000-0000-4000-8000-000000000000 2")
    (Some crew) (Some second_crew) (moved_corner ∷ [])) { tiles = 1; bytes = 1 }

-- an item is gone, one is too many, a lent one is in the archive too; a receipt stands in another package; a loan has
-- another number; a merge stands in another package than the split that it undoes
abbrev pub WrongHoldings : Type 0
WrongHoldings = (Balanced (world_with (archive_with [] [] (added ∷ []) ∷ [])) → ⊥)
    × (Balanced (world_with (archive_with (corner ∷ kept_as 4 (tile 2 0 0) ∷ []) [] (added ∷ []) ∷ []))
    → ⊥)
    × (Balanced (world_with (archive_with (corner ∷ []) [] (added ∷ lent ∷ []) ∷ crew_of 2 (corner ∷ []) []
    ∷ [])) → ⊥)
    × (Balanced (world_with (archive_with [] [] (lent ∷ []) ∷ crew_of 2 (corner ∷ []) (added ∷ []) ∷ []))
    → ⊥)
    × (Balanced (world_with (archive_with [] [] (added ∷ lent ∷ []) ∷ crew_of 7 (corner ∷ []) [] ∷ []))
    → ⊥)
    × (Balanced (world_with (archive_with [] [] (added ∷ lent ∷ lent_nothing ∷ [])
    ∷ record (crew_of 3 (corner ∷ []) (returned_there ∷ [])) { uuid = second_crew } ∷ [])) → ⊥)

-- by custody each thing is where it has to be, and one sum does not add up: a tile, a medium or a row stands twice,
-- the second time without bytes; a link stands twice; a tile is of another size
abbrev pub WrongSums : Type 0
WrongSums = (Balanced (world_with (archive_with (corner ∷ kept_as 1 (tile_of 1 0 0 []) ∷ []) [] (added ∷ [])
    ∷ [])) → ⊥)
    × (Balanced (world_with (archive_with (kept_as 3 picture ∷ kept_as 3 (Media (codes "image/jpeg") []) ∷ []) []
    (record receipt_3 { seq = 1; request = request 1 } ∷ []) ∷ [])) → ⊥)
    × (Balanced (world_with (archive_with (kept_as 2 gate ∷ kept_as 2 (row_at 3000 1000) ∷ []) []
    (receipt_1 ∷ [])
    ∷ [])) → ⊥)
    × (Balanced (world_with (archive_with (corner ∷ kept_as 3 picture ∷ kept_as 2 gate ∷ [])
    (tile_link 1 3 ∷ tile_link 1 3 ∷ []) (receipt_1 ∷ receipt_2 ∷ receipt_3 ∷ receipt_4 ∷ []) ∷ []))
    → ⊥)
    × (Balanced (world_with (archive_with (kept_as 1 (tile_of 1 0 0 (65 ∷ 66 ∷ [])) ∷ []) [] (added ∷ [])
    ∷ [])) → ⊥)

-- a row, a tile, a medium and a link were added, and nothing is held: no sum adds up
abbrev emptied : World
emptied = world_with (archive_with [] [] (receipt_1 ∷ receipt_2 ∷ receipt_3 ∷ receipt_4 ∷ []) ∷ [])

abbrev pub NothingHeld : Type 0
NothingHeld = (AddsUp emptied (λ r. r.tiles) (λ p. count_by is_tile p.items) → ⊥)
    × (AddsUp emptied (λ r. r.media) (λ p. count_by is_medium p.items) → ⊥)
    × (AddsUp emptied (λ r. r.rows) (λ p. count_by is_row p.items) → ⊥)
    × (AddsUp emptied (λ r. r.links) (λ p. length p.links) → ⊥)
    × (AddsUp emptied (λ r. r.bytes) (λ p. sum_by (λ i. size i.content) p.items) → ⊥)

-- ---- worlds that are no register

-- the loan of an open split is gone, with its tile or with nothing; two tiles have one place
abbrev pub NoRegister : Type 0
NoRegister = (IsRegister (world_with (archive_with [] [] (added ∷ lent ∷ []) ∷ [])) → ⊥)
    × (IsRegister (world_with (archive_with (corner ∷ []) []
    (added ∷ record lent_nothing { seq = 2; request = request 2 } ∷ []) ∷ [])) → ⊥)
    × ((w : World) → IsKeptPackage w (archive_with (corner ∷ kept_as 2 (tile 1 0 0) ∷ []) [] []) → ⊥)

-- ---- two links under one key, were identities of any length

abbrev pub ShortNames : Type 0
ShortNames = (link_key (relation TilesMedia (1 ∷ []) (2 ∷ 3 ∷ []))
    ≡ link_key (relation TilesMedia (1 ∷ 2 ∷ []) (3 ∷ [])))
    × (is_uuid (1 ∷ []) ≡ false)
    × (is_uuid (256 ∷ 0 ∷ 0 ∷ 0 ∷ 0 ∷ 0 ∷ 64 ∷ 0 ∷ 128 ∷ 0 ∷ 0 ∷ 0 ∷ 0 ∷ 0 ∷ 0 ∷ 0
    ∷ []) ≡ false)
    × (is_uuid (item 1) ≡ true)

-- the link of 1 and 2, 3 is lent, and that of 1, 2 and 3 is accepted in the archive: the ledger is unsound after it
abbrev pub one_lent : World
one_lent = after_all new_archive
    (ask 1 (Add archive (1 ∷ []) (tile 1 0 0)) ∷ ask 2 (Add archive (2 ∷ 3 ∷ []) picture)
    ∷ ask 3 (Link archive TilesMedia (1 ∷ []) (2 ∷ 3 ∷ [])) ∷ ask 4 (Split archive crew Strict quarter)
    ∷ ask 5 (Add archive (1 ∷ 2 ∷ []) (tile 1 1 1)) ∷ ask 6 (Add archive (3 ∷ []) picture) ∷ [])

abbrev pub same_key : Request
same_key = ask 7 (Link archive TilesMedia (1 ∷ 2 ∷ []) (3 ∷ []))

abbrev pub TakenKey : Type 0
TakenKey = ((outcome one_lent same_key).0 ≡ Ok (receipt_of one_lent same_key))
    × Unsound (receipts_of (outcome one_lent same_key).1)

-- ---- altered items: those whose content is not what an Add receipt says

abbrev other_tile : Content
other_tile = tile_of 1 0 0 (66 ∷ [])

abbrev holding : Content → World
holding content = world_with (archive_with (kept_as 1 content ∷ []) [] (added ∷ []) ∷ [])

abbrev pub AlteredItems : Type 0
AlteredItems = (altered (holding (tile 1 0 0)) ≡ [])
    × (altered (holding other_tile) ≡ item 1 ∷ [])
    × (altered (world_with (archive_with (kept_as 4 (tile 1 0 0) ∷ []) [] (added ∷ []) ∷ [])) ≡ item 4 ∷ [])
    × (altered (world_with (archive_with [] [] (added ∷ []) ∷ crew_with (kept_as 1 (tile 1 0 0) ∷ []) [] []
    ∷ [])) ≡ [])
    -- only an Add says what an item holds
    × (altered (world_with (archive_with (kept_as 1 (tile 1 0 0) ∷ []) [] (lent ∷ []) ∷ [])) ≡ item 1 ∷ [])

-- an account that balances says nothing of what the items hold: after an altered item is deleted, the ledger is unsound
abbrev pub AlteredThenDeleted : Type 0
AlteredThenDeleted = (receipts_of (holding other_tile) ≡ receipts_of (holding (tile 1 0 0)))
    × Unsound (receipts_of (outcome (holding other_tile) (ask 2 (Delete archive (item 1)))).1)
