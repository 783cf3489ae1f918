-- What the reading calls answer, and what the ledger says of each package.
use Rattle.std.specs.Prelude.{◌≡◌, [], ◌∷◌, Some, None, pos, negsuc}
use Rattle.sheet_types.specs.World.{receipts_of, item_thing, link_key, new_world}
use Rattle.sheet_types.specs.Custody.{custody, account, open_loans, ticket}
use Rattle.sheet_types.specs.Answers.{sums_of, package_sights, holdings_answer, receipt_answer}
use Rattle.sheet_examples.specs.Sheets.{sheet, archive, crew, second_crew, item, request, tile, picture, tile_link}
use Rattle.sheet_examples.specs.Story.{gate, kept_as, archive_with, crew_with, world_with, receipt_1, receipt_2}
use Rattle.sheet_examples.specs.Story.{receipt_3, receipt_4, receipt_5, receipt_6, receipt_7, receipt_9, world_0}
use Rattle.sheet_examples.specs.Story.{world_4, world_6, world_7, world_8, world_9}

-- ---- a new world

abbrev pub NewWorld : Type 0
NewWorld = (new_world archive sheet ≡ world_0)
    × (package_sights world_0 ≡ record { uuid = archive; parent = None; depth = 0; ticket = 0 } ∷ [])
    × (sums_of world_0 archive ≡ Some (record { tiles = 0; media = 0; rows = 0; links = 0; bytes = 0 }))
    × (holdings_answer world_0 archive ≡ Some ([], []))
    × (receipts_of world_0 ≡ [])

-- ---- the list of packages: by UUID, with parent, depth and ticket

abbrev pub ListOfPackages : Type 0
ListOfPackages = (package_sights world_4 ≡ record { uuid = archive; parent = None; depth = 0; ticket = 4 } ∷ [])
    × (package_sights world_6 ≡ record { uuid = archive; parent = None; depth = 0; ticket = 5 }
    ∷ record { uuid = crew; parent = Some archive; depth = 1; ticket = 6 } ∷ [])
    × (package_sights world_7 ≡ record { uuid = archive; parent = None; depth = 0; ticket = 7 } ∷ [])
    -- of a package that is not live the receipts still tell
    × (ticket world_7 crew ≡ 7)
    × (ticket world_7 second_crew ≡ 0)

-- ---- sums and holdings of a package; none where it is not live

abbrev pub SumsOfPackages : Type 0
SumsOfPackages = (sums_of world_4 archive ≡ Some (record { tiles = 1; media = 1; rows = 1; links = 1; bytes = 7 }))
    × (sums_of world_6 archive ≡ Some (record { tiles = 0; media = 0; rows = 1; links = 0; bytes = 4 }))
    × (sums_of world_6 crew ≡ Some (record { tiles = 2; media = 1; rows = 0; links = 1; bytes = 4 }))
    × (sums_of world_4 crew ≡ None)
    × (sums_of world_7 crew ≡ None)

abbrev pub HoldingsOfPackages : Type 0
HoldingsOfPackages = (holdings_answer world_6 archive ≡ Some (kept_as 2 gate ∷ [], []))
    × (holdings_answer world_6 crew ≡ Some (
      kept_as 1 (tile 1 0 0) ∷ kept_as 4 (tile 2 0 0) ∷ kept_as 3 picture
          ∷ [],
      tile_link 1 3 ∷ [],
    ))
    × (holdings_answer world_7 crew ≡ None)

-- ---- the kept receipt of a request, wherever it stands

abbrev pub KeptReceipts : Type 0
KeptReceipts = (receipt_answer world_6 (request 6) ≡ Some receipt_6)
    × (receipt_answer world_6 (request 5) ≡ Some receipt_5)
    × (receipt_answer world_7 (request 6) ≡ Some receipt_6)
    × (receipt_answer world_6 (request 7) ≡ None)
    × (receipt_answer world_6 (item 1) ≡ None)

-- ---- the ledger: all receipts by their numbers, whichever package they stand in

abbrev pub WholeLedger : Type 0
WholeLedger = (receipts_of world_6 ≡ receipt_1 ∷ receipt_2 ∷ receipt_3 ∷ receipt_4 ∷ receipt_5 ∷ receipt_6
    ∷ [])
    × (receipts_of (world_with (archive_with [] [] (receipt_2 ∷ receipt_5 ∷ [])
    ∷ crew_with [] [] (receipt_1 ∷ receipt_3 ∷ []) ∷ [])) ≡ receipt_1 ∷ receipt_2 ∷ receipt_3
    ∷ receipt_5 ∷ [])

-- ---- custody: where the last receipt that names a thing brought it

abbrev pub Custody : Type 0
Custody = (custody (receipts_of world_4) (item_thing (kept_as 1 (tile 1 0 0))) ≡ Some archive)
    × (custody (receipts_of world_6) (item_thing (kept_as 1 (tile 1 0 0))) ≡ Some crew)
    × (custody (receipts_of world_6) (item_thing (kept_as 2 gate)) ≡ Some archive)
    × (custody (receipts_of world_6) (link_key (tile_link 1 3)) ≡ Some crew)
    × (custody (receipts_of world_7) (link_key (tile_link 1 3)) ≡ Some archive)
    × (custody (receipts_of world_8) (link_key (tile_link 1 3)) ≡ None)
    × (custody (receipts_of world_9) (item_thing (kept_as 1 (tile 1 0 0))) ≡ None)
    × (custody (receipts_of world_9) (item_thing (kept_as 9 gate)) ≡ None)

-- ---- the account: what came in less what went out

abbrev pub Account : Type 0
Account = (account (λ r. r.tiles) (receipts_of world_6) archive ≡ pos 0)
    × (account (λ r. r.tiles) (receipts_of world_6) crew ≡ pos 2)
    × (account (λ r. r.media) (receipts_of world_6) crew ≡ pos 1)
    × (account (λ r. r.rows) (receipts_of world_6) archive ≡ pos 1)
    × (account (λ r. r.links) (receipts_of world_6) crew ≡ pos 1)
    × (account (λ r. r.bytes) (receipts_of world_6) archive ≡ pos 4)
    × (account (λ r. r.bytes) (receipts_of world_6) crew ≡ pos 4)
    × (account (λ r. r.bytes) (receipts_of world_7) crew ≡ pos 0)
    × (account (λ r. r.bytes) (receipts_of world_7) archive ≡ pos 8)
    × (account (λ r. r.bytes) (receipts_of world_9) archive ≡ pos 7)
    × (account (λ r. r.bytes) (receipts_of world_9) second_crew ≡ pos 0)
    -- of what is no sound ledger it may be below 0
    × (account (λ r. r.bytes) (receipt_9 ∷ []) archive ≡ negsuc 0)

-- ---- open loans: of each split that no later merge undoes the loan and its number

abbrev pub OpenLoans : Type 0
OpenLoans = (open_loans (receipts_of world_4) ≡ [])
    × (open_loans (receipts_of world_6) ≡ (crew, 5) ∷ [])
    × (open_loans (receipts_of world_7) ≡ [])
    -- a merge of lesser number undoes nothing, nor does one of another loan
    × (open_loans (receipt_5 ∷ record receipt_7 { seq = 4 } ∷ []) ≡ (crew, 5) ∷ [])
    × (open_loans (receipt_5 ∷ record receipt_7 { source = Some second_crew } ∷ []) ≡ (crew, 5) ∷ [])
    × (open_loans (receipt_5 ∷ record receipt_9 { source = Some crew } ∷ []) ≡ (crew, 5) ∷ [])
    × (open_loans (record receipt_5 { target = None } ∷ []) ≡ [])
    × (open_loans (receipt_6 ∷ []) ≡ [])
