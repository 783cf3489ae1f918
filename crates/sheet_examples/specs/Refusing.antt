-- The reasons of refusal, but for the last: for each the requests that it refuses, requests beside them that pass,
-- and of two reasons the first. A number is that of an accepted request's receipt.
use Rattle.std.specs.Prelude.{◌≡◌, ℕ, true, false, List, [], ◌∷◌, replicate, Some, Ok, Err, pos, negsuc}
use Rattle.std.specs.Prelude.{codes}
use Rattle.sheet_types.specs.Texts.{is_moment}
use Rattle.sheet_types.specs.World.{World}
use Rattle.sheet_types.specs.Custody.{is_used}
use Rattle.sheet_types.specs.Step.{refuses}
use Rattle.sheet_types.specs.declared.command.Command.TheVariants.{Add, Delete, Link, Unlink, Split, Merge}
use Rattle.sheet_types.specs.declared.command.Content.{Content}
use Rattle.sheet_types.specs.declared.command.Content.TheVariants.{Media, Row}
use Rattle.sheet_types.specs.declared.command.Item.{Item}
use Rattle.sheet_types.specs.declared.command.Mapping.TheVariants.{TilesMedia, RowsMedia, RowsTiles}
use Rattle.sheet_types.specs.declared.command.Mode.TheVariants.{Strict, Follow}
use Rattle.sheet_types.specs.declared.refusal.Refusal.TheVariants.{IdReused, UnknownPackage, PackageUsed, BadText}
use Rattle.sheet_types.specs.declared.refusal.Refusal.TheVariants.{TooLarge, IdentityUsed, UnknownItem, WrongKind}
use Rattle.sheet_types.specs.declared.refusal.Refusal.TheVariants.{BadPlace, OutOfFrame, PlaceTaken, LinkThere}
use Rattle.sheet_types.specs.declared.refusal.Refusal.TheVariants.{UnknownLink, Linked, BadRectangle, TooDeep}
use Rattle.sheet_types.specs.declared.refusal.Refusal.TheVariants.{NothingToLend, CutLink, Foreign, Stale, LoanOpen}
use Rattle.sheet_types.specs.declared.refusal.Refusal.TheVariants.{Collides}
use Rattle.sheet_examples.specs.Sheets.{ask, ask_at, noon, archive, crew, second_crew, third_crew, fourth_crew, item}
use Rattle.sheet_examples.specs.Sheets.{tile, tile_of, picture, row_at, block, quarter, tile_link, row_link}
use Rattle.sheet_examples.specs.Sheets.{tile_of_row, answer}
use Rattle.sheet_examples.specs.Story.{gate, kept_as, archive_with, crew_with, world_with, receipt_5, receipt_9}
use Rattle.sheet_examples.specs.Story.{world_1, world_3, world_4, world_5, world_6, world_7, world_8}

-- ---- 1: a kept request's identity, for another line

abbrev pub ReusedIdentity : Type 0
ReusedIdentity = (answer world_4 (ask 4 (Link archive TilesMedia (item 1) (item 3))) ≡ Ok 4)
    × (answer world_4 (ask_at noon 4 (Link archive TilesMedia (item 1) (item 3))) ≡ Ok 4)
    × (answer world_4 (ask 4 (Unlink archive TilesMedia (item 1) (item 3))) ≡ Err IdReused)
    × (answer world_4 (ask 5 (Unlink archive TilesMedia (item 1) (item 3))) ≡ Ok 5)
    -- of the request itself, were it not kept, this is no reason
    × (refuses world_4 (ask 4 (Link archive TilesMedia (item 1) (item 3))) ≡ Some LinkThere)
    -- kept in a loan, and after its return
    × (answer world_6 (ask 6 (Delete archive (item 2))) ≡ Err IdReused)
    × (answer world_7 (ask 6 (Delete archive (item 2))) ≡ Err IdReused)
    -- before an unknown package, and before a bad moment
    × (answer world_4 (ask 4 (Delete third_crew (item 1))) ≡ Err IdReused)
    × (answer world_4 (ask_at [] 4 (Delete archive (item 2))) ≡ Err IdReused)

-- ---- 2: a package that is not live

abbrev pub NotLive : Type 0
NotLive = (answer world_4 (ask 5 (Add crew (item 9) (tile 2 0 0))) ≡ Err UnknownPackage)
    × (answer world_4 (ask 5 (Delete crew (item 1))) ≡ Err UnknownPackage)
    × (answer world_4 (ask 5 (Link crew TilesMedia (item 1) (item 3))) ≡ Err UnknownPackage)
    × (answer world_4 (ask 5 (Unlink crew TilesMedia (item 1) (item 3))) ≡ Err UnknownPackage)
    × (answer world_4 (ask 5 (Split crew second_crew Strict quarter)) ≡ Err UnknownPackage)
    × (answer world_4 (ask 5 (Merge crew archive (pos 0))) ≡ Err UnknownPackage)
    × (answer world_5 (ask 6 (Merge crew second_crew (pos 5))) ≡ Err UnknownPackage)
    -- a loan that was brought back
    × (answer world_7 (ask 8 (Merge crew archive (pos 7))) ≡ Err UnknownPackage)
    -- before a used name, and before a bad moment
    × (answer world_4 (ask 5 (Split crew archive Strict quarter)) ≡ Err UnknownPackage)
    × (answer world_4 (ask_at [] 5 (Delete crew (item 1))) ≡ Err UnknownPackage)

-- ---- 3: a name that a package has or had

abbrev pub UsedName : Type 0
UsedName = (answer world_4 (ask 5 (Split archive crew Strict quarter)) ≡ Ok 5)
    × (answer world_4 (ask 5 (Split archive archive Strict quarter)) ≡ Err PackageUsed)
    × (answer world_5 (ask 6 (Split archive crew Strict (block 1 1 1 1 1))) ≡ Err PackageUsed)
    × (answer world_5 (ask 6 (Split archive second_crew Strict (block 1 1 1 1 1))) ≡ Ok 6)
    × (answer world_7 (ask 8 (Split archive crew Strict quarter)) ≡ Err PackageUsed)
    -- items, packages and requests have name spaces of their own
    × (answer world_4 (ask 5 (Add archive archive (tile 2 0 0))) ≡ Ok 5)
    × (answer world_4 (ask 5 (Split archive (item 1) Strict quarter)) ≡ Ok 5)
    -- before a bad moment, and before a bad rectangle
    × (answer world_4 (ask_at [] 5 (Split archive archive Strict quarter)) ≡ Err PackageUsed)
    × (answer world_4 (ask 5 (Split archive archive Strict (block 3 0 0 0 0))) ≡ Err PackageUsed)

-- ---- 4: a text that is none

abbrev pub Moments : Type 0
Moments = (is_moment (codes "2024-05-01T08:00:00.000Z") ≡ true)
    × (is_moment (codes "0000-01-01T00:00:00.000Z") ≡ true)
    × (is_moment (codes "9999-12-31T23:59:59.999Z") ≡ true)
    × (is_moment (codes "2024-02-31T08:00:00.000Z") ≡ true)
    × (is_moment [] ≡ false)
    × (is_moment (codes "2024-00-01T08:00:00.000Z") ≡ false)
    × (is_moment (codes "2024-13-01T08:00:00.000Z") ≡ false)
    × (is_moment (codes "2024-05-00T08:00:00.000Z") ≡ false)
    × (is_moment (codes "2024-05-32T08:00:00.000Z") ≡ false)
    × (is_moment (codes "2024-05-01T24:00:00.000Z") ≡ false)
    × (is_moment (codes "2024-05-01T08:60:00.000Z") ≡ false)
    × (is_moment (codes "2024-05-01T08:00:60.000Z") ≡ false)
    × (is_moment (codes "2024-05-01 08:00:00.000Z") ≡ false)
    × (is_moment (codes "2024-05-01T08:00:00.000") ≡ false)
    × (is_moment (codes "2024-05-01T08:00:00.000Z ") ≡ false)
    × (is_moment (codes "2024-05-0aT08:00:00.000Z") ≡ false)
    × (is_moment (codes "2024-05-0/T08:00:00.000Z") ≡ false)

abbrev media_of : List ℕ → Content
media_of content_type = Media content_type (74 ∷ 80 ∷ [])

abbrev labelled : List ℕ → Content
labelled label = Row (pos 0) (pos 4096) (pos 0) label

abbrev pub BadTexts : Type 0
BadTexts = (answer world_4 (ask_at [] 5 (Add archive (item 9) (tile 2 0 0))) ≡ Err BadText)
    × (answer world_4 (ask_at [] 5 (Delete archive (item 2))) ≡ Err BadText)
    × (answer world_4 (ask_at [] 5 (Link archive RowsMedia (item 2) (item 3))) ≡ Err BadText)
    × (answer world_4 (ask_at [] 5 (Unlink archive TilesMedia (item 1) (item 3))) ≡ Err BadText)
    × (answer world_4 (ask_at [] 5 (Split archive crew Strict quarter)) ≡ Err BadText)
    × (answer world_5 (ask_at [] 6 (Merge crew archive (pos 5))) ≡ Err BadText)
    × (answer world_4 (ask 5 (Add archive (item 9) (media_of (31 ∷ [])))) ≡ Err BadText)
    × (answer world_4 (ask 5 (Add archive (item 9) (media_of (32 ∷ 126 ∷ [])))) ≡ Ok 5)
    × (answer world_4 (ask 5 (Add archive (item 9) (media_of (126 ∷ 127 ∷ [])))) ≡ Err BadText)
    × (answer world_4 (ask 5 (Add archive (item 9) (labelled (65 ∷ 10 ∷ [])))) ≡ Err BadText)
    × (answer world_4 (ask 5 (Add archive (item 9) (labelled (9 ∷ 13 ∷ 200 ∷ [])))) ≡ Ok 5)
    -- before a bad size, an unknown item, an unknown link, a bad rectangle and a foreign package
    × (answer world_4 (ask 5 (Add archive (item 9) (Media (31 ∷ []) []))) ≡ Err BadText)
    × (answer world_4 (ask 5 (Add archive (item 9) (labelled (replicate 201 10)))) ≡ Err BadText)
    × (answer world_4 (ask_at [] 5 (Delete archive (item 9))) ≡ Err BadText)
    × (answer world_4 (ask_at [] 5 (Unlink archive RowsMedia (item 1) (item 3))) ≡ Err BadText)
    × (answer world_4 (ask_at [] 5 (Split archive crew Strict (block 3 0 0 0 0))) ≡ Err BadText)
    × (answer world_5 (ask_at [] 6 (Merge crew crew (pos 5))) ≡ Err BadText)

-- ---- 5: a size out of its limits. Those of data are in the example of tile sizes

abbrev pub Sizes : Type 0
Sizes = (answer world_4 (ask 5 (Add archive (item 9) (tile_of 2 0 0 []))) ≡ Err TooLarge)
    × (answer world_4 (ask 5 (Add archive (item 9) (Media (codes "image/jpeg") []))) ≡ Err TooLarge)
    × (answer world_4 (ask 5 (Add archive (item 9) (media_of []))) ≡ Err TooLarge)
    × (answer world_4 (ask 5 (Add archive (item 9) (media_of (replicate 100 65)))) ≡ Ok 5)
    × (answer world_4 (ask 5 (Add archive (item 9) (media_of (replicate 101 65)))) ≡ Err TooLarge)
    × (answer world_4 (ask 5 (Add archive (item 9) (labelled (replicate 200 65)))) ≡ Ok 5)
    × (answer world_4 (ask 5 (Add archive (item 9) (labelled (replicate 201 65)))) ≡ Err TooLarge)
    × (answer world_4 (ask 5 (Add archive (item 9) (Row (pos 0) (pos 4096) (negsuc 0) []))) ≡ Err TooLarge)
    × (answer world_4 (ask 5 (Add archive (item 9) (Row (pos 0) (pos 4096) (pos 999999) []))) ≡ Ok 5)
    × (answer world_4 (ask 5 (Add archive (item 9) (Row (pos 0) (pos 4096) (pos 1000000) []))) ≡ Err TooLarge)
    -- before a used identity
    × (answer world_4 (ask 5 (Add archive (item 1) (tile_of 2 0 0 []))) ≡ Err TooLarge)

-- ---- 6: an identity that an Add receipt names

-- a ledger that no requests leave: a deletion of what was never added
abbrev never_added : World
never_added = world_with (archive_with [] [] (receipt_9 ∷ []) ∷ [])

abbrev pub UsedIdentity : Type 0
UsedIdentity = (answer world_4 (ask 5 (Add archive (item 9) (tile 2 0 0))) ≡ Ok 5)
    × (answer world_4 (ask 5 (Add archive (item 1) (tile 2 0 0))) ≡ Err IdentityUsed)
    -- of another kind, and standing in a loan
    × (answer world_4 (ask 5 (Add archive (item 3) (tile 2 0 0))) ≡ Err IdentityUsed)
    × (answer world_6 (ask 7 (Add archive (item 4) (tile 2 3 3))) ≡ Err IdentityUsed)
    -- no other receipt uses an identity, and an Add no identity but its own
    × (is_used never_added (item 1) ≡ false)
    × (is_used world_4 archive ≡ false)
    -- before a bad place, a point out of the frame and a taken place
    × (answer world_4 (ask 5 (Add archive (item 1) (tile 3 0 0))) ≡ Err IdentityUsed)
    × (answer world_4 (ask 5 (Add archive (item 1) (row_at 0 0))) ≡ Err IdentityUsed)
    × (answer world_4 (ask 5 (Add archive (item 1) (tile 1 0 0))) ≡ Err IdentityUsed)

-- ---- 7: an item that the package has not

abbrev pub UnknownItems : Type 0
UnknownItems = (answer world_4 (ask 5 (Delete archive (item 9))) ≡ Err UnknownItem)
    × (answer world_4 (ask 5 (Delete archive (item 2))) ≡ Ok 5)
    × (answer world_5 (ask 6 (Delete archive (item 1))) ≡ Err UnknownItem)
    × (answer world_4 (ask 5 (Link archive TilesMedia (item 9) (item 3))) ≡ Err UnknownItem)
    × (answer world_4 (ask 5 (Link archive TilesMedia (item 1) (item 9))) ≡ Err UnknownItem)
    × (answer world_4 (ask 5 (Link archive TilesMedia (item 8) (item 9))) ≡ Err UnknownItem)
    × (answer world_5 (ask 6 (Link archive RowsMedia (item 2) (item 3))) ≡ Err UnknownItem)
    -- before a wrong kind
    × (answer world_4 (ask 5 (Link archive RowsMedia (item 9) (item 1))) ≡ Err UnknownItem)
    × (answer world_4 (ask 5 (Link archive RowsMedia (item 1) (item 9))) ≡ Err UnknownItem)

-- ---- 8: an end of another kind than the mapping asks

abbrev pub WrongKinds : Type 0
WrongKinds = (answer world_4 (ask 5 (Link archive RowsMedia (item 2) (item 3))) ≡ Ok 5)
    × (answer world_4 (ask 5 (Link archive RowsMedia (item 1) (item 3))) ≡ Err WrongKind)
    × (answer world_4 (ask 5 (Link archive TilesMedia (item 2) (item 3))) ≡ Err WrongKind)
    × (answer world_4 (ask 5 (Link archive TilesMedia (item 3) (item 3))) ≡ Err WrongKind)
    × (answer world_4 (ask 5 (Link archive TilesMedia (item 1) (item 2))) ≡ Err WrongKind)
    × (answer world_4 (ask 5 (Link archive TilesMedia (item 1) (item 1))) ≡ Err WrongKind)
    × (answer world_4 (ask 5 (Link archive RowsMedia (item 2) (item 1))) ≡ Err WrongKind)
    × (answer world_4 (ask 5 (Link archive RowsTiles (item 2) (item 1))) ≡ Ok 5)
    × (answer world_4 (ask 5 (Link archive RowsTiles (item 1) (item 2))) ≡ Err WrongKind)
    × (answer world_4 (ask 5 (Link archive RowsTiles (item 2) (item 3))) ≡ Err WrongKind)
    × (answer world_4 (ask 5 (Link archive RowsTiles (item 3) (item 1))) ≡ Err WrongKind)

-- ---- 9 and 10: no such place, and no such point. Which there are is in the examples of frames

abbrev pub BadPlaces : Type 0
BadPlaces = (answer world_4 (ask 5 (Add archive (item 9) (tile 2 3 3))) ≡ Ok 5)
    × (answer world_4 (ask 5 (Add archive (item 9) (tile 2 4 3))) ≡ Err BadPlace)
    × (answer world_4 (ask 5 (Add archive (item 9) (tile 2 3 4))) ≡ Err BadPlace)
    × (answer world_4 (ask 5 (Add archive (item 9) (row_at 4095 1))) ≡ Ok 5)
    × (answer world_4 (ask 5 (Add archive (item 9) (row_at 4095 0))) ≡ Err OutOfFrame)
    × (answer world_4 (ask 5 (Add archive (item 9) (Row (negsuc 0) (pos 1) (pos 0) []))) ≡ Err OutOfFrame)

-- ---- 11: a place that a tile of the package has

abbrev pub TakenPlaces : Type 0
TakenPlaces = (answer world_4 (ask 5 (Add archive (item 9) (tile 1 0 0))) ≡ Err PlaceTaken)
    × (answer world_4 (ask 5 (Add archive (item 9) (tile 2 0 0))) ≡ Ok 5)
    × (answer world_4 (ask 5 (Add archive (item 9) (tile 1 1 0))) ≡ Ok 5)
    × (answer world_4 (ask 5 (Add archive (item 9) (tile 1 0 1))) ≡ Ok 5)
    -- the place of a lent tile is free in the archive, and taken in the loan
    × (answer world_5 (ask 6 (Add archive (item 9) (tile 1 0 0))) ≡ Ok 6)
    × (answer world_5 (ask 6 (Add crew (item 9) (tile 1 0 0))) ≡ Err PlaceTaken)
    -- two rows may have one point
    × (answer world_4 (ask 5 (Add archive (item 9) (row_at 3000 1000))) ≡ Ok 5)

-- ---- 12 and 13: a link that is there, and one that is not

abbrev pub LinksThere : Type 0
LinksThere = (answer world_3 (ask 4 (Link archive TilesMedia (item 1) (item 3))) ≡ Ok 4)
    × (answer world_4 (ask 5 (Link archive TilesMedia (item 1) (item 3))) ≡ Err LinkThere)
    × (answer world_8 (ask 9 (Link archive TilesMedia (item 1) (item 3))) ≡ Ok 9)

abbrev pub UnknownLinks : Type 0
UnknownLinks = (answer world_4 (ask 5 (Unlink archive TilesMedia (item 1) (item 3))) ≡ Ok 5)
    × (answer world_4 (ask 5 (Unlink archive RowsMedia (item 1) (item 3))) ≡ Err UnknownLink)
    × (answer world_4 (ask 5 (Unlink archive RowsTiles (item 1) (item 3))) ≡ Err UnknownLink)
    × (answer world_4 (ask 5 (Unlink archive TilesMedia (item 3) (item 1))) ≡ Err UnknownLink)
    × (answer world_4 (ask 5 (Unlink archive TilesMedia (item 1) (item 2))) ≡ Err UnknownLink)
    × (answer world_4 (ask 5 (Unlink archive TilesMedia (item 9) (item 3))) ≡ Err UnknownLink)
    × (answer world_5 (ask 6 (Unlink archive TilesMedia (item 1) (item 3))) ≡ Err UnknownLink)
    × (answer world_5 (ask 6 (Unlink crew TilesMedia (item 1) (item 3))) ≡ Ok 6)

-- ---- 14: an end of a link of the package

abbrev pub LinkedItems : Type 0
LinkedItems = (answer world_4 (ask 5 (Delete archive (item 1))) ≡ Err Linked)
    × (answer world_4 (ask 5 (Delete archive (item 3))) ≡ Err Linked)
    × (answer world_4 (ask 5 (Delete archive (item 2))) ≡ Ok 5)
    × (answer world_8 (ask 9 (Delete archive (item 3))) ≡ Ok 9)

-- ---- 15 to 17: a bad rectangle, a loan too deep, nothing inside

-- a loan of a tile, so many levels below the archive
abbrev lent_at : ℕ → World
lent_at depth = world_with (archive_with [] [] [] ∷ record (crew_with (kept_as 1 (tile 1 0 0) ∷ []) [] [])
    { depth = depth } ∷ [])

abbrev only_a_picture : World
only_a_picture = world_with (archive_with (kept_as 3 picture ∷ []) [] [] ∷ [])

abbrev pub NotLent : Type 0
NotLent = (answer world_4 (ask 5 (Split archive crew Strict (block 3 0 0 0 0))) ≡ Err BadRectangle)
    × (answer world_4 (ask 5 (Split archive crew Follow (block 1 1 0 0 0))) ≡ Err BadRectangle)
    × (answer world_4 (ask 5 (Split archive crew Follow (block 1 0 0 1 0))) ≡ Err BadRectangle)
    × (answer (lent_at 3) (ask 1 (Split crew second_crew Strict quarter)) ≡ Ok 1)
    × (answer (lent_at 4) (ask 1 (Split crew second_crew Strict quarter)) ≡ Err TooDeep)
    × (answer world_4 (ask 5 (Split archive crew Strict (block 2 0 0 0 0))) ≡ Err NothingToLend)
    × (answer world_4 (ask 5 (Split archive crew Follow (block 2 0 0 0 0))) ≡ Err NothingToLend)
    × (answer only_a_picture (ask 1 (Split archive crew Follow (block 0 0 0 0 0))) ≡ Err NothingToLend)
    -- one row is enough
    × (answer world_1 (ask 2 (Split archive crew Strict (block 1 1 1 1 1))) ≡ Ok 2)
    -- a bad rectangle before a loan too deep, and that before nothing inside
    × (answer (lent_at 4) (ask 1 (Split crew second_crew Strict (block 3 0 0 0 0))) ≡ Err BadRectangle)
    × (answer (lent_at 4) (ask 1 (Split crew second_crew Strict (block 1 1 1 1 1))) ≡ Err TooDeep)

-- ---- 18: a strict cut that would tear a link

-- a tile inside and a row outside, and two media of both
abbrev torn : World
torn = world_with (archive_with (kept_as 1 (tile 1 0 0) ∷ kept_as 3 picture ∷ kept_as 4 picture
    ∷ kept_as 5 picture
    ∷ kept_as 2 gate ∷ []) (tile_link 1 3 ∷ tile_link 1 4 ∷ tile_link 1 5 ∷ row_link 2 4 ∷ row_link 2 5
    ∷ []) [] ∷ [])

-- a row of one quarter related to a tile of another; a row and a tile of a third
abbrev tiles_of_rows : World
tiles_of_rows = world_with (archive_with (kept_as 4 (tile 1 1 1) ∷ kept_as 6 (tile 1 1 0)
    ∷ kept_as 2 (row_at 100 4000) ∷ kept_as 5 (row_at 3000 4000) ∷ [])
    (tile_of_row 2 4 ∷ tile_of_row 5 6 ∷ []) []
    ∷ [])

-- a row related to a tile of another quarter, and a medium of both
abbrev torn_twice : World
torn_twice = world_with (archive_with (kept_as 4 (tile 1 1 1) ∷ kept_as 3 picture ∷ kept_as 2 (row_at 100 4000)
    ∷ [])
    (tile_link 4 3 ∷ row_link 2 3 ∷ tile_of_row 2 4 ∷ []) [] ∷ [])

abbrev pub TornLinks : Type 0
TornLinks = (answer torn (ask 1 (Split archive crew Strict quarter)) ≡ Err (CutLink (item 4)))
    × (answer torn (ask 1 (Split archive crew Strict (block 1 1 1 1 1))) ≡ Err (CutLink (item 4)))
    × (answer torn (ask 1 (Split archive crew Follow quarter)) ≡ Ok 1)
    × (answer torn (ask 1 (Split archive crew Strict (block 0 0 0 0 0))) ≡ Ok 1)
    -- an item of the start itself: the row whose tile stays, the tile whose row stays
    × (answer tiles_of_rows (ask 1 (Split archive crew Strict quarter)) ≡ Err (CutLink (item 2)))
    × (answer tiles_of_rows (ask 1 (Split archive crew Strict (block 1 1 1 1 1))) ≡ Err (CutLink (item 4)))
    × (answer tiles_of_rows (ask 1 (Split archive crew Strict (block 1 1 1 0 0))) ≡ Ok 1)
    -- the least of all kinds
    × (answer torn_twice (ask 1 (Split archive crew Strict quarter)) ≡ Err (CutLink (item 2)))
    × (answer torn_twice (ask 1 (Split archive crew Strict (block 1 1 1 1 1))) ≡ Err (CutLink (item 3)))

-- ---- 19 and 20: a package that is not the parent, and a ticket that is not the loan's

abbrev pub ForeignAndStale : Type 0
ForeignAndStale = (answer world_5 (ask 6 (Merge crew archive (pos 5))) ≡ Ok 6)
    × (answer world_5 (ask 6 (Merge crew crew (pos 5))) ≡ Err Foreign)
    × (answer world_5 (ask 6 (Merge archive crew (pos 5))) ≡ Err Foreign)
    × (answer world_5 (ask 6 (Merge archive archive (pos 5))) ≡ Err Foreign)
    × (answer world_5 (ask 6 (Merge crew archive (pos 4))) ≡ Err (Stale 5))
    × (answer world_5 (ask 6 (Merge crew archive (pos 6))) ≡ Err (Stale 5))
    × (answer world_5 (ask 6 (Merge crew archive (negsuc 4))) ≡ Err (Stale 5))
    -- what leaves a loan makes its ticket greater as well, and what another package does, does not
    × (answer (world_with (archive_with [] [] (receipt_5 ∷ [])
    ∷ crew_with [] [] (record receipt_9 { seq = 6; source = Some crew } ∷ []) ∷ []))
    (ask 7 (Merge crew archive (pos 5))) ≡ Err (Stale 6))
    × (answer (world_with (archive_with [] [] (receipt_5 ∷ receipt_9 ∷ []) ∷ crew_with [] [] [] ∷ []))
    (ask 7 (Merge crew archive (pos 9))) ≡ Err (Stale 5))
    -- a foreign package before a stale ticket
    × (answer world_5 (ask 6 (Merge crew crew (pos 0))) ≡ Err Foreign)

-- ---- 21: a loan that lent

abbrev lent_on : List Item → List Item → World
lent_on here there = world_with (archive_with here [] [] ∷ crew_with there [] []
    ∷ record (crew_with [] [] []) { uuid = second_crew; parent = Some crew; depth = 2 } ∷ [])

-- as it is, with another loan of the loan
abbrev lent_twice : List ℕ → World
lent_twice uuid = world_with (archive_with [] [] [] ∷ crew_with [] [] []
    ∷ record (crew_with [] [] []) { uuid = uuid; parent = Some crew; depth = 2 }
    ∷ record (crew_with [] [] []) { uuid = fourth_crew; parent = Some crew; depth = 2 } ∷ [])

abbrev pub OpenLoans : Type 0
OpenLoans = (answer (lent_on [] []) (ask 1 (Merge crew archive (pos 0))) ≡ Err (LoanOpen second_crew))
    × (answer (lent_twice third_crew) (ask 1 (Merge crew archive (pos 0))) ≡ Err (LoanOpen third_crew))
    × (answer (lent_twice second_crew) (ask 1 (Merge crew archive (pos 0))) ≡ Err (LoanOpen second_crew))
    × (answer (lent_on [] []) (ask 1 (Merge second_crew crew (pos 0))) ≡ Ok 1)
    -- a stale ticket before it, a collision after it
    × (answer (lent_on [] []) (ask 1 (Merge crew archive (pos 1))) ≡ Err (Stale 0))
    × (answer (lent_on (kept_as 1 (tile 1 0 0) ∷ []) (kept_as 2 (tile 1 0 0) ∷ []))
    (ask 1 (Merge crew archive (pos 0))) ≡ Err (LoanOpen second_crew))

-- ---- 22: a place that was taken in the parent: the loan's tile of the least zoom, then column, then row

abbrev returning : List Item → World
returning there = world_with (archive_with (kept_as 11 (tile 1 1 0) ∷ kept_as 12 (tile 1 0 1)
    ∷ kept_as 13 (tile 2 0 0) ∷ kept_as 14 (tile 1 0 0) ∷ []) [] [] ∷ crew_with there [] [] ∷ [])

abbrev pub Collisions : Type 0
Collisions = (answer (returning (kept_as 1 (tile 1 1 0) ∷ kept_as 2 (tile 1 0 1) ∷ kept_as 3 (tile 2 0 0)
    ∷ kept_as 4 (tile 0 0 0) ∷ [])) (ask 1 (Merge crew archive (pos 0))) ≡ Err (Collides (item 2)))
    × (answer (returning (kept_as 1 (tile 1 0 1) ∷ kept_as 2 (tile 1 0 0) ∷ []))
    (ask 1 (Merge crew archive (pos 0)))
    ≡ Err (Collides (item 2)))
    × (answer (returning (kept_as 3 (tile 2 0 0) ∷ kept_as 4 (tile 0 0 0) ∷ []))
    (ask 1 (Merge crew archive (pos 0)))
    ≡ Err (Collides (item 3)))
    × (answer (returning (kept_as 4 (tile 0 0 0) ∷ kept_as 5 (row_at 0 4096) ∷ []))
    (ask 1 (Merge crew archive (pos 0))) ≡ Ok 1)
