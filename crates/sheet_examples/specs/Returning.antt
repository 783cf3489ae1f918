-- What comes back by a merge, what may come twice, and what is gone.
use Rattle.std.specs.Prelude.{◌≡◌, [], ◌∷◌, map, length, Some, None, Ok, Err, pos}
use Rattle.sheet_types.specs.World.{World, holdings, receipts_of}
use Rattle.sheet_types.specs.Answers.{loans_of}
use Rattle.sheet_types.specs.Step.{outcome}
use Rattle.sheet_types.specs.declared.command.Command.{Command}
use Rattle.sheet_types.specs.declared.command.Command.TheVariants.{Add, Delete, Link, Unlink, Split, Merge}
use Rattle.sheet_types.specs.declared.command.Mapping.TheVariants.{TilesMedia}
use Rattle.sheet_types.specs.declared.command.Mode.TheVariants.{Strict}
use Rattle.sheet_types.specs.declared.command.Request.{Request}
use Rattle.sheet_types.specs.declared.frame.Rect.{Rect}
use Rattle.sheet_types.specs.declared.refusal.Refusal.TheVariants.{IdReused, UnknownPackage, PackageUsed, TooDeep}
use Rattle.sheet_types.specs.declared.refusal.Refusal.TheVariants.{Foreign, Stale, LoanOpen, Collides}
use Rattle.sheet_examples.specs.Story.{kept_as, archive_with, crew_with, world_with}
use Rattle.sheet_examples.specs.Sheets.{new_archive, after_all, ask, ask_at, noon, archive, crew, second_crew}
use Rattle.sheet_examples.specs.Sheets.{third_crew, fourth_crew, fifth_crew, item, tile, tile_of, picture, block}
use Rattle.sheet_examples.specs.Sheets.{quarter, tile_link, replied, answer, held, links_held}

-- ---- there and back: of two tiles of two bytes, over the upper row of the sheet and over its left column

abbrev two_tiles : World
two_tiles = after_all new_archive (ask 1 (Add archive (item 1) (tile_of 1 0 0 (65 ∷ 66 ∷ [])))
    ∷ ask 2 (Add archive (item 2) (tile_of 1 1 0 (67 ∷ 68 ∷ []))) ∷ [])

abbrev lend_row : Request
lend_row = ask 3 (Split archive crew Strict (block 1 0 1 0 0))

abbrev bring_back : Request
bring_back = ask 4 (Merge crew archive (pos 3))

abbrev pub ThereAndBack : Type 0
ThereAndBack = (replied two_tiles lend_row ≡ Ok (3 ∷ 2 ∷ 0 ∷ 0 ∷ 0 ∷ 4 ∷ [], Some archive, Some crew))
    × (replied (outcome two_tiles lend_row).1 bring_back ≡ Ok
    (4 ∷ 2 ∷ 0 ∷ 0 ∷ 0 ∷ 4 ∷ [], Some crew, Some archive))
    × ((holdings (outcome two_tiles lend_row).1 crew).items
    ≡ record { identity = item 1; content = tile_of 1 0 0 (65 ∷ 66 ∷ []) }
    ∷ record { identity = item 2; content = tile_of 1 1 0 (67 ∷ 68 ∷ []) } ∷ [])
    × (held (outcome two_tiles lend_row).1 archive ≡ [])
    × ((holdings (after_all two_tiles (lend_row ∷ bring_back ∷ [])) archive).items
    ≡ (holdings two_tiles archive).items)
    × (map (λ p. p.uuid) (after_all two_tiles (lend_row ∷ bring_back ∷ [])).packages ≡ archive ∷ [])

abbrev column : Rect
column = block 1 0 0 0 1

abbrev two_in_a_column : World
two_in_a_column = after_all new_archive (ask 1 (Add archive (item 1) (tile_of 1 0 0 (65 ∷ 66 ∷ [])))
    ∷ ask 2 (Add archive (item 2) (tile_of 1 0 1 (67 ∷ 68 ∷ []))) ∷ [])

abbrev pub ColumnThereAndBack : Type 0
ColumnThereAndBack = (replied two_in_a_column (ask 3 (Split archive crew Strict column))
    ≡ Ok (3 ∷ 2 ∷ 0 ∷ 0 ∷ 0 ∷ 4 ∷ [], Some archive, Some crew))
    × (replied (after_all two_in_a_column (ask 3 (Split archive crew Strict column) ∷ [])) bring_back
    ≡ Ok (4 ∷ 2 ∷ 0 ∷ 0 ∷ 0 ∷ 4 ∷ [], Some crew, Some archive))

-- ---- crossed links, there and back

abbrev crossed : World
crossed = after_all two_tiles
    (ask 3 (Add archive (item 3) picture) ∷ ask 4 (Add archive (item 4) picture)
    ∷ ask 5 (Link archive TilesMedia (item 1) (item 4)) ∷ ask 6 (Link archive TilesMedia (item 2) (item 3))
    ∷ ask 7 (Add archive (item 5) (tile 1 0 1)) ∷ ask 8 (Delete archive (item 5)) ∷ [])

abbrev lend_crossed : Request
lend_crossed = ask 9 (Split archive crew Strict (block 1 0 1 0 0))

abbrev bring_crossed : Request
bring_crossed = ask 10 (Merge crew archive (pos 9))

abbrev pub CrossedLinks : Type 0
CrossedLinks = (replied crossed lend_crossed ≡ Ok (9 ∷ 2 ∷ 2 ∷ 0 ∷ 2 ∷ 8 ∷ [], Some archive, Some crew))
    × (links_held (outcome crossed lend_crossed).1 crew ≡ tile_link 1 4 ∷ tile_link 2 3 ∷ [])
    × (links_held (outcome crossed lend_crossed).1 archive ≡ [])
    × (replied (outcome crossed lend_crossed).1 bring_crossed
    ≡ Ok (10 ∷ 2 ∷ 2 ∷ 0 ∷ 2 ∷ 8 ∷ [], Some crew, Some archive))
    × (links_held (after_all crossed (lend_crossed ∷ bring_crossed ∷ [])) archive ≡ tile_link 1 4
    ∷ tile_link 2 3 ∷ [])

-- contents and links there and back, over the left column
abbrev crossed_column : World
crossed_column = after_all two_in_a_column
    (ask 3 (Add archive (item 3) picture) ∷ ask 4 (Add archive (item 4) picture)
    ∷ ask 5 (Link archive TilesMedia (item 1) (item 4)) ∷ ask 6 (Link archive TilesMedia (item 2) (item 3))
    ∷ ask 7 (Add archive (item 5) (tile 1 1 0)) ∷ ask 8 (Delete archive (item 5)) ∷ [])

abbrev lend_column : Request
lend_column = ask 9 (Split archive crew Strict column)

abbrev pub ContentsAndLinks : Type 0
ContentsAndLinks = (replied crossed_column lend_column ≡ Ok (
  9 ∷ 2 ∷ 2 ∷ 0 ∷ 2 ∷ 8
      ∷ [],
  Some archive,
  Some crew,
))
    × (links_held (outcome crossed_column lend_column).1 crew ≡ tile_link 1 4 ∷ tile_link 2 3 ∷ [])
    × (replied (outcome crossed_column lend_column).1 bring_crossed
    ≡ Ok (10 ∷ 2 ∷ 2 ∷ 0 ∷ 2 ∷ 8 ∷ [], Some crew, Some archive))
    × (links_held (after_all crossed_column (lend_column ∷ bring_crossed ∷ [])) archive ≡ tile_link 1 4
    ∷ tile_link 2 3 ∷ [])
    × ((holdings (after_all crossed_column (lend_column ∷ bring_crossed ∷ [])) archive).items
    ≡ (holdings crossed_column archive).items)

-- ---- collision on return: the place was taken in the meantime

abbrev taken_meanwhile : Rect → World
taken_meanwhile rect = after_all new_archive (ask 1 (Add archive (item 1) (tile 1 0 0))
    ∷ ask 2 (Split archive crew Strict rect) ∷ ask 3 (Add archive (item 2) (tile 1 0 0)) ∷ [])

abbrev second_try : Rect → World
second_try rect = after_all (taken_meanwhile rect) (ask 4 (Merge crew archive (pos 2))
    ∷ ask 5 (Delete archive (item 2)) ∷ [])

abbrev pub CollisionOnReturn : Type 0
CollisionOnReturn = (held (taken_meanwhile quarter) archive ≡ item 2 ∷ [])
    × (outcome (taken_meanwhile quarter) (ask 4 (Merge crew archive (pos 2)))
    ≡ (Err (Collides (item 1)), taken_meanwhile quarter))
    × (replied (second_try quarter) (ask 6 (Merge crew archive (pos 2)))
    ≡ Ok (5 ∷ 1 ∷ 0 ∷ 0 ∷ 0 ∷ 1 ∷ [], Some crew, Some archive))

abbrev pub ColumnCollision : Type 0
ColumnCollision = (outcome (taken_meanwhile column) (ask 4 (Merge crew archive (pos 2)))
    ≡ (Err (Collides (item 1)), taken_meanwhile column))
    × (replied (second_try column) (ask 6 (Merge crew archive (pos 2)))
    ≡ Ok (5 ∷ 1 ∷ 0 ∷ 0 ∷ 0 ∷ 1 ∷ [], Some crew, Some archive))

-- ---- a split that comes twice: the kept receipt whole, with its first moment, and no change

abbrev one_tile : World
one_tile = after_all new_archive (ask 1 (Add archive (item 1) (tile 1 0 0)) ∷ [])

abbrev lend : Command
lend = Split archive crew Strict quarter

abbrev once : World
once = (outcome one_tile (ask 2 lend)).1

abbrev pub SplitThatComesTwice : Type 0
SplitThatComesTwice = (replied one_tile (ask 2 lend) ≡ Ok (
  2 ∷ 1 ∷ 0 ∷ 0 ∷ 0 ∷ 1
      ∷ [],
  Some archive,
  Some crew,
))
    × (outcome once (ask 2 lend) ≡ outcome one_tile (ask 2 lend))
    × (outcome once (ask_at noon 2 lend) ≡ outcome one_tile (ask 2 lend))
    × (outcome once (ask_at [] 2 lend) ≡ outcome one_tile (ask 2 lend))
    × (length once.packages ≡ 2)
    × (outcome once (ask 2 (Split archive crew Strict (block 1 0 1 0 0))) ≡ (Err IdReused, once))

-- ---- kept after the merge of the package that answered it

abbrev merged : World
merged = after_all once (ask 3 (Add crew (item 2) (tile 1 0 1)) ∷ ask 4 (Merge crew archive (pos 3)) ∷ [])

abbrev pub KeptAfterMerge : Type 0
KeptAfterMerge = (replied (after_all once (ask 3 (Add crew (item 2) (tile 1 0 1)) ∷ []))
    (ask 4 (Merge crew archive (pos 3))) ≡ Ok (4 ∷ 2 ∷ 0 ∷ 0 ∷ 0 ∷ 2 ∷ [], Some crew, Some archive))
    × (replied merged (ask 3 (Add crew (item 2) (tile 1 0 1)))
    ≡ Ok (3 ∷ 1 ∷ 0 ∷ 0 ∷ 0 ∷ 1 ∷ [], None, Some crew))
    × (answer merged (ask 5 (Add crew (item 3) (tile 2 0 0))) ≡ Err UnknownPackage)

-- ---- a stale ticket, a foreign package, a used name

abbrev two_loans : World
two_loans = after_all new_archive
    (ask 1 (Add archive (item 1) (tile 1 0 0)) ∷ ask 2 (Add archive (item 2) (tile 1 1 0))
    ∷ ask 3 (Split archive crew Strict quarter) ∷ ask 4 (Split archive second_crew Strict (block 1 1 1 0 0))
    ∷ ask 5 (Add crew (item 3) (tile 2 0 0)) ∷ [])

abbrev pub RefusedReturns : Type 0
RefusedReturns = (answer two_loans (ask 6 (Merge crew archive (pos 3))) ≡ Err (Stale 5))
    × (answer two_loans (ask 6 (Merge crew second_crew (pos 3))) ≡ Err Foreign)
    × (answer two_loans (ask 6 (Merge archive crew (pos 3))) ≡ Err Foreign)
    × (answer two_loans (ask 6 (Split archive second_crew Strict quarter)) ≡ Err PackageUsed)

-- ---- an emptied loan with a loan

abbrev lend_on : Request
lend_on = ask 6 (Split crew third_crew Strict quarter)

abbrev pub EmptiedLoanWithALoan : Type 0
EmptiedLoanWithALoan = (replied two_loans lend_on ≡ Ok (
  6 ∷ 2 ∷ 0 ∷ 0 ∷ 0 ∷ 2
      ∷ [],
  Some crew,
  Some third_crew,
))
    × (held (outcome two_loans lend_on).1 crew ≡ [])
    × ((holdings (outcome two_loans lend_on).1 third_crew).parent ≡ Some crew)
    × ((holdings (outcome two_loans lend_on).1 third_crew).depth ≡ 2)
    × (loans_of (outcome two_loans lend_on).1 crew ≡ 1)
    × (loans_of (outcome two_loans lend_on).1 archive ≡ 2)

-- ---- loans of loans, down to the greatest depth and back

abbrev corner : Rect
corner = block 2 0 0 0 0

abbrev lent_down : World
lent_down = after_all new_archive
    (ask 1 (Add archive (item 1) (tile 2 0 0)) ∷ ask 2 (Split archive crew Strict corner)
    ∷ ask 3 (Split crew second_crew Strict corner)
    ∷ ask 4 (Split second_crew third_crew Strict corner) ∷ ask 5 (Split third_crew fourth_crew Strict corner)
    ∷ [])

abbrev brought_up : World
brought_up = after_all lent_down
    (ask 6 (Merge fourth_crew third_crew (pos 5)) ∷ ask 7 (Merge third_crew second_crew (pos 6))
    ∷ ask 8 (Merge second_crew crew (pos 7)) ∷ ask 9 (Merge crew archive (pos 8)) ∷ [])

abbrev pub LentDown : Type 0
LentDown = (length (receipts_of lent_down) ≡ 5)
    × (held lent_down fourth_crew ≡ item 1 ∷ [])
    × ((holdings lent_down fourth_crew).depth ≡ 4)
    × (answer lent_down (ask 6 (Split fourth_crew fifth_crew Strict corner)) ≡ Err TooDeep)
    × (answer lent_down (ask 6 (Merge crew archive (pos 3))) ≡ Err (LoanOpen second_crew))
    × (answer lent_down (ask 6 (Merge second_crew archive (pos 4))) ≡ Err Foreign)

abbrev pub BroughtUp : Type 0
BroughtUp = (map (λ p. p.uuid) brought_up.packages ≡ archive ∷ [])
    × (held brought_up archive ≡ item 1 ∷ [])
    × (length (holdings brought_up archive).receipts ≡ 9)

-- ---- what comes back takes its place among what stayed

abbrev interleaved : World
interleaved = world_with (
    archive_with (kept_as 2 (tile 1 0 0) ∷ kept_as 4 (tile 1 1 0) ∷ kept_as 6 picture ∷ [])
    (tile_link 2 6 ∷ tile_link 4 6 ∷ []) []
    ∷ crew_with (kept_as 3 (tile 1 0 1) ∷ kept_as 5 (tile 1 1 1) ∷ kept_as 7 picture ∷ [])
    (tile_link 3 7 ∷ tile_link 5 7 ∷ []) [] ∷ []
    )

abbrev pub InPlace : Type 0
InPlace = (held (outcome interleaved (ask 1 (Merge crew archive (pos 0)))).1 archive ≡ item 2 ∷ item 3 ∷ item 4
    ∷ item 5 ∷ item 6 ∷ item 7 ∷ [])
    × (links_held (outcome interleaved (ask 1 (Merge crew archive (pos 0)))).1 archive ≡ tile_link 2 6
    ∷ tile_link 3 7
    ∷ tile_link 4 6 ∷ tile_link 5 7 ∷ [])
    -- of two links of a tile one is taken out
    × (links_held (outcome interleaved (ask 1 (Unlink archive TilesMedia (item 2) (item 6)))).1 archive
    ≡ tile_link 4 6 ∷ [])
    -- a loan takes its place among the packages
    × (map (λ p. p.uuid) (outcome interleaved (ask 1 (Split archive (item 1) Strict (block 0 0 0 0 0)))).1.packages
    ≡ item 1 ∷ archive ∷ crew ∷ [])
