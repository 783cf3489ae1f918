-- What a split takes, and what it leaves.
use Rattle.std.specs.Prelude.{◌≡◌, [], ◌∷◌, length, Some, None, Ok, Err, pos}
use Rattle.sheet_types.specs.World.{World, holdings}
use Rattle.sheet_types.specs.Step.{outcome}
use Rattle.sheet_types.specs.declared.command.Command.TheVariants.{Add, Delete, Link, Split, Merge}
use Rattle.sheet_types.specs.declared.command.Mapping.TheVariants.{TilesMedia, RowsMedia, RowsTiles}
use Rattle.sheet_types.specs.declared.command.Mode.TheVariants.{Strict, Follow}
use Rattle.sheet_types.specs.declared.command.Request.{Request}
use Rattle.sheet_types.specs.declared.refusal.Refusal.TheVariants.{WrongKind, Linked, BadRectangle, NothingToLend}
use Rattle.sheet_types.specs.declared.refusal.Refusal.TheVariants.{CutLink}
use Rattle.sheet_examples.specs.Sheets.{new_archive, after_all, ask, archive, crew, item, tile, picture, row_at}
use Rattle.sheet_examples.specs.Sheets.{block, quarter, tile_link, row_link, tile_of_row, answer, replied, held}
use Rattle.sheet_examples.specs.Sheets.{links_held}

-- ---- cut over zooms: tiles of all zooms that lie inside, and none that reaches past an edge

abbrev seven_tiles : World
seven_tiles = after_all new_archive
    (ask 1 (Add archive (item 1) (tile 0 0 0)) ∷ ask 2 (Add archive (item 2) (tile 1 0 0))
    ∷ ask 3 (Add archive (item 3) (tile 2 0 0)) ∷ ask 4 (Add archive (item 4) (tile 2 1 0))
    ∷ ask 5 (Add archive (item 5) (tile 2 0 1)) ∷ ask 6 (Add archive (item 6) (tile 2 1 1))
    ∷ ask 7 (Add archive (item 7) (tile 2 2 0)) ∷ [])

abbrev lend_quarter : Request
lend_quarter = ask 8 (Split archive crew Strict quarter)

abbrev pub CutOverZooms : Type 0
CutOverZooms = (replied seven_tiles lend_quarter ≡ Ok (
  8 ∷ 5 ∷ 0 ∷ 0 ∷ 0 ∷ 5
      ∷ [],
  Some archive,
  Some crew,
))
    × (held (outcome seven_tiles lend_quarter).1 archive ≡ item 1 ∷ item 7 ∷ [])
    × (held (outcome seven_tiles lend_quarter).1 crew ≡ item 2 ∷ item 3 ∷ item 4 ∷ item 5 ∷ item 6 ∷ [])

-- ---- nothing to lend, and bad rectangles

abbrev far_tile : World
far_tile = after_all new_archive (ask 1 (Add archive (item 1) (tile 1 1 1)) ∷ [])

abbrev pub NothingInside : Type 0
NothingInside = (outcome far_tile (ask 2 (Split archive crew Strict quarter)) ≡ (Err NothingToLend, far_tile))
    × (outcome far_tile (ask 2 (Split archive crew Strict (block 1 2 2 0 0))) ≡ (Err BadRectangle, far_tile))
    × (outcome far_tile (ask 2 (Split archive crew Strict (block 1 1 0 0 0))) ≡ (Err BadRectangle, far_tile))

-- ---- a shared medium: linked to a tile inside and to a row outside

abbrev shared : World
shared = after_all new_archive
    (ask 1 (Add archive (item 1) (tile 1 0 0)) ∷ ask 2 (Add archive (item 2) (row_at 3000 1000))
    ∷ ask 3 (Add archive (item 3) picture)
    ∷ ask 4 (Link archive TilesMedia (item 1) (item 3)) ∷ ask 5 (Link archive RowsMedia (item 2) (item 3)) ∷ [])

abbrev follow_shared : Request
follow_shared = ask 6 (Split archive crew Follow quarter)

abbrev pub SharedMedium : Type 0
SharedMedium = (replied shared (ask 6 (Split archive crew Strict quarter)) ≡ Err (CutLink (item 3)))
    × (replied shared follow_shared ≡ Ok (6 ∷ 1 ∷ 1 ∷ 1 ∷ 2 ∷ 3 ∷ [], Some archive, Some crew))
    × (held (outcome shared follow_shared).1 archive ≡ [])
    × (links_held (outcome shared follow_shared).1 archive ≡ [])
    × (held (outcome shared follow_shared).1 crew ≡ item 1 ∷ item 3 ∷ item 2 ∷ [])
    × (links_held (outcome shared follow_shared).1 crew ≡ tile_link 1 3 ∷ row_link 2 3 ∷ [])

-- ---- follow, two rounds: over a medium to a second tile, and on to that tile's other medium

abbrev chained : World
chained = after_all new_archive
    (ask 1 (Add archive (item 1) (tile 1 0 0)) ∷ ask 2 (Add archive (item 2) (tile 1 1 0))
    ∷ ask 3 (Add archive (item 5) (tile 1 1 1)) ∷ ask 4 (Add archive (item 3) picture)
    ∷ ask 5 (Add archive (item 4) picture)
    ∷ ask 6 (Link archive TilesMedia (item 1) (item 3)) ∷ ask 7 (Link archive TilesMedia (item 2) (item 3))
    ∷ ask 8 (Link archive TilesMedia (item 2) (item 4)) ∷ [])

abbrev follow_chain : Request
follow_chain = ask 9 (Split archive crew Follow quarter)

abbrev pub FollowTwoRounds : Type 0
FollowTwoRounds = (replied chained follow_chain ≡ Ok (
  9 ∷ 2 ∷ 2 ∷ 0 ∷ 3 ∷ 6
      ∷ [],
  Some archive,
  Some crew,
))
    × (held (outcome chained follow_chain).1 archive ≡ item 5 ∷ [])
    × (held (outcome chained follow_chain).1 crew ≡ item 1 ∷ item 2 ∷ item 3 ∷ item 4 ∷ [])
    × (links_held (outcome chained follow_chain).1 crew ≡ tile_link 1 3 ∷ tile_link 2 3 ∷ tile_link 2 4 ∷ [])

-- ---- a row related to a tile of another quarter

abbrev row_and_tile : World
row_and_tile = after_all new_archive (ask 1 (Add archive (item 1) (row_at 100 4000))
    ∷ ask 2 (Add archive (item 2) (tile 1 1 1)) ∷ [])

abbrev relate : Request
relate = ask 3 (Link archive RowsTiles (item 1) (item 2))

abbrev related : World
related = (outcome row_and_tile relate).1

abbrev follow_row : Request
follow_row = ask 4 (Split archive crew Follow quarter)

abbrev pub RowRelatedToATile : Type 0
RowRelatedToATile = (replied row_and_tile relate ≡ Ok (3 ∷ 0 ∷ 0 ∷ 0 ∷ 1 ∷ 0 ∷ [], None, Some archive))
    × (links_held related archive ≡ tile_of_row 1 2 ∷ [])
    × (answer related (ask 4 (Link archive RowsTiles (item 2) (item 1))) ≡ Err WrongKind)
    × (answer related (ask 4 (Delete archive (item 2))) ≡ Err Linked)
    × (answer related (ask 4 (Delete archive (item 1))) ≡ Err Linked)
    × (answer related (ask 4 (Split archive crew Strict quarter)) ≡ Err (CutLink (item 1)))
    × (replied related follow_row ≡ Ok (4 ∷ 1 ∷ 0 ∷ 1 ∷ 1 ∷ 1 ∷ [], Some archive, Some crew))
    × (held (outcome related follow_row).1 archive ≡ [])
    × (links_held (outcome related follow_row).1 archive ≡ [])
    × (links_held (outcome related follow_row).1 crew ≡ tile_of_row 1 2 ∷ [])
    × (replied (outcome related follow_row).1 (ask 5 (Merge crew archive (pos 4)))
    ≡ Ok (5 ∷ 1 ∷ 0 ∷ 1 ∷ 1 ∷ 1 ∷ [], Some crew, Some archive))

-- ---- a strict cut takes the media of its tiles and rows, and leaves other media, rows and links

abbrev two_pairs : World
two_pairs = after_all new_archive
    (ask 1 (Add archive (item 1) (tile 1 0 0)) ∷ ask 2 (Add archive (item 2) (row_at 100 4000))
    ∷ ask 3 (Add archive (item 3) picture) ∷ ask 4 (Add archive (item 4) picture)
    ∷ ask 5 (Add archive (item 5) (row_at 3000 1000)) ∷ ask 6 (Add archive (item 6) picture)
    ∷ ask 7 (Link archive TilesMedia (item 1) (item 3)) ∷ ask 8 (Link archive RowsMedia (item 2) (item 3))
    ∷ ask 9 (Link archive RowsMedia (item 2) (item 4)) ∷ ask 10 (Link archive RowsMedia (item 5) (item 6)) ∷ [])

abbrev lend_strictly : Request
lend_strictly = ask 11 (Split archive crew Strict quarter)

abbrev pub StrictTakesMedia : Type 0
StrictTakesMedia = (replied two_pairs lend_strictly ≡ Ok (
  11 ∷ 1 ∷ 2 ∷ 1 ∷ 3 ∷ 5
      ∷ [],
  Some archive,
  Some crew,
))
    × (held (outcome two_pairs lend_strictly).1 archive ≡ item 6 ∷ item 5 ∷ [])
    × (links_held (outcome two_pairs lend_strictly).1 archive ≡ row_link 5 6 ∷ [])
    × (held (outcome two_pairs lend_strictly).1 crew ≡ item 1 ∷ item 3 ∷ item 4 ∷ item 2 ∷ [])
    × (links_held (outcome two_pairs lend_strictly).1 crew ≡ tile_link 1 3 ∷ row_link 2 3 ∷ row_link 2 4 ∷ [])

-- ---- the loan's place in the register

abbrev lent : World
lent = (outcome seven_tiles lend_quarter).1

abbrev pub PlaceOfALoan : Type 0
PlaceOfALoan = ((holdings lent crew).parent ≡ Some archive)
    × ((holdings lent crew).depth ≡ 1)
    × ((holdings lent crew).loan ≡ 8)
    × (length (holdings lent crew).receipts ≡ 0)
    × (length (holdings lent archive).receipts ≡ 8)
    × (length lent.packages ≡ 2)
