-- Frames, the ground of tiles, and what lies inside (OGC GeoPackage 1.3, 2.2.6 and 2.2.7; profile).
use Rattle.std.specs.Prelude.{◌≡◌, true, false, Some, None, Ok, Err, pos, negsuc}
use Rattle.sheet_types.specs.Matrix.{frame_fault, is_good_frame, tile_ground, has_place, is_good_rect, point_inside}
use Rattle.sheet_types.specs.Matrix.{tile_inside}
use Rattle.sheet_types.specs.declared.command.Command.TheVariants.{Add}
use Rattle.sheet_types.specs.declared.frame.Frame.{Frame}
use Rattle.sheet_types.specs.declared.frame.FrameFault.TheVariants.{BadSrs, BadBounds, BadTile, BadZoom, BadMatrix}
use Rattle.sheet_types.specs.declared.frame.FrameFault.TheVariants.{Uneven}
use Rattle.sheet_types.specs.declared.refusal.Refusal.TheVariants.{OutOfFrame}
use Rattle.sheet_examples.specs.Sheets.{sheet, new_archive, ask, archive, item, row_at, block, quarter, answer}

-- ---- frame faults

abbrev pub FrameFaults : Type 0
FrameFaults = (frame_fault sheet ≡ None)
    × (frame_fault (record sheet { srs_id = negsuc 1 }) ≡ Some BadSrs)
    × (frame_fault (record sheet { max_x = pos 0 }) ≡ Some BadBounds)
    × (frame_fault (record sheet { tile_width = pos 4097 }) ≡ Some BadTile)
    × (frame_fault (record sheet { levels = pos 22 }) ≡ Some BadZoom)
    × (frame_fault (record sheet { matrix_width = pos 0 }) ≡ Some BadMatrix)
    × (frame_fault (record sheet { matrix_width = pos 3 }) ≡ Some Uneven)
    × (frame_fault (record sheet { levels = pos 5 }) ≡ None)
    × (frame_fault (record sheet { levels = pos 6 }) ≡ Some Uneven)

-- five levels have pixels of one unit
abbrev pub FinestPixel : Type 0
FinestPixel = tile_ground (record sheet { levels = pos 5 }) (pos 4) (pos 0) (pos 0)
    ≡ Some (record { west = pos 0; south = pos 3840; east = pos 256; north = pos 4096 })

-- the limits themselves: what is still good, and what is not. The sides of a tile and of a matrix are looked at each
abbrev pub FrameLimits : Type 0
FrameLimits = (frame_fault (record sheet { srs_id = negsuc 0 }) ≡ None)
    × (frame_fault (record sheet { srs_id = pos 0 }) ≡ None)
    × (frame_fault (record sheet { srs_id = pos 999999 }) ≡ None)
    × (frame_fault (record sheet { srs_id = pos 1000000 }) ≡ Some BadSrs)
    × (frame_fault (record sheet {
      min_x = negsuc 999999999999;
      max_x = pos 1000000000000;
      min_y = negsuc 999999999999;
      max_y = pos 1000000000000;
    }) ≡ None)
    × (frame_fault (record sheet { min_x = negsuc 1000000000000 }) ≡ Some BadBounds)
    × (frame_fault (record sheet { min_y = negsuc 1000000000000 }) ≡ Some BadBounds)
    × (frame_fault (record sheet { max_x = pos 1000000000001 }) ≡ Some BadBounds)
    × (frame_fault (record sheet { max_y = pos 1000000000001 }) ≡ Some BadBounds)
    × (frame_fault (record sheet { max_y = pos 0 }) ≡ Some BadBounds)
    × (frame_fault (record sheet { tile_width = pos 4096; levels = pos 1 }) ≡ None)
    × (frame_fault (record sheet { tile_width = pos 0 }) ≡ Some BadTile)
    × (frame_fault (record sheet { tile_height = pos 0 }) ≡ Some BadTile)
    × (frame_fault (record sheet { tile_height = pos 4097 }) ≡ Some BadTile)
    × (frame_fault (record sheet { first_zoom = negsuc 0 }) ≡ Some BadZoom)
    × (frame_fault (record sheet { levels = pos 0 }) ≡ Some BadZoom)
    × (frame_fault (record sheet { first_zoom = pos 18 }) ≡ None)
    × (frame_fault (record sheet { first_zoom = pos 19 }) ≡ Some BadZoom)
    × (frame_fault (record sheet { matrix_height = pos 0 }) ≡ Some BadMatrix)
    × (frame_fault (record sheet { matrix_width = pos 2000000000001 }) ≡ Some BadMatrix)
    × (frame_fault (record sheet { matrix_height = pos 2000000000001 }) ≡ Some BadMatrix)
    × (frame_fault (record sheet { matrix_height = pos 3 }) ≡ Some Uneven)

-- of several faults the first in the order of the rules
abbrev pub FirstFault : Type 0
FirstFault = (frame_fault (record sheet { srs_id = negsuc 1; max_x = pos 0 }) ≡ Some BadSrs)
    × (frame_fault (record sheet { max_x = pos 0; tile_width = pos 0 }) ≡ Some BadBounds)
    × (frame_fault (record sheet { tile_width = pos 0; levels = pos 0 }) ≡ Some BadTile)
    × (frame_fault (record sheet { levels = pos 22; matrix_width = pos 0 }) ≡ Some BadZoom)
    × (frame_fault (record sheet { matrix_height = pos 0; matrix_width = pos 3 }) ≡ Some BadMatrix)

-- ---- the ground of a tile

-- a sheet that lies left of and below the origin, and begins at zoom 3
abbrev low_sheet : Frame
low_sheet = record {
  srs_id = pos 0;
  min_x = negsuc 99;
  min_y = negsuc 199;
  max_x = pos 0;
  max_y = negsuc 99;
  tile_width = pos 5;
  tile_height = pos 10;
  first_zoom = pos 3;
  levels = pos 2;
  matrix_width = pos 2;
  matrix_height = pos 1;
}

abbrev pub GroundOfATile : Type 0
GroundOfATile = (tile_ground sheet (pos 2) (pos 3) (pos 3) ≡ Some
    (record { west = pos 3072; south = pos 0; east = pos 4096; north = pos 1024 }))
    × (tile_ground sheet (pos 2) (pos 4) (pos 0) ≡ None)
    × (tile_ground sheet (pos 2) (pos 1) (pos 0) ≡ Some (record
    { west = pos 1024; south = pos 3072; east = pos 2048; north = pos 4096 }))
    × (is_good_frame low_sheet ≡ true)
    × (tile_ground low_sheet (pos 2) (pos 0) (pos 0) ≡ None)
    × (tile_ground low_sheet (pos 5) (pos 0) (pos 0) ≡ None)
    × (tile_ground low_sheet (pos 4) (pos 1) (pos 0) ≡ Some (record
    { west = negsuc 74; south = negsuc 149; east = negsuc 49; north = negsuc 99 }))

-- which places there are
abbrev pub Places : Type 0
Places = (has_place sheet (pos 2) (pos 3) (pos 3) ≡ true)
    × (has_place sheet (pos 2) (pos 4) (pos 3) ≡ false)
    × (has_place sheet (pos 2) (pos 3) (pos 4) ≡ false)
    × (has_place sheet (pos 2) (negsuc 0) (pos 0) ≡ false)
    × (has_place sheet (pos 2) (pos 0) (negsuc 0) ≡ false)
    × (has_place sheet (pos 3) (pos 0) (pos 0) ≡ false)
    × (has_place sheet (negsuc 0) (pos 0) (pos 0) ≡ false)

-- ---- points on edges: west and north belong to a rectangle and to the frame, east and south do not

abbrev pub PointsOnEdges : Type 0
PointsOnEdges = (point_inside sheet quarter (pos 0) (pos 4096) ≡ true)
    × (point_inside sheet quarter (pos 2047) (pos 2049) ≡ true)
    × (point_inside sheet quarter (pos 2048) (pos 3000) ≡ false)
    × (point_inside sheet quarter (pos 0) (pos 2048) ≡ false)
    × (point_inside sheet (block 1 1 1 1 1) (pos 2048) (pos 2048) ≡ true)
    × (point_inside sheet (block 1 1 1 1 1) (pos 2047) (pos 2048) ≡ false)
    × (point_inside sheet (block 1 1 1 1 1) (pos 2048) (pos 2049) ≡ false)
    × (answer new_archive (ask 1 (Add archive (item 1) (row_at 0 0))) ≡ Err OutOfFrame)
    × (answer new_archive (ask 1 (Add archive (item 1) (row_at 0 1))) ≡ Ok 1)
    × (answer new_archive (ask 1 (Add archive (item 1) (row_at 4096 1))) ≡ Err OutOfFrame)
    × (answer new_archive (ask 1 (Add archive (item 1) (row_at 4095 4096))) ≡ Ok 1)
    × (answer new_archive (ask 1 (Add archive (item 1) (row_at 0 4097))) ≡ Err OutOfFrame)

-- a tile lies inside with its edges, whatever its zoom
abbrev pub TilesInside : Type 0
TilesInside = (tile_inside sheet quarter (pos 1) (pos 0) (pos 0) ≡ true)
    × (tile_inside sheet quarter (pos 2) (pos 1) (pos 1) ≡ true)
    × (tile_inside sheet quarter (pos 0) (pos 0) (pos 0) ≡ false)
    × (tile_inside sheet quarter (pos 2) (pos 2) (pos 0) ≡ false)
    × (tile_inside sheet quarter (pos 2) (pos 0) (pos 2) ≡ false)
    × (tile_inside sheet (block 1 1 1 1 1) (pos 2) (pos 1) (pos 2) ≡ false)
    × (tile_inside sheet (block 1 1 1 1 1) (pos 2) (pos 2) (pos 1) ≡ false)
    × (tile_inside sheet (block 1 1 1 1 1) (pos 2) (pos 2) (pos 2) ≡ true)
    × (tile_inside sheet (block 2 0 3 0 3) (pos 0) (pos 0) (pos 0) ≡ true)

-- good rectangles have both ends on the sheet, the first not past the last
abbrev pub GoodRectangles : Type 0
GoodRectangles = (is_good_rect sheet (block 2 0 3 0 3) ≡ true)
    × (is_good_rect sheet (block 2 1 1 2 2) ≡ true)
    × (is_good_rect sheet (block 2 1 0 0 0) ≡ false)
    × (is_good_rect sheet (block 2 0 0 1 0) ≡ false)
    × (is_good_rect sheet (block 2 0 4 0 0) ≡ false)
    × (is_good_rect sheet (block 2 0 0 0 4) ≡ false)
    × (is_good_rect sheet (block 3 0 0 0 0) ≡ false)
    × (is_good_rect sheet (record quarter { column = negsuc 0 }) ≡ false)
    × (is_good_rect sheet (record quarter { row = negsuc 0 }) ≡ false)
