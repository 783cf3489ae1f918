use Rattle.std.proofs.Common.{rules, refl, FitsSigned, w64}
use Rattle.std.proofs.lemmas.Int.{to_z-of_z}
use Rattle.matrix_rules.proofs.Blocks.{block, starts}
use Rattle.matrix_rules.proofs.ground.offsets_of.Goals as goal

pub axes_at-axes-requires-clause-level : goal.axes_at-axes-requires-clause-level
axes_at-axes-requires-clause-level c =
    let zoom : FitsSigned w64 c.args.rect.now.zoom = search rules in
    simp to_z-of_z (block c.args.frame.now c.args.rect.now c.requires.rect).level

pub start_of-requires-clause-tile : goal.start_of-requires-clause-tile
start_of-requires-clause-tile c =
    let zoom : FitsSigned w64 c.args.rect.now.zoom = search rules in
    let column : FitsSigned w64 c.args.rect.now.column = search rules in
    let edges = starts c.args.frame.now c.args.rect.now c.axes_at-axes.result c.requires.rect
    (simp to_z-of_z at c.axes_at-axes.ensures.axes) c.axes_at-axes.ensures.good in
    simp to_z-of_z edges.west

pub overflow_add-rect : goal.overflow_add-rect
overflow_add-rect c =
    let zoom : FitsSigned w64 c.args.rect.now.zoom = search rules in
    let last_column : FitsSigned w64 c.args.rect.now.last_column = search rules in
    let edges = starts c.args.frame.now c.args.rect.now c.axes_at-axes.result c.requires.rect
    (simp to_z-of_z at c.axes_at-axes.ensures.axes) c.axes_at-axes.ensures.good in
    simp to_z-of_z edges.next_column

pub start_of-requires-2-clause-tile : goal.start_of-requires-2-clause-tile
start_of-requires-2-clause-tile c =
    let zoom : FitsSigned w64 c.args.rect.now.zoom = search rules in
    let last_column : FitsSigned w64 c.args.rect.now.last_column = search rules in
    let edges = starts c.args.frame.now c.args.rect.now c.axes_at-axes.result c.requires.rect
    (simp to_z-of_z at c.axes_at-axes.ensures.axes) c.axes_at-axes.ensures.good in
    simp (to_z-of_z, last_column, edges.next_column) edges.east

pub start_of-requires-3-clause-tile : goal.start_of-requires-3-clause-tile
start_of-requires-3-clause-tile c =
    let zoom : FitsSigned w64 c.args.rect.now.zoom = search rules in
    let row : FitsSigned w64 c.args.rect.now.row = search rules in
    let edges = starts c.args.frame.now c.args.rect.now c.axes_at-axes.result c.requires.rect
    (simp to_z-of_z at c.axes_at-axes.ensures.axes) c.axes_at-axes.ensures.good in
    simp to_z-of_z edges.north

pub overflow_add-rect-2 : goal.overflow_add-rect-2
overflow_add-rect-2 c =
    let zoom : FitsSigned w64 c.args.rect.now.zoom = search rules in
    let last_row : FitsSigned w64 c.args.rect.now.last_row = search rules in
    let edges = starts c.args.frame.now c.args.rect.now c.axes_at-axes.result c.requires.rect
    (simp to_z-of_z at c.axes_at-axes.ensures.axes) c.axes_at-axes.ensures.good in
    simp to_z-of_z edges.next_row

pub start_of-requires-4-clause-tile : goal.start_of-requires-4-clause-tile
start_of-requires-4-clause-tile c =
    let zoom : FitsSigned w64 c.args.rect.now.zoom = search rules in
    let last_row : FitsSigned w64 c.args.rect.now.last_row = search rules in
    let edges = starts c.args.frame.now c.args.rect.now c.axes_at-axes.result c.requires.rect
    (simp to_z-of_z at c.axes_at-axes.ensures.axes) c.axes_at-axes.ensures.good in
    simp (to_z-of_z, last_row, edges.next_row) edges.south

pub returns-clause-offsets : goal.returns-clause-offsets
returns-clause-offsets c =
    let zoom : FitsSigned w64 c.args.rect.now.zoom = search rules in
    let column : FitsSigned w64 c.args.rect.now.column = search rules in
    let last_column : FitsSigned w64 c.args.rect.now.last_column = search rules in
    let row : FitsSigned w64 c.args.rect.now.row = search rules in
    let last_row : FitsSigned w64 c.args.rect.now.last_row = search rules in
    let axes = simp to_z-of_z at c.axes_at-axes.ensures.axes in
    let edges = starts c.args.frame.now c.args.rect.now c.axes_at-axes.result c.requires.rect axes
    c.axes_at-axes.ensures.good in
    let west_fits : FitsSigned w64 c.start_of.result = search rules in
    let east_fits : FitsSigned w64 c.start_of-2.result = search rules in
    let north_fits : FitsSigned w64 c.start_of-3.result = search rules in
    let south_fits : FitsSigned w64 c.start_of-4.result = search rules in
    let west = simp to_z-of_z at c.start_of.ensures.start in
    let east = simp (to_z-of_z, last_column, edges.next_column) at c.start_of-2.ensures.start in
    let north = simp to_z-of_z at c.start_of-3.ensures.start in
    let south = simp (to_z-of_z, last_row, edges.next_row) at c.start_of-4.ensures.start in
    simp to_z-of_z (rw (west, east, north, south, axes) refl)
