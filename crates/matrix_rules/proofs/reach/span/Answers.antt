use Rattle.std.proofs.Common.{rules, ◌≡◌, ◌∙◌, refl, ap₂, true, false, FitsSigned, ◌&&◌, w64}
use Rattle.std.proofs.lemmas.Bool.{and_left, and_right}
use Rattle.std.proofs.lemmas.Int.{to_z-of_z}
use Rattle.sheet_types.specs.Matrix.{has_level}
use Rattle.matrix_rules.proofs.Frames.{good_frame}
use Rattle.matrix_rules.proofs.Insides.{inside_at, span_start}
use Rattle.matrix_rules.proofs.reach.span.Goals as goal

pub returns-then-not-has_level-clause-none : goal.returns-then-not-has_level-clause-none
returns-then-not-has_level-clause-none c =
    let level : has_level c.args.frame.now c.args.zoom ≡ false = search rules in
    λ column row. rw level refl

pub returns-clause-some : goal.returns-clause-some
returns-clause-some c =
    let first : FitsSigned w64 c.in_ok-column.column = search rules in
    let last : FitsSigned w64 c.in_ok-column.last_column = search rules in
    let first_row : FitsSigned w64 c.in_ok-row.row = search rules in
    let last_row : FitsSigned w64 c.in_ok-row.last_row = search rules in
    let columns = c.in_ok-column.ensures in
    let rows = c.in_ok-row.ensures in
    simp to_z-of_z (span_start c.in_ok-column.column c.in_ok-column.last_column c.in_ok-row.row c.in_ok-row.last_row
    columns.0 rows.0)

pub returns-in_err-column-clause-none : goal.returns-in_err-column-clause-none
returns-in_err-column-clause-none c =
    let zoom = c.ranges.zoom in
    let west : FitsSigned w64 c.offsets_of-outer.result.west = search rules in
    let east : FitsSigned w64 c.offsets_of-outer.result.east = search rules in
    let span : FitsSigned w64 c.axes_at-axes.result.across.span = search rules in
    let axes = simp to_z-of_z at c.axes_at-axes.ensures.axes in
    let level : has_level c.args.frame.now c.args.zoom ≡ true = search rules in
    let inside = inside_at c.args.frame.now c.args.rect.now c.offsets_of-outer.result c.args.zoom
    c.offsets_of-outer.ensures.offsets (good_frame c.args.frame.now c.requires.good) c.requires.rect level in
    let none = rw axes at (simp to_z-of_z at c.in_err-column.ensures) in
    rw c.from_residual.ensures (λ column row. inside column row ∙ and_left _ _ (none column))

pub returns-in_err-row-clause-none : goal.returns-in_err-row-clause-none
returns-in_err-row-clause-none c =
    let zoom = c.ranges.zoom in
    let north : FitsSigned w64 c.offsets_of-outer.result.north = search rules in
    let south : FitsSigned w64 c.offsets_of-outer.result.south = search rules in
    let span : FitsSigned w64 c.axes_at-axes.result.down.span = search rules in
    let axes = simp to_z-of_z at c.axes_at-axes.ensures.axes in
    let level : has_level c.args.frame.now c.args.zoom ≡ true = search rules in
    let inside = inside_at c.args.frame.now c.args.rect.now c.offsets_of-outer.result c.args.zoom
    c.offsets_of-outer.ensures.offsets (good_frame c.args.frame.now c.requires.good) c.requires.rect level in
    let none = rw axes at (simp to_z-of_z at c.in_err-row.ensures) in
    rw c.from_residual-in_err-row.ensures (λ column row. inside column row ∙ and_right _ _ (none row))

pub returns-clause-places : goal.returns-clause-places
returns-clause-places c =
    let zoom = c.ranges.zoom in
    let west : FitsSigned w64 c.offsets_of-outer.result.west = search rules in
    let east : FitsSigned w64 c.offsets_of-outer.result.east = search rules in
    let north : FitsSigned w64 c.offsets_of-outer.result.north = search rules in
    let south : FitsSigned w64 c.offsets_of-outer.result.south = search rules in
    let width : FitsSigned w64 c.axes_at-axes.result.across.span = search rules in
    let height : FitsSigned w64 c.axes_at-axes.result.down.span = search rules in
    let axes = simp to_z-of_z at c.axes_at-axes.ensures.axes in
    let level : has_level c.args.frame.now c.args.zoom ≡ true = search rules in
    let inside = inside_at c.args.frame.now c.args.rect.now c.offsets_of-outer.result c.args.zoom
    c.offsets_of-outer.ensures.offsets (good_frame c.args.frame.now c.requires.good) c.requires.rect level in
    let columns = rw axes at (simp to_z-of_z at c.in_ok-column.ensures) in
    let rows = rw axes at (simp to_z-of_z at c.in_ok-row.ensures) in
    let first : FitsSigned w64 c.in_ok-column.column = search rules in
    let last : FitsSigned w64 c.in_ok-column.last_column = search rules in
    let first_row : FitsSigned w64 c.in_ok-row.row = search rules in
    let last_row : FitsSigned w64 c.in_ok-row.last_row = search rules in
    simp to_z-of_z (λ column row. inside column row ∙ ap₂ (λ a b. a && b) (columns.1 column) (rows.1 row))
