-- The tiles of all zooms, and the rows.
use Rattle.std.proofs.Common.{◌≡◌, ◌∙◌, ◌+ℤ◌, ◌++◌, sym, subst, ap}
use Rattle.sheet_types.specs.Cut.{identities, start}
use Rattle.sheet_types.specs.Matrix.{block_ground}
use Rattle.cut.specs.Gathering.{AreSame, tiles_below}
use Rattle.identity_register.specs.Reach.{rows_in}
use Rattle.cut.proofs.Asking.{asked, asked_then, answers, fails, stayed}
use Rattle.cut.proofs.Places.{start_is}
use Rattle.cut.proofs.starting.start.Goals as goal

pub returns-in_err-rows : goal.returns-in_err-rows
returns-in_err-rows g c = fails c.from_residual-in_err-rows.result c.from_residual-in_err-rows.ensures.0
    (asked_then (stayed c.tiles_inside.ensures) (stayed c.rows_in.ensures))

pub returns-in_err-extend_from_slice : goal.returns-in_err-extend_from_slice
returns-in_err-extend_from_slice g c = fails c.from_residual-in_err-extend_from_slice.result
    c.from_residual-in_err-extend_from_slice.ensures.0 (asked_then (stayed c.tiles_inside.ensures)
    (stayed c.rows_in.ensures))

pub returns : goal.returns
returns g c =
    let f = c.args.frame.now in
    let r = c.args.rect.now in
    let found = c.in_ok-found.found.items in
    answers (asked_then (asked (λ p tiles. AreSame tiles.items (tiles_below f r p (f.first_zoom +ℤ f.levels)))
    c.in_ok-found.was c.tiles_inside.ensures)
    (asked (λ p rows. rows.items ≡ rows_in p c.block.result) c.in_ok-rows.was c.rows_in.ensures))
    (λ p both order.
    let now : c.extend_from_slice.new.self.items ≡ found ++ rows_in p (block_ground f r) =
    c.in_ok-extend_from_slice.ensures.items ∙ ap (λ l. found ++ l)
    (c.deref.ensures.value ∙ both.1 ∙ ap (rows_in p) c.block.ensures) in
    subst (λ l. AreSame l (identities (start f r p))) (sym now) (start_is f r p found both.0 order))
