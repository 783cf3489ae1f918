use Rattle.std.proofs.Common.{◌≡◌, ◌∙◌, pos}
use Rattle.std.specs.Prelude.{◌||◌}
use Rattle.std.specs.List.{list_any}
use Rattle.store_sql.proofs.Staying.{looks_stays, stays_then}
use Rattle.custody.specs.Entries.{is_of}
use Rattle.identity_register.proofs.Looking.{looked, looked_then, sees, fails}
use Rattle.custody.proofs.Naming.{named_by_rows}
use Rattle.custody.proofs.names.Goals as goal

pub returns-in_err-medium : goal.returns-in_err-medium
returns-in_err-medium g c = fails c.from_residual-in_err-medium.result c.from_residual-in_err-medium.ensures.0
    (stays_then (looks_stays c.is_moved_as.ensures.looked) (looks_stays c.is_moved_as-2.ensures.looked))

pub returns-in_err-row : goal.returns-in_err-row
returns-in_err-row g c =
    fails c.from_residual-in_err-row.result c.from_residual-in_err-row.ensures.0
    (stays_then (stays_then (looks_stays c.is_moved_as.ensures.looked)
    (looks_stays c.is_moved_as-2.ensures.looked)) (looks_stays c.is_moved_as-3.ensures.looked))

pub returns : goal.returns
returns g c =
    let all = looked_then (λ t found. found ≡ list_any (is_of c.args.identity (pos 3)) t.moved)
    (looked_then (λ t found. found ≡ list_any (is_of c.args.identity (pos 2)) t.moved)
    (looked (λ t found. found ≡ list_any (is_of c.args.identity (pos 1)) t.moved) c.in_ok-tile.was
    c.is_moved_as.ensures.looked)
    c.in_ok-medium.was c.is_moved_as-2.ensures.looked)
    c.in_ok-row.was c.is_moved_as-3.ensures.looked in
    sees all (λ f p t says h. c.any_of_three.ensures ∙ (λ i. h.0.0 i || h.0.1 i || h.1 i)
    ∙ named_by_rows c.args.identity c.is_moved_as.ensures.back f p t says)
