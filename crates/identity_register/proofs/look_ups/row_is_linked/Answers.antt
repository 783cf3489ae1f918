-- A mapping table names the row where that of one of the two mappings of its kind does.
use Rattle.std.proofs.Common.{◌≡◌, ◌∙◌, ap}
use Rattle.std.specs.Prelude.{◌||◌}
use Rattle.std.proofs.lemmas.Int.{to_z-of_z}
use Rattle.store_sql.proofs.Staying.{looks_stays, stays_then}
use Rattle.identity_register.specs.Answers.{is_named_by, is_linked_row, AreMappingsOf}
use Rattle.identity_register.proofs.Looking.{looked, looked_then, tells, fails}
use Rattle.identity_register.proofs.Ends.{second_end, linked_by}
use Rattle.identity_register.proofs.look_ups.row_is_linked.Goals as goal

pub is_named_by-requires-2-clause-end : goal.is_named_by-requires-2-clause-end
is_named_by-requires-2-clause-end g c =
    let kind = c.ranges.kind in
    let are : AreMappingsOf c.args.kind c.in_ok-one.one c.in_ok-one.another = simp to_z-of_z at c.in_ok-one.ensures in
    simp to_z-of_z (second_end c.args.kind c.in_ok-one.one c.in_ok-one.another are)

pub returns-in_err-by_another : goal.returns-in_err-by_another
returns-in_err-by_another g c = fails c.from_residual-in_err-by_another.result
    c.from_residual-in_err-by_another.ensures.0 (stays_then (looks_stays c.is_named_by.ensures)
    (looks_stays c.is_named_by-2.ensures))

pub returns : goal.returns
returns g c =
    let number = c.ranges.number in
    let kind = c.ranges.kind in
    let are : AreMappingsOf c.args.kind c.in_ok-one.one c.in_ok-one.another = simp to_z-of_z at c.in_ok-one.ensures in
    tells (λ t found. found ≡ is_linked_row c.args.kind c.args.number t)
    (looked_then (λ t found. found ≡ is_named_by c.in_ok-one.another c.args.kind c.args.number t)
    (looked (λ t found. found ≡ is_named_by c.in_ok-one.one c.args.kind c.args.number t) c.in_ok-by_one.was
    (simp to_z-of_z at c.is_named_by.ensures)) c.in_ok-by_another.was (simp to_z-of_z at c.is_named_by-2.ensures))
    (λ t h. ap (λ b. b || c.in_ok-by_another.by_another) h.0
    ∙ ap (λ b. is_named_by c.in_ok-one.one c.args.kind c.args.number t || b) h.1
    ∙ linked_by c.args.kind c.args.number t c.in_ok-one.one c.in_ok-one.another are)
