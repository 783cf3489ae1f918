-- A text is cut at its first two commas.
use Rattle.std.proofs.Common.{FitsSigned, w64, rules}
use Rattle.std.proofs.lemmas.Int.{to_z-of_z}
use Rattle.command_verbs.proofs.Units.{box_of, box_parts, no_box, no_comma_at_all, one_comma_alone}
use Rattle.command_verbs.proofs.points.read_box.Goals as goal

pub returns-in_err-west-clause-none : goal.returns-in_err-west-clause-none
returns-in_err-west-clause-none c = no_box c.from_residual.result c.args.text.now
    (no_comma_at_all c.args.text.now c.in_err-west.ensures.none)

pub returns-in_err-south-clause-none : goal.returns-in_err-south-clause-none
returns-in_err-south-clause-none c =
    no_box c.from_residual-in_err-south.result c.args.text.now
    (one_comma_alone c.args.text.now c.in_ok-west.west.now c.in_ok-west.rest.now c.in_ok-west.ensures.some
    c.in_err-south.ensures.none)

pub returns-in_err-east-clause-none : goal.returns-in_err-east-clause-none
returns-in_err-east-clause-none c =
    no_box c.from_residual-in_err-east.result c.args.text.now
    (λ g it. c.in_err-east.ensures.none (record { x = g.east; y = g.north })
    (box_parts _ _ _ _ _ c.in_ok-west.ensures.some c.in_ok-south.ensures.some g it).2)

pub returns-in_err-west-2-clause-none : goal.returns-in_err-west-2-clause-none
returns-in_err-west-2-clause-none c =
    no_box c.from_residual-in_err-west-2.result c.args.text.now
    (λ g it. c.in_err-west-2.ensures.none g.west (box_parts _ _ _ _ _ c.in_ok-west.ensures.some
    c.in_ok-south.ensures.some g it).0)

pub returns-in_err-south-2-clause-none : goal.returns-in_err-south-2-clause-none
returns-in_err-south-2-clause-none c =
    no_box c.from_residual-in_err-south-2.result c.args.text.now
    (λ g it. c.in_err-south-2.ensures.none g.south (box_parts _ _ _ _ _ c.in_ok-west.ensures.some
    c.in_ok-south.ensures.some g it).1)

pub returns-clause-some : goal.returns-clause-some
returns-clause-some c =
    let west : FitsSigned w64 c.in_ok-west-2.west = search rules in
    let south : FitsSigned w64 c.in_ok-south-2.south = search rules in
    let east : FitsSigned w64 c.in_ok-east.field-0.x = search rules in
    let north : FitsSigned w64 c.in_ok-east.field-0.y = search rules in
    simp to_z-of_z (box_of c.args.text.now c.in_ok-west.west.now c.in_ok-south.south.now c.in_ok-south.rest.now
    c.in_ok-west.rest.now c.in_ok-west.ensures.some c.in_ok-south.ensures.some
    (record {
      west = c.in_ok-west-2.west;
      south = c.in_ok-south-2.south;
      east = c.in_ok-east.field-0.x;
      north = c.in_ok-east.field-0.y;
    })
    c.in_ok-west-2.ensures.some c.in_ok-south-2.ensures.some c.in_ok-east.ensures.some)
