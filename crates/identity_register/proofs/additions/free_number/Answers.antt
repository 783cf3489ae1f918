use Rattle.std.proofs.Common.{◌≡◌, ◌∙◌, rules, sym, Some, to_z-of_z, FitsSigned, w64}
use Rattle.package_tables.specs.declared.fault.Fault.{Fault}
use Rattle.identity_register.specs.Numbering.{FindsGap, number_after}
use Rattle.identity_register.proofs.Numbers.{same_then, gap_of, greatest_steps, after_steps}
use Rattle.identity_register.proofs.additions.free_number.Goals as goal

pub returns-in-Some-clause-steps : goal.returns-in-Some-clause-steps
returns-in-Some-clause-steps g c =
    let number : FitsSigned w64 c.in-Some.number = search rules in
    let kind : FitsSigned w64 c.stored_kind-kind.result = search rules in
    let after : number_after c.in_ok-greatest.greatest ≡ Some c.in-Some.number =
    sym c.number_after.ensures ∙ c.in-Some.is in
    simp (to_z-of_z, number)
    (gap_of c.stored_kind-kind.ensures
    (after_steps {F = Fault} c.stored_kind-kind.result c.in_ok-greatest.greatest c.in-Some.number after
    (greatest_steps {E = Fault} c.stored_kind-kind.result (simp (to_z-of_z, kind) at c.in_ok-greatest.ensures.told)
    c.in_ok-greatest.ensures.survives)))

pub returns-in-None-clause-steps : goal.returns-in-None-clause-steps
returns-in-None-clause-steps g c =
    let kind : FitsSigned w64 c.stored_kind-kind.result = search rules in
    gap_of c.stored_kind-kind.ensures
    (same_then (FindsGap c.stored_kind-kind.result) (λ a b it. it.0)
    (greatest_steps {E = Fault} c.stored_kind-kind.result (simp (to_z-of_z, kind) at c.in_ok-greatest.ensures.told)
    c.in_ok-greatest.ensures.survives)
    (simp (to_z-of_z, kind) at c.first_gap.ensures.steps))
