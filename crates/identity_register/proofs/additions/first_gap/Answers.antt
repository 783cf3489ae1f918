use Rattle.std.proofs.Common.{◌≡◌, ℤ, ◌∙◌, ◌+ℤ◌, pos, true, Some, refl, arith, to_z-of_z, w64}
use Rattle.std.proofs.Common.{to_z, of_z}
use Rattle.std.proofs.lemmas.Int.{ints}
use Rattle.sheet_types.specs.Matrix.{is_within}
use Rattle.sqlite.specs.Held.{state}
use Rattle.store_sql.proofs.Transactions.{steps_none, steps_answer}
use Rattle.package_tables.specs.Calls.{Answers}
use Rattle.package_tables.specs.declared.fault.Fault.{Fault}
use Rattle.identity_register.specs.Numbering.{IsTaken, FindsGap, greatest_number}
use Rattle.identity_register.proofs.Numbers.{within_from, next_from, next_is, same_then, gap_steps, gap_of}
use Rattle.identity_register.proofs.Rooms.{SoFar, none_below, one_more_taken, all_taken}
use Rattle.identity_register.proofs.additions.first_gap.Goals as goal

pub loop-number-init : goal.loop-number-init
loop-number-init g c =
    let kind : ℤ = to_z w64 (of_z w64 c.args.kind) in
    record {
      from = omega (arith, ints);
      same = refl;
      so_far =
          steps_none {E = Fault} (λ _. SoFar kind (pos 1)) (state g.S.Store c.args.tx.now.conn.now) tt
          (none_below kind (state g.S.Store c.args.tx.now.conn.now).now);
    }

pub loop-number-preserved : goal.loop-number-preserved
loop-number-preserved g c =
    let kind : ℤ = to_z w64 (of_z w64 c.args.kind) in
    let number : ℤ = to_z w64 c.loop-number.number-bits in
    record {
      from = next_from _ c.loop-number.invariant.from c.loop-number-test.true;
      same = c.is_taken.ensures.same_reference ∙ c.loop-number.invariant.same;
      so_far = one_more_taken {G = Fault} kind number (to_z w64 (of_z w64 (number +ℤ pos 1))) c.in_ok-taken.taken
          (next_is number c.loop-number.invariant.from c.loop-number-test.true) c.if-not-taken.false
          c.loop-number.invariant.so_far c.in_ok-taken.ensures.steps;
    }

pub returns-then-not-taken-clause-steps : goal.returns-then-not-taken-clause-steps
returns-then-not-taken-clause-steps g c =
    let number : ℤ = to_z w64 c.loop-number.number-bits in
    let range : is_within (pos 1) greatest_number number ≡ true =
    within_from number c.loop-number.invariant.from c.loop-number-test.true in
    steps_answer {E = Fault} {F = Fault} (Answers (FindsGap c.args.kind)) (Some number) (λ it. it)
    (gap_steps {F = Fault} c.args.kind number c.in_ok-taken.taken range c.if-not-taken.true
    (same_then (IsTaken c.args.kind number) (λ a b it. it.0) c.loop-number.invariant.so_far
    (simp (to_z-of_z, c.ranges.kind) at c.in_ok-taken.ensures.steps)))

pub returns-clause-steps : goal.returns-clause-steps
returns-clause-steps g c = gap_of (to_z-of_z c.ranges.kind) (all_taken (to_z w64 (of_z w64 c.args.kind))
    (to_z w64 c.loop-number.number-bits) c.loop-number-test.false c.loop-number.invariant.so_far)
