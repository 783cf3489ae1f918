use Rattle.std.proofs.Common.{◌∙◌, ◌+◌, sym, ap, subst, take, length, to_z-of_z, true≢false, IsTrue}
use Rattle.package_receipts.specs.Ranges.{IsUuidText, IsEndText}
use Rattle.package_receipts.specs.Read.{AreThingsOf}
use Rattle.package_receipts.proofs.Ranges.{moved_end}
use Rattle.package_receipts.proofs.Walking.{one_thing, all_things, standing, pushed}
use Rattle.package_receipts.proofs.walk.things_of.Goals as goal

pub returns-then-not-stands_at-clause-none : goal.returns-then-not-stands_at-clause-none
returns-then-not-stands_at-clause-none c = λ h.
    let it = standing c.args.seq c.args.rows.now c.loop-place.place c.index-rows-place.result c.index-rows-place.is
    c.loop-place-test.true h in
    let yes : IsTrue c.stands_at.result = (simp (to_z-of_z, c.ranges.seq) at c.stands_at.ensures).1 (it.1, it.2) in
    true≢false (sym yes ∙ c.if-not-stands_at.true)

pub returns-in_default-clause-none : goal.returns-in_default-clause-none
returns-in_default-clause-none c = λ h.
    let it = standing c.args.seq c.args.rows.now c.loop-place.place c.index-rows-place.result c.index-rows-place.is
    c.loop-place-test.true h in
    c.in_default.ensures.none (subst IsUuidText (sym c.as_str.ensures) it.0.base)

pub returns-in_default-end_of-clause-none : goal.returns-in_default-end_of-clause-none
returns-in_default-end_of-clause-none c = λ h.
    let it = standing c.args.seq c.args.rows.now c.loop-place.place c.index-rows-place.result c.index-rows-place.is
    c.loop-place-test.true h in
    c.in_default-end_of.ensures.none (subst IsEndText (sym c.as_str-in-loop-place.ensures)
    (moved_end c.index-rows-place.result it.0))

pub returns-in_default-thing_of-clause-none : goal.returns-in_default-thing_of-clause-none
returns-in_default-thing_of-clause-none c = λ h.
    let it = standing c.args.seq c.args.rows.now c.loop-place.place c.index-rows-place.result c.index-rows-place.is
    c.loop-place-test.true h in
    c.in_default-thing_of.ensures.none it.0

pub loop-place-preserved : goal.loop-place-preserved
loop-place-preserved c =
    let stands = (simp (to_z-of_z, c.ranges.seq) at c.stands_at.ensures).0 (c.if-not-stands_at.false) in
    record {
      long = ap length c.in_ok-push.ensures.items ∙ pushed c.loop-place.things.items c.in-Some-thing_of.thing
          c.loop-place.place c.loop-place.invariant.long;
      read = simp (to_z-of_z, c.ranges.seq) (subst (AreThingsOf c.args.seq
          (take (c.loop-place.place + 1) c.args.rows.now)) (sym c.in_ok-push.ensures.items)
          (one_thing c.args.seq c.args.rows.now c.loop-place.things.items c.loop-place.place c.index-rows-place.result
          c.in-Some-thing_of.thing c.loop-place-test.true c.index-rows-place.is c.loop-place.invariant.long
          (simp (to_z-of_z, c.ranges.seq) at c.loop-place.invariant.read) stands.0 stands.1
          c.in-Some-thing_of.ensures.some));
    }

pub returns-clause-some : goal.returns-clause-some
returns-clause-some c =
    subst (AreThingsOf c.args.seq c.args.rows.now) (sym c.from_vec.ensures)
    (all_things c.args.seq c.args.rows.now c.loop-place.things.items c.loop-place.place c.loop-place-test.false
    (simp (to_z-of_z, c.ranges.seq) at c.loop-place.invariant.read))
