use Rattle.std.proofs.Common.{◌≤◌, ◌<◌, ◌+◌, ◌∙◌, sym, ap, subst, take, length, to_z-of_z, arith}
use Rattle.custody.proofs.Things.{AreRead, none_read, one_read, all_read, pushed}
use Rattle.custody.proofs.keeping.things_of.Goals as goal

pub loop-position-init : goal.loop-position-init
loop-position-init c = record {
  long = ap length c.new-things.ensures.items;
  read = simp (to_z-of_z, c.ranges.seq) (subst (AreRead c.args.seq (take 0 c.args.rows.now))
      (sym c.new-things.ensures.items) (none_read c.args.seq c.args.rows.now));
}

pub loop-position-preserved : goal.loop-position-preserved
loop-position-preserved c =
    let less : c.loop-position.position < length c.args.rows.now = omega arith in
    record {
      long = ap length c.in_ok-push.ensures.items ∙ pushed c.loop-position.things.items c.in_ok-thing_at.field-0
          c.loop-position.position c.loop-position.invariant.long;
      read = simp (to_z-of_z, c.ranges.seq) (subst (AreRead c.args.seq
          (take (c.loop-position.position + 1) c.args.rows.now)) (sym c.in_ok-push.ensures.items)
          (one_read c.args.seq c.args.rows.now c.loop-position.things.items c.loop-position.position
          c.index-rows-position.result c.in_ok-thing_at.field-0 less c.index-rows-position.is
          c.loop-position.invariant.long (simp (to_z-of_z, c.ranges.seq) at c.loop-position.invariant.read)
          (simp (to_z-of_z, c.ranges.seq) at c.in_ok-thing_at.ensures.row) c.in_ok-thing_at.ensures.fit));
    }

pub returns-clause-rows : goal.returns-clause-rows
returns-clause-rows c =
    let all : length c.args.rows.now ≤ c.loop-position.position = omega arith in
    (subst (AreRead c.args.seq c.args.rows.now) (sym c.from_vec.ensures)
    (all_read c.args.seq c.args.rows.now c.loop-position.things.items c.loop-position.position all
    (simp (to_z-of_z, c.ranges.seq) at c.loop-position.invariant.read))).rows

pub returns-clause-fit : goal.returns-clause-fit
returns-clause-fit c =
    let all : length c.args.rows.now ≤ c.loop-position.position = omega arith in
    (subst (AreRead c.args.seq c.args.rows.now) (sym c.from_vec.ensures)
    (all_read c.args.seq c.args.rows.now c.loop-position.things.items c.loop-position.position all
    (simp (to_z-of_z, c.ranges.seq) at c.loop-position.invariant.read))).fit
