use Rattle.std.proofs.Common.{◌≡◌, ◌∙◌, suc, ◌∷◌, [], sym, ap, subst, length, FitsSigned, w64}
use Rattle.std.proofs.Common.{to_z-of_z, rules, arith}
use Rattle.std.specs.Vec.Iter.{into_iter_items, into_iter_len}
use Rattle.package_receipts.proofs.Walking.{SoFar, IsCut, cut_at, went_on, refused, ended, left_over, none_long}
use Rattle.package_receipts.proofs.Walking.{none_there}
use Rattle.package_receipts.proofs.walk.receipts_of.Goals as goal

pub returns-in_default-clause-none : goal.returns-in_default-clause-none
returns-in_default-clause-none c =
    let row = c.in-Some.row in
    let fits : FitsSigned w64 c.in-Some.row.seq = search rules in
    let next : into_iter_items c.loop-row.row-iterator ≡ c.in-Some.row ∷ into_iter_items c.next.new.self =
    search rules in
    let so = subst (λ l. SoFar (into_iter_items c.args.rows) c.args.moved.now c.loop-row.entered.items l
    c.loop-row.rest.now) next c.loop-row.invariant.so_far in
    let cut : IsCut c.in-Some.row.seq c.loop-row.rest.now c.split_at.result.0.now c.split_at.result.1.now =
    cut_at row.seq c.end_of_number.result c.loop-row.rest.now c.split_at.result.0.now c.split_at.result.1.now
    c.split_at.ensures.by_index.0 c.split_at.ensures.front c.split_at.ensures.back
    (simp (to_z-of_z, fits) at c.end_of_number.ensures.before)
    (simp (to_z-of_z, fits) at c.end_of_number.ensures.after) in
    refused (into_iter_items c.args.rows) c.args.moved.now c.loop-row.entered.items row
    (into_iter_items c.next.new.self) c.loop-row.rest.now c.split_at.result.0.now c.split_at.result.1.now so cut
    (rw c.in_default.is at c.in_ok-receipt.ensures.none)

pub loop-row-preserved : goal.loop-row-preserved
loop-row-preserved c =
    let row = c.in-Some.row in
    let fits : FitsSigned w64 c.in-Some.row.seq = search rules in
    let next : into_iter_items c.loop-row.row-iterator ≡ c.in-Some.row ∷ into_iter_items c.next.new.self =
    search rules in
    let so = subst (λ l. SoFar (into_iter_items c.args.rows) c.args.moved.now c.loop-row.entered.items l
    c.loop-row.rest.now) next c.loop-row.invariant.so_far in
    let cut : IsCut c.in-Some.row.seq c.loop-row.rest.now c.split_at.result.0.now c.split_at.result.1.now =
    cut_at row.seq c.end_of_number.result c.loop-row.rest.now c.split_at.result.0.now c.split_at.result.1.now
    c.split_at.ensures.by_index.0 c.split_at.ensures.front c.split_at.ensures.back
    (simp (to_z-of_z, fits) at c.end_of_number.ensures.before)
    (simp (to_z-of_z, fits) at c.end_of_number.ensures.after) in
    let long : length (into_iter_items c.loop-row.row-iterator) ≡ suc (length (into_iter_items c.next.new.self)) =
    ap length next in
    record {
      long = omega (arith, long, c.loop-row.invariant.long, c.in-Some.ensures.steps.1);
      so_far = subst (λ l. SoFar (into_iter_items c.args.rows) c.args.moved.now l (into_iter_items c.next.new.self)
          c.split_at.result.1.now) (sym c.in_ok-push.ensures.items)
          (went_on (into_iter_items c.args.rows) c.args.moved.now c.loop-row.entered.items row
          (into_iter_items c.next.new.self) c.loop-row.rest.now c.split_at.result.0.now c.split_at.result.1.now
          c.in-Some-2.receipt so cut (rw c.in-Some-2.is at c.in_ok-receipt.ensures.some));
    }

pub returns-then-is_empty-clause-some : goal.returns-then-is_empty-clause-some
returns-then-is_empty-clause-some c =
    let inv = c.loop-row.invariant in
    let none : into_iter_items c.loop-row.row-iterator ≡ [] =
    none_long (into_iter_len c.loop-row.row-iterator) (into_iter_items c.loop-row.row-iterator) inv.long
    c.in-None.ensures.steps.0 in
    let nothing : c.loop-row.rest.now ≡ [] = none_there c.loop-row.rest.now
    (sym c.is_empty.ensures ∙ c.if-is_empty.true) in
    ended (into_iter_items c.args.rows) c.args.moved.now c.loop-row.entered.items
    (into_iter_items c.loop-row.row-iterator) c.loop-row.rest.now none nothing inv.so_far

pub returns-else-is_empty-clause-none : goal.returns-else-is_empty-clause-none
returns-else-is_empty-clause-none c =
    let inv = c.loop-row.invariant in
    let none : into_iter_items c.loop-row.row-iterator ≡ [] =
    none_long (into_iter_len c.loop-row.row-iterator) (into_iter_items c.loop-row.row-iterator) inv.long
    c.in-None.ensures.steps.0 in
    left_over (into_iter_items c.args.rows) c.args.moved.now c.loop-row.entered.items
    (into_iter_items c.loop-row.row-iterator) c.loop-row.rest.now none
    (sym c.is_empty.ensures ∙ c.if-is_empty.false) inv.so_far
