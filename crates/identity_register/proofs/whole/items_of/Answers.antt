-- The next content is of those placed, and is that of the row.
use Rattle.std.proofs.Common.{sym, ap, subst, refl, inl, inr, is_ok}
use Rattle.std.specs.Prelude.{Contains}
use Rattle.std.specs.Vec.Iter.{into_iter_items}
use Rattle.std.proofs.ResultArms.{chosen}
use Rattle.sheet_types.proofs.Same.{In, Contains-In}
use Rattle.identity_register.specs.Gathered.{IsItemOf}
use Rattle.identity_register.proofs.Finding.{contained}
use Rattle.identity_register.proofs.Gathering.{zip_more}
use Rattle.identity_register.proofs.whole.items_of.Goals as goal

pub loop-row-preserved : goal.loop-row-preserved
loop-row-preserved c =
    let placed = c.args.placed.items in
    let next = c.in-Some.next in
    let item = c.in_ok-item_at.field-0 in
    let here : Contains placed next = c.loop-row.invariant.left next
    (Contains-In next (into_iter_items c.loop-row.left)
    (subst (In next) (sym c.in-Some.ensures.items) (inl refl))) in
    let one : IsItemOf placed c.row-item.result item = record {
      identity = c.in_ok-item_at.ensures.identity;
      fit = c.in_ok-item_at.ensures.fit;
      content = subst (Contains placed) c.in_ok-item_at.ensures.content here;
    } in
    record {
      left = λ x h. c.loop-row.invariant.left x (Contains-In x (into_iter_items c.loop-row.left)
          (subst (In x) (sym c.in-Some.ensures.items) (inr (contained (into_iter_items c.next.new.self) x h))));
      zipped = zip_more (IsItemOf placed) c.args.rows.now c.loop-row.row-index c.row-item.result c.row-item.result
          c.loop-row.items.items c.push.new.self.items item c.loop-row-test.true c.row-item.is
          (chosen _ _ _ _ c.push.ensures.items (ap is_ok c.in_ok-push.was)) c.loop-row.invariant.zipped one;
    }
