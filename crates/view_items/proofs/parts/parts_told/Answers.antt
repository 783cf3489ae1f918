-- One item more was found, and what is kept of it stands behind the rest.
use Rattle.std.proofs.Common.{◌≤◌, ◌∙◌, ap, arith, inr, length}
use Rattle.std.specs.Prelude.{flat_map}
use Rattle.sheet_types.specs.World.{holdings}
use Rattle.view_items.proofs.Found.{all_past, item_here, kept_more}
use Rattle.view_world.proofs.Looked.{looked_stands, looked_then}
use Rattle.view_items.proofs.parts.parts_told.Goals as goal

pub returns-in_err-item-clause-read : goal.returns-in_err-item-clause-read
returns-in_err-item-clause-read g c =
    looked_then g.S.Store c.args.world.now c.loop-moved.world c.item_in.new.world c.loop-moved.invariant.read
    (inr c.in_err-item.ensures.read)

pub returns-in_err-put-clause-read : goal.returns-in_err-put-clause-read
returns-in_err-put-clause-read g c =
    looked_then g.S.Store c.args.world.now c.loop-moved.world c.item_in.new.world c.loop-moved.invariant.read
    (inr c.in_ok-item.ensures.read)

pub loop-moved-preserved : goal.loop-moved-preserved
loop-moved-preserved g c = record {
  read = looked_then g.S.Store c.args.world.now c.loop-moved.world c.item_in.new.world c.loop-moved.invariant.read
      (inr c.in_ok-item.ensures.read);
  opens = λ clean was_open. c.in_ok-item.ensures.opens clean
      (c.loop-moved.invariant.opens (c.in_ok-item.ensures.read.clean clean) was_open);
  kept = λ clean w stands all.
      let items = (holdings w c.args.package).items in
      let now = looked_stands g.S.Store c.args.world.now c.loop-moved.world c.loop-moved.invariant.read w stands in
      let here = item_here (holdings w c.args.package) c.args.told.now c.loop-moved.moved-index c.moved-item.result
      c.in_ok-item.item all
      c.loop-moved-test.true c.moved-item.is (c.in_ok-item.ensures.told clean w now) in
      kept_more (g.P.Part.parts c.args.part.now) items c.loop-moved.moved-index c.in_ok-item.item
      c.loop-moved.kept.items c.put.new.kept.items here.0 here.1
      (c.loop-moved.invariant.kept (c.in_ok-item.ensures.read.clean clean) w stands all) c.in_ok-put.ensures;
}

pub returns-clause-kept : goal.returns-clause-kept
returns-clause-kept g c = λ clean w stands all.
    let items = (holdings w c.args.package).items in
    let past : length c.args.told.now ≤ c.loop-moved.moved-index = omega (arith, c.loop-moved-test.false) in
    c.loop-moved.invariant.kept clean w stands all
    ∙ ap (flat_map (g.P.Part.parts c.args.part.now)) (all_past items c.args.told.now c.loop-moved.moved-index all
    past)

pub returns-clause-opens : goal.returns-clause-opens
returns-clause-opens g c = c.loop-moved.invariant.opens
