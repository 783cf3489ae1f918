use Rattle.std.specs.Prelude.{string_bytes}
use Rattle.view_report.specs.Holdings.{thing_if}
use Rattle.view_report.proofs.Texts.{one_more}
use Rattle.view_report.proofs.holdings.put_items.Goals as goal

pub loop-thing-preserved : goal.loop-thing-preserved
loop-thing-preserved c =
    one_more (thing_if c.args.register.now c.args.holder) c.args.things.now c.loop-thing.thing-index
    c.thing-item.result (string_bytes c.args.text.now) c.loop-thing-test.true
    c.thing-item.is c.loop-thing.invariant c.in_ok-put_item_if.ensures
