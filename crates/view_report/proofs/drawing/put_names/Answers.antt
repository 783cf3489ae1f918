use Rattle.std.specs.Prelude.{string_bytes}
use Rattle.view_report.specs.Drawing.{name_if}
use Rattle.view_report.proofs.Texts.{one_more}
use Rattle.view_report.proofs.drawing.put_names.Goals as goal

pub loop-thing-preserved : goal.loop-thing-preserved
loop-thing-preserved c =
    one_more (name_if c.args.names.now c.args.level.now) c.args.things.now c.loop-thing.thing-index
    c.thing-item.result (string_bytes c.args.text.now) c.loop-thing-test.true
    c.thing-item.is c.loop-thing.invariant c.in_ok-put_name_if.ensures
