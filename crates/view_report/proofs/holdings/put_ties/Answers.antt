use Rattle.std.specs.Prelude.{string_bytes}
use Rattle.view_report.specs.Holdings.{tie_if}
use Rattle.view_report.proofs.Texts.{one_more}
use Rattle.view_report.proofs.holdings.put_ties.Goals as goal

pub loop-tie-preserved : goal.loop-tie-preserved
loop-tie-preserved c =
    one_more (tie_if c.args.register.now c.args.holder) c.args.ties.now c.loop-tie.tie-index c.tie-item.result
    (string_bytes c.args.text.now) c.loop-tie-test.true
    c.tie-item.is c.loop-tie.invariant c.in_ok-put_tie_if.ensures
