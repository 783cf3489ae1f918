use Rattle.std.specs.Prelude.{string_bytes}
use Rattle.view_report.specs.Holdings.{holding_text}
use Rattle.view_report.proofs.Texts.{one_more}
use Rattle.view_report.proofs.holdings.put_holdings.Goals as goal

pub loop-live-preserved : goal.loop-live-preserved
loop-live-preserved c =
    one_more (holding_text c.args.register.now) c.args.packages.now c.loop-live.live-index c.live-item.result
    (string_bytes c.args.text.now) c.loop-live-test.true
    c.live-item.is c.loop-live.invariant c.in_ok-put_holding.ensures
