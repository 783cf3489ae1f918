use Rattle.std.specs.Prelude.{string_bytes}
use Rattle.view_report.proofs.Texts.{onward}
use Rattle.view_loan.proofs.pages.put_end.Goals as goal

pub returns : goal.returns
returns c =
    onward (string_bytes c.args.text.now) _ _ c.in_ok-put_map.ensures c.in_ok-put.ensures
