use Rattle.std.specs.Prelude.{string_bytes}
use Rattle.view_report.proofs.Texts.{onward}
use Rattle.view_report.proofs.ledgers.put_raw_line.Goals as goal

pub returns : goal.returns
returns c =
    onward (string_bytes c.args.text.now) _ _ (rw (c.as_str.ensures.value, c.in_ok-json.ensures) at
    c.in_ok-put_raw.ensures) c.in_ok-put.ensures
