-- No number has a fraction.
use Rattle.view_json.proofs.Unfloated.{receipt_has_none, written}
use Rattle.view_json.proofs.ledgers.receipt_text.Goals as goal

pub returns : goal.returns
returns c = written _ _ _ c.in_ok-value.ensures (receipt_has_none c.args.receipt.now) c.in_ok-text.ensures.text
