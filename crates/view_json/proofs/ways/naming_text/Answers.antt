-- No number has a fraction.
use Rattle.view_json.proofs.Unfloated.{naming_has_none, written}
use Rattle.view_json.proofs.ways.naming_text.Goals as goal

pub returns : goal.returns
returns c =
    written _ _ _ c.in_ok-value.ensures (naming_has_none c.args.receipt.now c.args.naming.now) c.in_ok-text.ensures.text
