-- An object more.
use Rattle.std.proofs.Common.{◌≡◌, rules}
use Rattle.serde_json.specs.Written.{compact_text}
use Rattle.view_json.specs.Ledgers.{receipt_data}
use Rattle.view_json.proofs.ledgers.put_receipt.Goals as goal

pub returns : goal.returns
returns c =
    let is : c.as_str.result.now ≡ compact_text (receipt_data c.args.receipt.now) = search rules in
    c.in_ok-put_object.ensures (receipt_data c.args.receipt.now) is
