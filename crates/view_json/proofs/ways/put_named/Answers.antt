-- An object more.
use Rattle.std.proofs.Common.{◌≡◌, rules}
use Rattle.serde_json.specs.Written.{compact_text}
use Rattle.view_json.specs.Ways.{naming_data}
use Rattle.view_json.proofs.ways.put_named.Goals as goal

pub returns : goal.returns
returns c =
    let is : c.as_str.result.now ≡ compact_text (naming_data c.args.receipt.now c.args.naming.now) = search rules in
    c.in_ok-put_object.ensures (naming_data c.args.receipt.now c.args.naming.now) is
