-- An object more.
use Rattle.std.proofs.Common.{◌≡◌, rules}
use Rattle.serde_json.specs.Written.{compact_text}
use Rattle.view_json.specs.Packages.{strays_data}
use Rattle.view_json.proofs.packages.put_strays.Goals as goal

pub returns : goal.returns
returns c =
    let is : c.as_str.result.now ≡ compact_text (strays_data c.args.strays) = search rules in
    c.in_ok-put_object.ensures (strays_data c.args.strays) is
