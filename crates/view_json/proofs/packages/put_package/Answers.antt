-- An object more.
use Rattle.std.proofs.Common.{◌≡◌, rules}
use Rattle.serde_json.specs.Written.{compact_text}
use Rattle.view_json.specs.Packages.{package_data}
use Rattle.view_json.proofs.packages.put_package.Goals as goal

pub returns : goal.returns
returns c =
    let is : c.as_str.result.now ≡ compact_text (package_data c.args.row.now) = search rules in
    c.in_ok-put_object.ensures (package_data c.args.row.now) is
