-- No number has a fraction.
use Rattle.view_json.proofs.Unfloated.{package_has_none, written}
use Rattle.view_json.proofs.packages.package_text.Goals as goal

pub returns : goal.returns
returns c = written _ _ _ c.in_ok-value.ensures (package_has_none c.args.row.now) c.in_ok-text.ensures.text
