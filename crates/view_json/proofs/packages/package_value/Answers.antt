-- By the values of its last change and of its parent.
use Rattle.std.proofs.Common.{◌∙◌, ap}
use Rattle.serde_json.specs.View.{view}
use Rattle.view_json.specs.Arrays.{text_or_null}
use Rattle.view_json.specs.Packages.{package_object}
use Rattle.view_json.proofs.packages.package_value.Goals as goal

pub returns : goal.returns
returns c =
    c.in_ok-value.ensures
    ∙ ap (λ it. package_object c.args.row.now it (view c.in_ok-parent.parent)) c.in_ok-changed.ensures
    ∙ ap (λ it. package_object c.args.row.now (text_or_null c.args.row.now.changed) it) c.in_ok-parent.ensures
