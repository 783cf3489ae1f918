-- By the values of its ends.
use Rattle.std.proofs.Common.{◌∙◌, ap}
use Rattle.serde_json.specs.View.{view}
use Rattle.view_json.specs.Arrays.{end_data}
use Rattle.view_json.specs.Ways.{naming_object}
use Rattle.view_json.proofs.ways.naming_value.Goals as goal

pub returns : goal.returns
returns c =
    c.in_ok-value.ensures
    ∙ ap (λ it. naming_object c.args.receipt.now c.args.naming.now it (view c.in_ok-to.to)) c.in_ok-from.ensures
    ∙ ap (λ it. naming_object c.args.receipt.now c.args.naming.now (end_data c.args.receipt.now.source) it)
    c.in_ok-to.ensures
