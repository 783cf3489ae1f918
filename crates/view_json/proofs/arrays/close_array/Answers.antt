-- The end stands behind the objects.
use Rattle.std.proofs.Common.{◌∙◌, ◌++◌, ap}
use Rattle.std.specs.Prelude.{codes}
use Rattle.view_json.proofs.arrays.close_array.Goals as goal

pub returns : goal.returns
returns c = λ ds given. c.in_ok-push_str.ensures.bytes ∙ ap (λ t. t ++ codes "\n]\n") given.text
