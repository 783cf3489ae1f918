use Rattle.std.proofs.Common.{◌∙◌, ap}
use Rattle.std.specs.Option.{is_some}
use Rattle.sheet_types.specs.Answers.{sums_held}
use Rattle.sheet_types.specs.World.{holdings, is_live}
use Rattle.view_field.proofs.Lives.{some_where}
use Rattle.view_field.proofs.projects.is_live.Goals as goal

pub returns : goal.returns
returns g c = λ w stands.
    let p = c.args.«package» in
    c.is_some.ensures ∙ ap (λ sums. is_some sums) (c.sums.ensures w stands)
    ∙ some_where (is_live w p) (sums_held (holdings w p))
