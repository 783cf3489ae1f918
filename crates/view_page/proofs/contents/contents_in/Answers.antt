-- What is kept of the items of the package is the things that it holds.
use Rattle.std.proofs.Common.{◌∙◌, ap, map}
use Rattle.view_page.proofs.Holding.{one_held}
use Rattle.view_page.specs.Registers.{tie_of}
use Rattle.view_page.proofs.contents.contents_in.Goals as goal

pub returns-clause-told : goal.returns-clause-told
returns-clause-told g c = λ clean w stands.
    let held = c.in_ok-things.ensures.told clean w stands in
    one_held w c.args.holder _ held.0
    (c.in_ok-ties.ensures ∙ ap (map (tie_of c.args.holder)) (c.as_slice.ensures.value ∙ held.1))
