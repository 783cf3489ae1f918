use Rattle.std.proofs.Common.{rules, refl, ap, ◌∙◌}
use Rattle.std.specs.Prelude.{bytes_eq, filter}
use Rattle.std.proofs.lemmas.Fn.{filter_same}
use Rattle.view_loan.proofs.pages.only.Goals as goal

pub returns : goal.returns
returns c = record {
  frame = refl;
  packages = refl;
  names = refl;
  things = c.in_ok-kept.ensures ∙ filter_same _ _ _ (λ x b f' k. search rules) _ _ c.retain.ensures.filtered
      ∙ ap (filter (λ t. bytes_eq t.holder c.args.holder)) c.into_vec-held.ensures;
}
