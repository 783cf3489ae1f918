-- A link is there where its state says so.
use Rattle.std.proofs.Common.{◌≡◌, ◌∙◌, ap, sym, inl, inr, false}
use Rattle.identity_register.specs.Answers.{link_state}
use Rattle.identity_register.proofs.Looking.{sees_so}
use Rattle.identity_register.proofs.Ends.{is_there, link_told}
use Rattle.identity_register.proofs.look_ups.has_link.Goals as goal

pub returns-in-There : goal.returns-in-There
returns-in-There g c =
    sees_so (λ f p state. state ≡ link_state p c.args.relation) c.in_ok-link_state.was c.link_state.ensures.told
    (λ f p t says told. ap is_there (sym c.in-There.is ∙ told)
    ∙ link_told f p t says c.args.relation c.link_state.ensures.fit)

pub returns-in-UnknownEnd : goal.returns-in-UnknownEnd
returns-in-UnknownEnd g c =
    let absent : is_there c.in_ok-link_state.field-0 ≡ false =
    elim c.in-UnknownEnd.is [
      | inl e ↦ ap is_there e
      | inr (inl e) ↦ ap is_there e
      | inr (inr e)
          ↦ ap is_there e
    ] in
    sees_so (λ f p state. state ≡ link_state p c.args.relation) c.in_ok-link_state.was c.link_state.ensures.told
    (λ f p t says told. sym absent ∙ ap is_there told ∙ link_told f p t says c.args.relation
    c.link_state.ensures.fit)
