-- A link leads nowhere, or two items have one number.
use Rattle.std.proofs.Common.{◌≡◌, ◌∙◌, ap, subst, map}
use Rattle.std.specs.Prelude.{bytes_eq}
use Rattle.std.specs.List.{IsDistinct, filter_map}
use Rattle.field_faults.specs.Files.{bad_in, held_key, link_in}
use Rattle.field_faults.proofs.Nones.{none_lead, one_twice}
use Rattle.field_faults.proofs.files.held_of.Goals as goal

pub returns-then-not-branch-clause-none : goal.returns-then-not-branch-clause-none
returns-then-not-branch-clause-none c = λ h.
    none_lead c.args.entries.items h c.as_slice-7.result.now c.as_slice-8.result.now c.as_slice-9.result.now
    c.in_ok-lead_unless_bad.field-0
    (c.as_slice-7.ensures.value ∙ c.in_ok-bad.ensures ∙ ap (filter_map bad_in) c.as_slice-6.ensures.value)
    (c.as_slice-8.ensures.value ∙ c.in_ok-items.ensures)
    (c.as_slice-9.ensures.value ∙ c.in_ok-links.ensures ∙ ap (filter_map link_in) c.as_slice-5.ensures.value)
    c.in_ok-lead_unless_bad.ensures c.if-not-branch.true

pub returns-in_default-in_order-clause-none : goal.returns-in_default-in_order-clause-none
returns-in_default-in_order-clause-none c = λ h.
    one_twice c.args.entries.items h
    (subst (λ l. IsDistinct bytes_eq (map held_key l) → ⊥) c.in_ok-items.ensures
    c.in_default-in_order.ensures.twice)
