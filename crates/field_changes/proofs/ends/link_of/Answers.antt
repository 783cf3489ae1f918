-- Both ends are there, or one is not.
use Rattle.std.proofs.Common.{rules, FitsSigned, w64, ap, ◌∙◌, Some, None}
use Rattle.std.specs.Prelude.{option_map}
use Rattle.std.specs.Option.{option_and_then}
use Rattle.std.proofs.lemmas.Int.{to_z-of_z}
use Rattle.sheet_types.specs.World.{base_kind, other_kind}
use Rattle.sheet_types.specs.Step.{relation}
use Rattle.field_changes.specs.Parts.{end_of}
use Rattle.field_changes.proofs.ends.link_of.Goals as goal

pub returns-in-Some-end_at : goal.returns-in-Some-end_at
returns-in-Some-end_at c = λ names holds.
    let l = c.args.link.now in
    let fits : FitsSigned w64 l.base = search rules in
    let fits_too : FitsSigned w64 l.other = search rules in
    let base = simp (to_z-of_z, fits, c.base_kind.ensures) at c.in-Some.ensures in
    let other = simp (to_z-of_z, fits_too, c.other_kind.ensures) at c.in-Some-end_at.ensures in
    ap Some c.new.ensures
    ∙ ap (option_map (λ o. relation l.mapping c.in-Some.base o)) (other ∙ holds (other_kind l.mapping) l.other)
    ∙ ap (option_and_then (λ b. option_map (λ o. relation l.mapping b o)
    (end_of names (other_kind l.mapping) l.other))) (base ∙ holds (base_kind l.mapping) l.base)

pub returns-in-None-end_at : goal.returns-in-None-end_at
returns-in-None-end_at c = λ names holds.
    let l = c.args.link.now in
    let fits : FitsSigned w64 l.base = search rules in
    let fits_too : FitsSigned w64 l.other = search rules in
    let base = simp (to_z-of_z, fits, c.base_kind.ensures) at c.in-Some.ensures in
    let other = simp (to_z-of_z, fits_too, c.other_kind.ensures) at c.in-None-end_at.ensures in
    ap (option_map (λ o. relation l.mapping c.in-Some.base o)) (other ∙ holds (other_kind l.mapping) l.other)
    ∙ ap (option_and_then (λ b. option_map (λ o. relation l.mapping b o)
    (end_of names (other_kind l.mapping) l.other))) (base ∙ holds (base_kind l.mapping) l.base)

pub returns-in-None : goal.returns-in-None
returns-in-None c = λ names holds.
    let l = c.args.link.now in
    let fits : FitsSigned w64 l.base = search rules in
    let base = simp (to_z-of_z, fits, c.base_kind.ensures) at c.in-None.ensures in
    ap (option_and_then (λ b. option_map (λ o. relation l.mapping b o) (end_of names (other_kind l.mapping) l.other)))
    (base ∙ holds (base_kind l.mapping) l.base)
