-- What was found of a live package is what it holds.
use Rattle.std.proofs.Common.{◌≡◌, ◌∙◌, Some, ap, rules}
use Rattle.std.specs.Prelude.{flat_map}
use Rattle.sheet_types.specs.Answers.{holdings_answer}
use Rattle.view_items.proofs.Found.{held_found, live_found}
use Rattle.view_items.proofs.parts.parts_at_once.Goals as goal

pub returns-clause-told : goal.returns-clause-told
returns-clause-told g c = λ clean w stands.
    let told = c.in_ok-items.ensures.told clean w stands in
    let found : Some (c.as_slice.result.now, c.in-Some.links.items) ≡ holdings_answer w c.args.package =
    search rules in
    let held = held_found w c.args.package c.as_slice.result.now c.in-Some.links.items found in
    (c.in_ok-kept.ensures ∙ ap (flat_map (g.P.Part.parts c.args.part.now)) held.0, held.1)

pub returns-clause-opens : goal.returns-clause-opens
returns-clause-opens g c = c.in_ok-items.ensures.opens

pub returns-clause-live : goal.returns-clause-live
returns-clause-live g c = λ clean w stands.
    let told = c.in_ok-items.ensures.told clean w stands in
    let found : Some (c.as_slice.result.now, c.in-Some.links.items) ≡ holdings_answer w c.args.package =
    search rules in
    live_found w c.args.package c.as_slice.result.now c.in-Some.links.items found
