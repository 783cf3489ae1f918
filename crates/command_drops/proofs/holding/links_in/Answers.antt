-- The items and the links that were found are those of the package.
use Rattle.std.proofs.Common.{◌≡◌, Some, rules}
use Rattle.std.specs.Prelude.{option_map}
use Rattle.sheet_types.specs.Answers.{holdings_answer}
use Rattle.world.specs.Worlds.{StandsFor}
use Rattle.command_drops.proofs.Held.{links_told}
use Rattle.command_drops.proofs.holding.links_in.Goals as goal

pub returns-clause-told : goal.returns-clause-told
returns-clause-told g c = λ clean.
    links_told (StandsFor g.S.Store c.args.world.now) (λ found. option_map (λ v. v.items) found) c.args.holder
    c.args.id c.as_slice.result.now c.as_slice-2.result.now c.links_among.result
    (λ w stands.
    let told = c.in_ok-items.ensures.told clean w stands in
    let found : Some (c.as_slice.result.now, c.as_slice-2.result.now) ≡ holdings_answer w c.args.holder =
    search rules in
    found)
    c.links_among.ensures
