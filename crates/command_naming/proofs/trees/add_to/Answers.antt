-- The items that were read are those of the package.
use Rattle.std.proofs.Common.{◌≡◌, Some, inr, rules}
use Rattle.sheet_types.specs.Answers.{holdings_answer}
use Rattle.command_requests.proofs.Listed.{held_items}
use Rattle.command_naming.proofs.trees.add_to.Goals as goal

pub returns-in-Ok-Some : goal.returns-in-Ok-Some
returns-in-Ok-Some g c = record {
  items = c.as_slice-items.result.now;
  read = c.holdings.new.self;
  untouched = inr c.in-Ok-Some.ensures.read;
  held = λ clean w stands.
      let told = c.in-Ok-Some.ensures.told clean w stands in
      let found : Some (c.as_slice-items.result.now, c.in-Ok-Some._links.items)
      ≡ holdings_answer w c.args.target.now.«package» = search rules in
      held_items w c.args.target.now.«package» c.as_slice-items.result.now c.in-Ok-Some._links.items found;
  added = c.add_files-outcome.ensures;
}
