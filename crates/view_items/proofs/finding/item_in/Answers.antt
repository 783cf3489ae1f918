-- What was found of a live package is the item of the identity.
use Rattle.std.proofs.Common.{subst}
use Rattle.sheet_types.specs.World.{holdings}
use Rattle.manifest_csv.specs.ByItems.{IsItemOf}
use Rattle.world.specs.Questions.{IsAnswer}
use Rattle.view_items.proofs.finding.item_in.Goals as goal

pub returns-in-Some-Some-clause-told : goal.returns-in-Some-Some-clause-told
returns-in-Some-Some-clause-told g c = λ clean w stands.
    let told = c.in_ok-item.ensures.told clean w stands in
    let live = subst (IsAnswer (λ p found. IsItemOf p c.args.identity found) w c.args.package) c.in-Some-Some.is
    told in
    subst (IsItemOf (holdings w c.args.package) c.args.identity) c.in-Some-Some.field-0-is live.1

pub returns-in-Some-Some-clause-opens : goal.returns-in-Some-Some-clause-opens
returns-in-Some-Some-clause-opens g c = c.in_ok-item.ensures.opens
