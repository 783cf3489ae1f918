-- What is kept of the items that were told, where the package is live.
use Rattle.std.proofs.Common.{◌∙◌, subst}
use Rattle.manifest_csv.specs.ByItems.{AreTold}
use Rattle.world.specs.Questions.{IsAnswer}
use Rattle.view_items.proofs.Found.{read_looked}
use Rattle.view_world.proofs.Looked.{looked_clean}
use Rattle.view_items.proofs.parts.parts_by_items.Goals as goal

pub returns-in_err-kept-clause-read : goal.returns-in_err-kept-clause-read
returns-in_err-kept-clause-read g c =
    read_looked g.S.Store c.args.world.now c.ask.new.self c.parts_told.new.world c.in_ok-told.ensures.read
    c.in_err-kept.ensures.read

pub returns-clause-read : goal.returns-clause-read
returns-clause-read g c =
    read_looked g.S.Store c.args.world.now c.ask.new.self c.parts_told.new.world c.in_ok-told.ensures.read
    c.in_ok-kept.ensures.read

pub returns-clause-told : goal.returns-clause-told
returns-clause-told g c = λ clean w stands.
    let before = looked_clean g.S.Store c.ask.new.self c.parts_told.new.world c.in_ok-kept.ensures.read clean in
    let now = c.in_ok-told.ensures.read.stands w stands in
    let told = subst (IsAnswer (λ p held. AreTold p held.0.items held.1.items) w c.args.package) c.in-Some.is
    (c.in_ok-told.ensures.told before w stands) in
    (c.in_ok-kept.ensures.kept clean w now (c.as_slice.ensures.value ∙ told.1.0), told.1.1)

pub returns-clause-opens : goal.returns-clause-opens
returns-clause-opens g c = λ clean was_open. c.in_ok-kept.ensures.opens clean (c.in_ok-told.ensures.opens
    (looked_clean g.S.Store c.ask.new.self c.parts_told.new.world c.in_ok-kept.ensures.read clean) was_open)

pub returns-clause-live : goal.returns-clause-live
returns-clause-live g c = λ clean w stands.
    let before = looked_clean g.S.Store c.ask.new.self c.parts_told.new.world c.in_ok-kept.ensures.read clean in
    let told = subst (IsAnswer (λ p held. AreTold p held.0.items held.1.items) w c.args.package) c.in-Some.is
    (c.in_ok-told.ensures.told before w stands) in
    told.0
