use Rattle.std.proofs.Common.{◌∷◌, [], subst, take}
use Rattle.cut.specs.Gathering.{Enters}
use Rattle.cut.proofs.Lists.{taken_more, taken_all}
use Rattle.cut.proofs.Members.{enters_nobody, enters_then}
use Rattle.cut.proofs.group.Group.enter_all.Goals as goal

pub loop-id-init : goal.loop-id-init
loop-id-init c = enters_nobody c.args.self.now c.requires

pub enter-requires : goal.enter-requires
enter-requires c = c.loop-id.invariant.same

pub loop-id-preserved : goal.loop-id-preserved
loop-id-preserved c =
    subst (λ ids. Enters ids c.args.self.now c.enter.new.self)
    (taken_more c.args.ids.now c.loop-id.id-index c.id-item.result c.loop-id-test.true c.id-item.is)
    (enters_then (take c.loop-id.id-index c.args.ids.now) (c.id-item.result ∷ []) c.args.self.now c.loop-id.self
    c.enter.new.self c.loop-id.invariant c.in_ok-enter.ensures)

pub returns : goal.returns
returns c = subst (λ ids. Enters ids c.args.self.now c.loop-id.self)
    (taken_all c.args.ids.now c.loop-id.id-index c.loop-id.auto.id-index-end c.loop-id-test.false) c.loop-id.invariant
