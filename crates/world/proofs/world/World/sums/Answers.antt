-- The members are those of the world.
use Rattle.std.proofs.Common.{◌∙◌, sym, ap, subst}
use Rattle.world_members.specs.Members.{AreMembers}
use Rattle.world.proofs.world.World.sums.Goals as goal

pub returns : goal.returns
returns g c = λ w stands.
    let same = ap (λ s. s.members) c.self.view_is in
    c.sums_in.ensures w c.args.self.now.count (subst (λ ms. AreMembers g.S.Store ms c.args.self.now.count w)
    (sym (c.as_slice.ensures.value ∙ same)) stands.members)
