-- Its package has a member, of which the sums are kept, or has none.
use Rattle.std.proofs.Common.{◌≡◌, ◌∙◌, refl, sym, ap, Some, slice_get}
use Rattle.std.proofs.lemmas.Option.{slice_get_read}
use Rattle.world_members.specs.declared.members.Member.{Member}
use Rattle.world.proofs.Sights.{sums_there, sums_nowhere}
use Rattle.world.proofs.reading.sums_in.Goals as goal

pub returns-in-Some : goal.returns-in-Some
returns-in-Some g c = λ w count are.
    let place : slice_get c.args.members.now c.in-Some.at ≡ Some c.index-members-at.result =
    slice_get_read _ _ _ _ refl c.in-Some.ensures.within c.index-members-at.is in
    ap (λ (m : Member g.row.S.Denot). Some m.sums) (sym c.index-members-at.is)
    ∙ sums_there g.S.Store c.args.members.now c.args.package c.in-Some.at c.index-members-at.result
    c.in-Some.ensures place w count are

pub returns-in-None : goal.returns-in-None
returns-in-None g c = λ w count are. sums_nowhere g.S.Store c.args.members.now c.args.package c.in-None.ensures w
    count are
