-- What is kept of the member is what its package has.
use Rattle.std.proofs.Common.{◌≡◌, Some, slice_get, refl}
use Rattle.std.proofs.lemmas.Option.{slice_get_read}
use Rattle.world_decisions.proofs.SplitAsked.{lender_told}
use Rattle.world_decisions.proofs.deciding_splits.lender_at.Goals as goal

pub returns-clause-kept : goal.returns-clause-kept
returns-clause-kept g c =
    let place : slice_get c.args.members.now c.args.at ≡ Some c.index-members-at.result =
    slice_get_read _ _ _ _ refl c.requires.within c.index-members-at.is in
    λ w count p are there. lender_told g.S.Store c.args.members.now count c.args.at w p c.index-members-at.result are
    place there
