-- The look at the one member is its store's turn, and its package is in order, since it is one of a register.
use Rattle.std.proofs.Common.{◌≡◌, Some, slice_get, refl, subst}
use Rattle.std.proofs.lemmas.Option.{slice_get_read}
use Rattle.cut.specs.Taken.{IsCutOf}
use Rattle.world_queries.proofs.AskedOne.{looked_at}
use Rattle.world_queries.proofs.Questions.{asks_weaker}
use Rattle.world_decisions.proofs.SplitAsked.{cut_told}
use Rattle.world_decisions.proofs.deciding_splits.cut_at.Goals as goal

pub returns : goal.returns
returns g c =
    let place : slice_get c.args.members.now.items c.args.at ≡ Some c.index_mut-member.result.now =
    slice_get_read _ _ _ _ refl c.requires.within c.index_mut-member.ensures.value in
    asks_weaker g.S.Store c.select.result (λ answer w count are told same p there. cut_told g.S.Store
    c.args.members.now.items count c.args.at w c.args.frame.now c.args.mode c.args.rect.now answer are same told p
    there)
    (looked_at g.S.Store g.met.S.Store.shut_if_dirty g.met.S.Store.settled
    (λ f p answer. IsCutOf c.args.frame.now c.args.mode c.args.rect.now p answer) c.args.members.now.items _
    c.args.at c.select.result
    (record {
      was = c.index_mut-member.result.now;
      place = place;
      last = c.select.new.conn;
      others = refl;
      turned = c.select.ensures.selected;
    }) c.requires.rests
    (λ answer w p here told q there. let one : p ≡ q = cc in subst
    (λ x. IsCutOf c.args.frame.now c.args.mode c.args.rect.now x answer) one told))
