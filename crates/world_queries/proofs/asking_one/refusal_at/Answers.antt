-- The one member is judged by its package, which is that of the place.
use Rattle.std.proofs.Common.{◌≡◌, ◌∙◌, ap, sym, Some, slice_get, refl}
use Rattle.std.proofs.lemmas.Option.{slice_get_read}
use Rattle.sheet_types.specs.Matrix.{first_row}
use Rattle.world_members.specs.Reasons.{package_reasons}
use Rattle.world_queries.proofs.AskedOne.{judged_at}
use Rattle.world_queries.proofs.asking_one.refusal_at.Goals as goal

pub returns : goal.returns
returns g c =
    let place : slice_get c.args.members.now.items c.args.at ≡ Some c.index_mut-member.result.now =
    slice_get_read _ _ _ _ refl c.requires.within c.index_mut-member.ensures.value in
    judged_at g.S.Store g.met.S.Store.shut_if_dirty g.met.S.Store.settled
    (λ f p found. f ≡ c.args.frame.now → found ≡ first_row (package_reasons f p c.args.command.now))
    c.args.members.now.items _ c.args.at c.package_refusal.result
    (record {
      was = c.index_mut-member.result.now;
      place = place;
      last = c.package_refusal.new.conn;
      others = refl;
      turned = c.package_refusal.ensures;
    }) c.requires.rests
    (λ found w p here told same q there. let one : p ≡ q = cc in told (sym same)
    ∙ ap (λ x. first_row (package_reasons w.frame x c.args.command.now)) one)
