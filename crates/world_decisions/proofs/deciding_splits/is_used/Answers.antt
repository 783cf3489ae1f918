-- The members tell of the archive, and else it is asked whether it was a loan.
use Rattle.std.proofs.Common.{◌≡◌, ◌∙◌, ◌&&◌, sym, subst, bytes_eq, false, true}
use Rattle.std.specs.Prelude.{is_none}
use Rattle.std.specs.List.{list_any}
use Rattle.world_members.specs.declared.members.Member.{Member}
use Rattle.world_queries.proofs.Questions.{asks_weaker, asks_still}
use Rattle.world_decisions.proofs.SplitAsked.{used_by_archive, used_by_loan}
use Rattle.world_decisions.proofs.deciding_splits.is_used.Goals as goal

pub returns-then-is_of_archive : goal.returns-then-is_of_archive
returns-then-is_of_archive g c =
    let found : list_any (λ (m : Member g.row.S.Denot). is_none m.parent && bytes_eq m.uuid c.args.id)
    c.args.members.now.items ≡ true =
    subst (λ ms. list_any (λ (m : Member g.row.S.Denot). is_none m.parent && bytes_eq m.uuid c.args.id) ms ≡ true)
    c.as_slice.ensures.value (sym c.is_of_archive.ensures ∙ c.if-is_of_archive.true) in
    asks_still g.S.Store g.met.S.Store.shut_if_dirty g.met.S.Store.settled c.requires
    (λ w count are knows. used_by_archive g.S.Store c.args.members.now.items count w c.args.id are found)

pub returns : goal.returns
returns g c =
    let none : list_any (λ (m : Member g.row.S.Denot). is_none m.parent && bytes_eq m.uuid c.args.id)
    c.args.members.now.items ≡ false =
    subst (λ ms. list_any (λ (m : Member g.row.S.Denot). is_none m.parent && bytes_eq m.uuid c.args.id) ms ≡ false)
    c.as_slice.ensures.value (sym c.is_of_archive.ensures ∙ c.if-is_of_archive.false) in
    asks_weaker g.S.Store _ (λ lent w count are told knows. used_by_loan g.S.Store c.args.members.now.items count w
    c.args.id are lent none (told knows)) c.was_ever_lent.ensures
