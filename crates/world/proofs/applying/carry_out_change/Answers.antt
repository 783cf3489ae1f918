-- The turn says it all.
use Rattle.std.proofs.Common.{◌∙◌, ap, length, Err}
use Rattle.std.proofs.lemmas.List.{length-set}
use Rattle.world_changes.proofs.Surviving.{carried_survive}
use Rattle.world_changes.proofs.Writing.{carried_but}
use Rattle.world_members.proofs.Standing.{all_still}
use Rattle.world.proofs.ChangesMade.{turned_into, changes_failed, changes_done, unmade}
use Rattle.world.proofs.applying.carry_out_change.Goals as goal

pub returns-in_err-turn_at-clause-changes : goal.returns-in_err-turn_at-clause-changes
returns-in_err-turn_at-clause-changes g c =
    changes_failed g.S.Store c.args.change c.args.command.now c.args.members.now.items _ c.args.count.now
    c.in_err-turn_at.field-0.0 _ (turned_into _ _ c.from_residual.ensures.1)
    (carried_survive g.S.Store _ _ _ _ _ _ _ c.turn_at.ensures.turned)
    (carried_but g.S.Store _ _ _ _ _ _ _ (all_still g.S.Store g.met.S.Store.shut_if_dirty g.met.S.Store.settled
    c.args.members.now.items c.requires.rests) c.turn_at.ensures.turned) c.turn_at.ensures.rests
    c.turn_at.ensures.clean c.in_err-turn_at.ensures.undone c.turn_at.ensures.crash
    (λ fault is. c.in_err-turn_at.ensures.unharmed fault (ap Err is))

pub returns-clause-changes : goal.returns-clause-changes
returns-clause-changes g c =
    changes_done g.S.Store c.args.change c.args.command.now c.args.members.now.items _ c.args.count.now _
    (carried_survive g.S.Store _ _ _ _ _ _ _ c.turn_at.ensures.turned)
    (carried_but g.S.Store _ _ _ _ _ _ _ (all_still g.S.Store g.met.S.Store.shut_if_dirty g.met.S.Store.settled
    c.args.members.now.items c.requires.rests) c.turn_at.ensures.turned) c.turn_at.ensures.rests
    c.turn_at.ensures.clean c.requires.place.1 c.in_ok-turn_at.ensures.done c.turn_at.ensures.crash
    (λ clean. c.in_ok-turn_at.ensures.opens clean)

pub returns-in_err-turn_at-clause-long : goal.returns-in_err-turn_at-clause-long
returns-in_err-turn_at-clause-long g c = ap length c.turn_at.ensures.turned.others ∙ length-set _ _ _

pub returns-clause-long : goal.returns-clause-long
returns-clause-long g c = ap length c.turn_at.ensures.turned.others ∙ length-set _ _ _

pub returns-in_err-turn_at-clause-dated : goal.returns-in_err-turn_at-clause-dated
returns-in_err-turn_at-clause-dated g c = unmade _ _ _ (turned_into _ _ c.from_residual.ensures.1)

pub returns-clause-dated : goal.returns-clause-dated
returns-clause-dated g c = λ clean w are due. c.in_ok-turn_at.ensures.dated w c.args.count.now clean are due
