-- The member at the place is only read, and the child keeps what was selected of it.
use Rattle.std.proofs.Common.{arith, ◌≡◌, ◌∙◌, [], Some, slice_get, refl, ap, subst}
use Rattle.std.proofs.lemmas.Option.{slice_get_read}
use Rattle.sqlite.specs.Held.{state}
use Rattle.store_sql.specs.Staying.{Stays}
use Rattle.world_members.specs.Members.{TurnsAt}
use Rattle.sheet_types.specs.Texts.{is_moment}
use Rattle.identity_register.specs.Creation.{new_package}
use Rattle.world_changes.specs.Giving.{LeavesBlankOr}
use Rattle.world_changes.specs.Splits.{ReadsAsChild}
use Rattle.identity_register.specs.Calls.{HasLastChange}
use Rattle.world_changes.proofs.Dated.{child_dated}
use Rattle.world_changes.proofs.Lent.{asked_alone, loan_kept, unlent_left}
use Rattle.world_members.proofs.Standing.{all_still, turn_rests, turn_open, turn_clean, turn_stays}
use Rattle.world_changes.proofs.splitting.child_store.Goals as goal

pub returns-in_err-blank-clause-stay : goal.returns-in_err-blank-clause-stay
returns-in_err-blank-clause-stay g c = all_still g.S.Store g.met.S.Store.shut_if_dirty g.met.S.Store.settled
    c.args.members.now.items c.requires.rests

pub returns-in-Err-clause-rests : goal.returns-in-Err-clause-rests
returns-in-Err-clause-rests g c =
    let place : slice_get c.args.members.now.items c.args.due.now.at ≡ Some c.index_mut-member.result.now =
    slice_get_read _ _ _ _ refl c.requires.within c.index_mut-member.ensures.value in
    turn_rests g.S.Store c.args.members.now.items _ c.args.due.now.at {Turn = Stays}
    (record {
      was = c.index_mut-member.result.now;
      place = place;
      last = c.filled_store.new.source;
      others = refl;
      turned = c.filled_store.ensures.source;
    }) c.filled_store.ensures.source.rests c.requires.rests

pub returns-in-Err-clause-stay : goal.returns-in-Err-clause-stay
returns-in-Err-clause-stay g c =
    let place : slice_get c.args.members.now.items c.args.due.now.at ≡ Some c.index_mut-member.result.now =
    slice_get_read _ _ _ _ refl c.requires.within c.index_mut-member.ensures.value in
    turn_stays g.S.Store g.met.S.Store.shut_if_dirty g.met.S.Store.settled c.args.members.now.items _
    c.args.due.now.at {Turn = Stays} (record {
      was = c.index_mut-member.result.now;
      place = place;
      last = c.filled_store.new.source;
      others = refl;
      turned = c.filled_store.ensures.source;
    })
    c.filled_store.ensures.source c.requires.rests

pub returns-in-Ok-clause-rests : goal.returns-in-Ok-clause-rests
returns-in-Ok-clause-rests g c =
    let place : slice_get c.args.members.now.items c.args.due.now.at ≡ Some c.index_mut-member.result.now =
    slice_get_read _ _ _ _ refl c.requires.within c.index_mut-member.ensures.value in
    turn_rests g.S.Store c.args.members.now.items _ c.args.due.now.at {Turn = Stays}
    (record {
      was = c.index_mut-member.result.now;
      place = place;
      last = c.filled_store.new.source;
      others = refl;
      turned = c.filled_store.ensures.source;
    }) c.filled_store.ensures.source.rests c.requires.rests

pub returns-in-Ok-clause-stay : goal.returns-in-Ok-clause-stay
returns-in-Ok-clause-stay g c =
    let place : slice_get c.args.members.now.items c.args.due.now.at ≡ Some c.index_mut-member.result.now =
    slice_get_read _ _ _ _ refl c.requires.within c.index_mut-member.ensures.value in
    turn_stays g.S.Store g.met.S.Store.shut_if_dirty g.met.S.Store.settled c.args.members.now.items _
    c.args.due.now.at {Turn = Stays} (record {
      was = c.index_mut-member.result.now;
      place = place;
      last = c.filled_store.new.source;
      others = refl;
      turned = c.filled_store.ensures.source;
    })
    c.filled_store.ensures.source c.requires.rests

pub returns-in-Ok-clause-opens : goal.returns-in-Ok-clause-opens
returns-in-Ok-clause-opens g c clean was =
    let place : slice_get c.args.members.now.items c.args.due.now.at ≡ Some c.index_mut-member.result.now =
    slice_get_read _ _ _ _ refl c.requires.within c.index_mut-member.ensures.value in
    let turn : TurnsAt g.S.Store c.args.members.now.items _ c.args.due.now.at Stays =
    record {
      was = c.index_mut-member.result.now;
      place = place;
      last = c.filled_store.new.source;
      others = refl;
      turned = c.filled_store.ensures.source;
    } in
    turn_open g.S.Store c.args.members.now.items _ c.args.due.now.at turn
    (λ opened. c.in-Ok.ensures.opens (turn_clean g.S.Store c.args.members.now.items _ c.args.due.now.at turn
    clean)) was

pub returns-in-Ok-clause-keeps : goal.returns-in-Ok-clause-keeps
returns-in-Ok-clause-keeps g c clean w next count same are lent disk =
    let place : slice_get c.args.members.now.items c.args.due.now.at ≡ Some c.index_mut-member.result.now =
    slice_get_read _ _ _ _ refl c.requires.within c.index_mut-member.ensures.value in
    let turn : TurnsAt g.S.Store c.args.members.now.items _ c.args.due.now.at Stays =
    record {
      was = c.index_mut-member.result.now;
      place = place;
      last = c.filled_store.new.source;
      others = refl;
      turned = c.filled_store.ensures.source;
    } in
    let source = turn_clean g.S.Store c.args.members.now.items _ c.args.due.now.at turn clean in
    loan_kept g.S.Store c.args.frame.now w next count c.args.due.now c.args.members.now.items
    c.index_mut-member.result.now c.in-Ok.child place (c.filled_store.ensures.source.was_open
    (c.in-Ok.ensures.opens source)) same are lent (λ moment. c.in-Ok.ensures.made disk source
    (ap is_moment c.as_str.ensures ∙ moment))

pub returns-in_err-blank-clause-uses : goal.returns-in_err-blank-clause-uses
returns-in_err-blank-clause-uses g c =
    asked_alone g.S.Store g.H.Shelf.takes g.H.Shelf.asks c.args.frame.now c.args.due.now c.args.members.now.items
    c.args.members.now.items _ _ c.args.shelf.now c.blank_store.new.shelf c.from_residual.ensures.1
    c.in_err-blank.ensures.unshelved c.blank_store.ensures.asks

pub returns-in-Err-clause-uses : goal.returns-in-Err-clause-uses
returns-in-Err-clause-uses g c =
    let place : slice_get c.args.members.now.items c.args.due.now.at ≡ Some c.index_mut-member.result.now =
    slice_get_read _ _ _ _ refl c.requires.within c.index_mut-member.ensures.value in
    let turn : TurnsAt g.S.Store c.args.members.now.items _ c.args.due.now.at Stays =
    record {
      was = c.index_mut-member.result.now;
      place = place;
      last = c.filled_store.new.source;
      others = refl;
      turned = c.filled_store.ensures.source;
    } in
    let due = c.args.due.now in
    let left = subst (λ at. LeavesBlankOr g.S.Store (ReadsAsChild c.args.frame.now at
    (new_package due.child (Some due.parent) due.depth due.receipt.seq) due.selection
    (state g.S.Store c.index_mut-member.result.now.conn).now (state g.S.Store c.filled_store.new.source))
    c.in-Err.unmade.conn) c.as_str.ensures c.in-Err.ensures.left in (
      c.blank_store.new.shelf,
      c.blank_store.ensures.asks,
      (
        c.in-Err.unmade.conn,
        unlent_left g.S.Store c.args.frame.now due c.args.members.now.items _ c.index_mut-member.result.now
            (state g.S.Store c.filled_store.new.source) c.in-Err.unmade.conn place
            (turn_clean g.S.Store c.args.members.now.items _ c.args.due.now.at turn) left,
        (c.into_store.result, c.into_store.ensures.quiet, c.retire.ensures.takes),
      ),
    )

pub returns-in-Ok-clause-dated : goal.returns-in-Ok-clause-dated
returns-in-Ok-clause-dated g c clean w next count same are lent disk =
    let place : slice_get c.args.members.now.items c.args.due.now.at ≡ Some c.index_mut-member.result.now =
    slice_get_read _ _ _ _ refl c.requires.within c.index_mut-member.ensures.value in
    let turn : TurnsAt g.S.Store c.args.members.now.items _ c.args.due.now.at Stays =
    record {
      was = c.index_mut-member.result.now;
      place = place;
      last = c.filled_store.new.source;
      others = refl;
      turned = c.filled_store.ensures.source;
    } in
    let source = turn_clean g.S.Store c.args.members.now.items _ c.args.due.now.at turn clean in
    child_dated g.S.Store c.args.frame.now w next count c.args.due.now c.args.members.now.items
    c.index_mut-member.result.now c.in-Ok.child place (c.filled_store.ensures.source.was_open
    (c.in-Ok.ensures.opens source)) same are lent (λ moment taken from selected reads part come.
    subst (λ at. HasLastChange c.args.frame.now at (state g.S.Store c.in-Ok.child).now) c.as_str.ensures
    (c.in-Ok.ensures.dated disk source (ap is_moment c.as_str.ensures ∙ moment) taken from selected reads part come))
