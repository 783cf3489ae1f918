-- The store of one member takes a turn, and the lemmas say what all members stand for.
use Rattle.std.proofs.Common.{◌≡◌, Some, Result, Ok, Err, IsErrAnd, slice_get, refl, ap}
use Rattle.package_tables.specs.declared.fault.Fault.{Fault}
use Rattle.register_lending.specs.declared.turn_fault.TurnFault.{TurnFault}
use Rattle.register_lending.specs.declared.turn_fault.TurnFault.TheVariants.{Before}
use Rattle.std.proofs.lemmas.Option.{slice_get_read}
use Rattle.world_members.proofs.Changing.{failed_at, undone_so, done_members, clean_turn, turned_open, crash_members}
use Rattle.world_members.proofs.Changing.{unharmed_at}
use Rattle.world_changes.proofs.Dated.{turned_dated}
use Rattle.world_changes.proofs.turning.turn_at.Goals as goal

-- an error that is handed on is the one that came
same_error : {X : Type 0} (r : Result X TurnFault) (came : TurnFault) (fault : Fault)
    → IsErrAnd r (λ turn. turn ≡ came) → r ≡ Err (Before fault) → came ≡ Before fault
same_error (Ok x) came fault told is = absurd (let t = told in cc)
same_error (Err turn) came fault told is = let t = told in cc

pub returns-in_err-apply_to_package-clause-turned : goal.returns-in_err-apply_to_package-clause-turned
returns-in_err-apply_to_package-clause-turned g c =
    let place : slice_get c.args.members.now.items c.args.at ≡ Some c.index_mut-member.result.now =
    slice_get_read _ _ _ _ refl c.requires.within c.index_mut-member.ensures.value in
    let t = c.in_err-apply_to_package.ensures in
    failed_at g.S.Store g.met.S.Store.shut_if_dirty c.args.receipt.now c.args.command.now c.args.sums
    c.args.members.now.items c.args.at c.index_mut-member.result.now c.apply_to_package.new.conn _
    c.from_residual.result c.from_residual.ensures.0 place
    (record { turns = t.turns; was_open = t.was_open })

pub returns-in_err-apply_to_package-clause-undone : goal.returns-in_err-apply_to_package-clause-undone
returns-in_err-apply_to_package-clause-undone g c =
    undone_so g.S.Store g.met.S.Store.shut_if_dirty c.args.receipt.now c.args.command.now c.args.sums
    c.args.members.now.items _ c.args.at c.from_residual.result
    (returns-in_err-apply_to_package-clause-turned g c)

pub returns-in_err-apply_to_package-clause-crash : goal.returns-in_err-apply_to_package-clause-crash
returns-in_err-apply_to_package-clause-crash g c =
    crash_members g.S.Store g.met.S.Store.shut_if_dirty g.met.S.Store.settled c.args.receipt.now c.args.command.now
    c.args.sums c.args.members.now.items _ c.args.at c.from_residual.result
    (returns-in_err-apply_to_package-clause-turned g c) c.requires.rests

pub returns-clause-turned : goal.returns-clause-turned
returns-clause-turned g c =
    let place : slice_get c.args.members.now.items c.args.at ≡ Some c.index_mut-member.result.now =
    slice_get_read _ _ _ _ refl c.requires.within c.index_mut-member.ensures.value in
    let t = c.in_ok-apply_to_package.ensures in
    record {
      was = c.index_mut-member.result.now;
      place = place;
      last = c.apply_to_package.new.conn;
      others = refl;
      turn = record { turns = t.turns; was_open = t.was_open };
    }

pub returns-clause-done : goal.returns-clause-done
returns-clause-done g c = done_members g.S.Store g.met.S.Store.shut_if_dirty c.args.receipt.now c.args.command.now
    c.args.sums c.args.members.now.items _ c.args.at (returns-clause-turned g c)

pub returns-clause-crash : goal.returns-clause-crash
returns-clause-crash g c =
    crash_members g.S.Store g.met.S.Store.shut_if_dirty g.met.S.Store.settled c.args.receipt.now c.args.command.now
    c.args.sums c.args.members.now.items _ c.args.at (Ok tt) (returns-clause-turned g c) c.requires.rests

pub returns-in_err-apply_to_package-clause-clean : goal.returns-in_err-apply_to_package-clause-clean
returns-in_err-apply_to_package-clause-clean g c =
    clean_turn g.S.Store g.met.S.Store.shut_if_dirty g.met.S.Store.settled c.args.receipt.now c.args.command.now
    c.args.sums c.args.members.now.items _ c.args.at c.from_residual.result
    (returns-in_err-apply_to_package-clause-turned g c)

pub returns-clause-clean : goal.returns-clause-clean
returns-clause-clean g c =
    clean_turn g.S.Store g.met.S.Store.shut_if_dirty g.met.S.Store.settled c.args.receipt.now c.args.command.now
    c.args.sums c.args.members.now.items _ c.args.at (Ok tt) (returns-clause-turned g c)

pub returns-clause-opens : goal.returns-clause-opens
returns-clause-opens g c = turned_open g.S.Store g.met.S.Store.shut_if_dirty g.met.S.Store.settled c.args.receipt.now
    c.args.command.now c.args.sums c.args.members.now.items _ c.args.at (returns-clause-turned g c)

pub returns-in_err-apply_to_package-clause-unharmed : goal.returns-in_err-apply_to_package-clause-unharmed
returns-in_err-apply_to_package-clause-unharmed g c fault is =
    let place : slice_get c.args.members.now.items c.args.at ≡ Some c.index_mut-member.result.now =
    slice_get_read _ _ _ _ refl c.requires.within c.index_mut-member.ensures.value in
    unharmed_at g.S.Store g.met.S.Store.shut_if_dirty g.met.S.Store.settled c.args.members.now.items c.args.at
    c.index_mut-member.result.now c.apply_to_package.new.conn place c.requires.rests
    (c.in_err-apply_to_package.ensures.unharmed fault (ap Err
    (same_error _ _ fault c.from_residual.ensures.1 is)))

pub returns-clause-dated : goal.returns-clause-dated
returns-clause-dated g c =
    let place : slice_get c.args.members.now.items c.args.at ≡ Some c.index_mut-member.result.now =
    slice_get_read _ _ _ _ refl c.requires.within c.index_mut-member.ensures.value in
    let t = c.in_ok-apply_to_package.ensures in
    turned_dated g.S.Store {E = TurnFault} c.args.receipt.now c.args.command.now c.args.sums
    c.args.members.now.items c.args.at c.index_mut-member.result.now
    (record c.index_mut-member.result.now {
      conn = c.apply_to_package.new.conn;
      sums = c.args.sums;
      ticket = c.args.receipt.now.seq;
    }) place refl t.was_open t.dated
