-- What was decided, and where something was due what became of it.
use Rattle.std.proofs.Common.{◌≡◌, ◌∙◌, refl, sym, ap, subst, arith, [], Result, IfOk, Ok, Err, None, Some}
use Rattle.sheet_types.specs.declared.receipt.Receipt.{Receipt}
use Rattle.sheet_types.specs.declared.refusal.Refusal.{Refusal}
use Rattle.world_changes.specs.Carries.{ServesAll, OfEachSeen}
use Rattle.world_members.specs.Members.{AllClean, AllOpen}
use Rattle.world.specs.Asked.{IsNoPackage, ServesChild, child_returned}
use Rattle.world_changes.specs.Leaving.{IsChildBeside}
use Rattle.world_decisions.specs.Deciding.{HasPlace, IsNoted}
use Rattle.register_lending.specs.declared.turn_fault.TurnFault.TheVariants.{Before}
use Rattle.world_loans.specs.declared.loans.ServeFault.{ServeFault}
use Rattle.world_loans.specs.declared.loans.ServeFault.TheVariants.{Turn}
use Rattle.world_decisions.specs.Deciding.{child_asked, Makes}
use Rattle.world.proofs.Asks.{asks_due}
use Rattle.world.proofs.Settled.{asked_of_child, child_merged, child_split, child_unasked, child_unsplit}
use Rattle.world.proofs.ServedAll.{split_apart, unlent_seen, all_undecided, all_answered, change_served}
use Rattle.world.proofs.ServedAll.{change_failed, split_served, split_failed, merge_served, merge_failed, merge_with}
use Rattle.world.proofs.ServedAll.{with_asked, with_nothing, none_gone, counts_turn, counts_handed}
use Rattle.world.proofs.ChangesMade.{turned_into}
use Rattle.world.proofs.Dated.{change_dated, change_tried, merge_dated, merge_tried, none_left_clean, split_dated}
use Rattle.world.proofs.Dated.{split_tried, unreceived, untried}
use Rattle.world_changes.proofs.Writing.{asked_written, none_written, one_written, written_since}
use Rattle.world_members.proofs.Standing.{stay_length}
use Rattle.world.proofs.applying.serve.Goals as goal

pub returns-in_err-reply-clause-serves : goal.returns-in_err-reply-clause-serves
returns-in_err-reply-clause-serves g c =
    let told = turned_into _ _ c.from_residual.ensures.1 in
    let all = subst (ServesAll g.S.Store c.args.frame.now c.args.request.now c.args.members.now.items
    c.decide_and_note.new.members.items c.args.strays.now.items c.args.known.now c.decide_and_note.new.known
    c.args.count.now c.args.count.now) (sym (turned_into _ _ c.from_residual.ensures.1))
    (all_undecided g.S.Store g.met.S.Store.shut_if_dirty g.met.S.Store.settled c.args.frame.now c.args.request.now
    c.args.members.now.items c.decide_and_note.new.members.items c.args.known.now c.decide_and_note.new.known
    c.decide_and_note.ensures.grows c.requires.rests c.args.count.now c.requires.counted
    c.decide_and_note.ensures.asks c.args.strays.now.items (Turn (Before c.in_err-reply.field-0.0))
    c.requires.none tt) in
    with_nothing g.S.Store g.H.Shelf.asks g.H.Shelf.takes c.args.shelf.now all
    (none_gone g.S.Store g.H.Shelf.asks g.H.Shelf.takes told all)
    (none_written g.S.Store (child_asked c.args.request.now.command) (child_returned c.args.request.now.command)
    c.args.members.now.items c.decide_and_note.new.members.items c.decide_and_note.ensures.asks.stay)
    (λ clean gone receipt is. absurd (unreceived _ _ _ told is))

pub returns-in-Answered-clause-serves : goal.returns-in-Answered-clause-serves
returns-in-Answered-clause-serves g c =
    let both = all_answered g.S.Store g.met.S.Store.shut_if_dirty g.met.S.Store.settled c.args.frame.now
    c.args.request.now c.args.members.now.items c.decide_and_note.new.members.items c.args.known.now
    c.decide_and_note.new.known c.decide_and_note.ensures.grows c.requires.rests c.args.count.now
    c.requires.counted c.decide_and_note.ensures.asks c.args.strays.now.items c.in-Answered.reply
    c.requires.none (c.in_ok-reply.was ∙ ap Ok c.in-Answered.is) in
    with_nothing g.S.Store g.H.Shelf.asks g.H.Shelf.takes c.args.shelf.now both.0 both.1
    (none_written g.S.Store (child_asked c.args.request.now.command) (child_returned c.args.request.now.command)
    c.args.members.now.items c.decide_and_note.new.members.items c.decide_and_note.ensures.asks.stay)
    (λ clean gone receipt is more. absurd (more refl))

pub returns-in_err-receipt-in-ChangeDue-clause-serves : goal.returns-in_err-receipt-in-ChangeDue-clause-serves
returns-in_err-receipt-in-ChangeDue-clause-serves g c =
    let told = turned_into _ _ c.from_residual-in_err-receipt-in-ChangeDue.ensures.1 in
    let all = subst (ServesAll g.S.Store c.args.frame.now c.args.request.now c.args.members.now.items
    c.carry_out_change.new.members.items c.args.strays.now.items c.args.known.now c.decide_and_note.new.known
    c.args.count.now c.carry_out_change.new.count) (sym
    (turned_into _ _ c.from_residual-in_err-receipt-in-ChangeDue.ensures.1))
    (change_failed g.S.Store g.met.S.Store.shut_if_dirty g.met.S.Store.settled c.args.frame.now c.args.request.now
    c.args.members.now.items c.decide_and_note.new.members.items c.args.known.now c.decide_and_note.new.known
    c.decide_and_note.ensures.grows c.requires.rests c.args.count.now c.requires.counted
    c.decide_and_note.ensures.asks c.carry_out_change.new.members.items c.args.strays.now.items
    c.carry_out_change.new.count c.in-ChangeDue.change c.in_err-receipt-in-ChangeDue.field-0.0 c.requires.none
    (c.in_ok-reply.was ∙ ap Ok c.in-ChangeDue.is) c.in_err-receipt-in-ChangeDue.ensures.changes) in
    with_nothing g.S.Store g.H.Shelf.asks g.H.Shelf.takes c.args.shelf.now all
    (none_gone g.S.Store g.H.Shelf.asks g.H.Shelf.takes told all)
    (one_written g.S.Store (child_asked c.args.request.now.command) (child_returned c.args.request.now.command)
    c.args.members.now.items c.decide_and_note.new.members.items c.decide_and_note.ensures.asks.stay
    c.carry_out_change.new.members.items c.in_err-receipt-in-ChangeDue.ensures.changes.others)
    (λ clean gone receipt is. absurd (unreceived _ _ _ told is))

pub returns-in_ok-receipt-in-ChangeDue-clause-serves : goal.returns-in_ok-receipt-in-ChangeDue-clause-serves
returns-in_ok-receipt-in-ChangeDue-clause-serves g c =
    let both = change_served g.S.Store g.met.S.Store.shut_if_dirty g.met.S.Store.settled c.args.frame.now
    c.args.request.now c.args.members.now.items c.decide_and_note.new.members.items c.args.known.now
    c.decide_and_note.new.known c.decide_and_note.ensures.grows c.requires.rests c.args.count.now
    c.requires.counted c.decide_and_note.ensures.asks c.carry_out_change.new.members.items
    c.args.strays.now.items c.carry_out_change.new.count c.in-ChangeDue.change
    c.in_ok-receipt-in-ChangeDue.receipt (subst (IsNoted c.decide_and_note.new.known) c.in-ChangeDue.is
    c.in_ok-reply.ensures.noted) c.requires.none (c.in_ok-reply.was ∙ ap Ok c.in-ChangeDue.is)
    (subst (HasPlace c.decide_and_note.new.members.items c.args.count.now) c.in-ChangeDue.is
    c.in_ok-reply.ensures.place).2 c.in_ok-receipt-in-ChangeDue.ensures.changes in
    with_nothing g.S.Store g.H.Shelf.asks g.H.Shelf.takes c.args.shelf.now both.0 both.1
    (one_written g.S.Store (child_asked c.args.request.now.command) (child_returned c.args.request.now.command)
    c.args.members.now.items c.decide_and_note.new.members.items c.decide_and_note.ensures.asks.stay
    c.carry_out_change.new.members.items c.in_ok-receipt-in-ChangeDue.ensures.changes.others)
    (λ clean gone receipt is more. change_dated g.S.Store g.met.S.Store.shut_if_dirty g.met.S.Store.settled
    c.args.frame.now c.args.request.now c.args.members.now.items c.decide_and_note.new.members.items
    c.args.known.now c.decide_and_note.new.known c.decide_and_note.ensures.grows c.requires.rests c.args.count.now
    c.requires.counted c.decide_and_note.ensures.asks c.carry_out_change.new.members.items c.in-ChangeDue.change
    (c.in_ok-reply.was ∙ ap Ok c.in-ChangeDue.is) c.in_ok-receipt-in-ChangeDue.ensures.changes.clean
    c.in_ok-receipt-in-ChangeDue.ensures.dated clean)

-- ---- what was only read

-- of a fault nothing is said of a reply
unreplied : (Fact : Result Receipt Refusal → Type 0) (r : Result (Result Receipt Refusal) ServeFault) (e : ServeFault)
    → r ≡ Err e → IfOk r Fact
unreplied Fact r e told = subst (λ x. IfOk x Fact) (sym told) tt

pub returns-in_err-reply-clause-reads : goal.returns-in_err-reply-clause-reads
returns-in_err-reply-clause-reads g c = unreplied _ _ _ (turned_into _ _ c.from_residual.ensures.1)

pub returns-in_err-receipt-in-ChangeDue-clause-reads : goal.returns-in_err-receipt-in-ChangeDue-clause-reads
returns-in_err-receipt-in-ChangeDue-clause-reads g c =
    unreplied _ _ _ (turned_into _ _ c.from_residual-in_err-receipt-in-ChangeDue.ensures.1)

pub returns-in_err-receipt-in-SplitDue-clause-reads : goal.returns-in_err-receipt-in-SplitDue-clause-reads
returns-in_err-receipt-in-SplitDue-clause-reads g c =
    unreplied _ _ _ (turned_into _ _ c.from_residual-in_err-receipt-in-SplitDue.ensures.1)

pub returns-in_err-receipt-in-MergeDue-clause-reads : goal.returns-in_err-receipt-in-MergeDue-clause-reads
returns-in_err-receipt-in-MergeDue-clause-reads g c =
    unreplied _ _ _ (turned_into _ _ c.from_residual-in_err-receipt-in-MergeDue.ensures.1)

pub returns-in-Answered-clause-reads : goal.returns-in-Answered-clause-reads
returns-in-Answered-clause-reads g c = λ none. c.decide_and_note.ensures.asks.stay

pub returns-in_ok-receipt-in-ChangeDue-clause-reads : goal.returns-in_ok-receipt-in-ChangeDue-clause-reads
returns-in_ok-receipt-in-ChangeDue-clause-reads g c = λ none. absurd
    (let more = (c.in_ok-receipt-in-ChangeDue.ensures.changes.ok c.in_ok-receipt-in-ChangeDue.receipt refl).1 in
    omega (arith, more, none))

pub returns-in_ok-receipt-in-SplitDue-clause-reads : goal.returns-in_ok-receipt-in-SplitDue-clause-reads
returns-in_ok-receipt-in-SplitDue-clause-reads g c = λ none. absurd
    (let more = (c.in_ok-receipt-in-SplitDue.ensures.carries.0.ok c.in_ok-receipt-in-SplitDue.receipt refl).1 in
    omega (arith, more, none))

pub returns-in_ok-receipt-in-MergeDue-clause-reads : goal.returns-in_ok-receipt-in-MergeDue-clause-reads
returns-in_ok-receipt-in-MergeDue-clause-reads g c = λ none. absurd
    (let more = (c.in_ok-receipt-in-MergeDue.ensures.carries.0.ok c.in_ok-receipt-in-MergeDue.receipt refl).1 in
    omega (arith, more, none))

-- ---- where the shelf was not used

pub returns-in_err-reply-clause-unused : goal.returns-in_err-reply-clause-unused
returns-in_err-reply-clause-unused g c = unreplied _ _ _ (turned_into _ _ c.from_residual.ensures.1)

pub returns-in_err-receipt-in-ChangeDue-clause-unused : goal.returns-in_err-receipt-in-ChangeDue-clause-unused
returns-in_err-receipt-in-ChangeDue-clause-unused g c =
    unreplied _ _ _ (turned_into _ _ c.from_residual-in_err-receipt-in-ChangeDue.ensures.1)

pub returns-in_err-receipt-in-SplitDue-clause-unused : goal.returns-in_err-receipt-in-SplitDue-clause-unused
returns-in_err-receipt-in-SplitDue-clause-unused g c =
    unreplied _ _ _ (turned_into _ _ c.from_residual-in_err-receipt-in-SplitDue.ensures.1)

pub returns-in_err-receipt-in-MergeDue-clause-unused : goal.returns-in_err-receipt-in-MergeDue-clause-unused
returns-in_err-receipt-in-MergeDue-clause-unused g c =
    unreplied _ _ _ (turned_into _ _ c.from_residual-in_err-receipt-in-MergeDue.ensures.1)

pub returns-in-Answered-clause-unused : goal.returns-in-Answered-clause-unused
returns-in-Answered-clause-unused g c = λ none. refl

pub returns-in_ok-receipt-in-ChangeDue-clause-unused : goal.returns-in_ok-receipt-in-ChangeDue-clause-unused
returns-in_ok-receipt-in-ChangeDue-clause-unused g c = λ none. absurd
    (let more = (c.in_ok-receipt-in-ChangeDue.ensures.changes.ok c.in_ok-receipt-in-ChangeDue.receipt refl).1 in
    omega (arith, more, none))

pub returns-in_ok-receipt-in-SplitDue-clause-unused : goal.returns-in_ok-receipt-in-SplitDue-clause-unused
returns-in_ok-receipt-in-SplitDue-clause-unused g c = λ none. absurd
    (let more = (c.in_ok-receipt-in-SplitDue.ensures.carries.0.ok c.in_ok-receipt-in-SplitDue.receipt refl).1 in
    omega (arith, more, none))

pub returns-in_ok-receipt-in-MergeDue-clause-unused : goal.returns-in_ok-receipt-in-MergeDue-clause-unused
returns-in_ok-receipt-in-MergeDue-clause-unused g c = λ none. absurd
    (let more = (c.in_ok-receipt-in-MergeDue.ensures.carries.0.ok c.in_ok-receipt-in-MergeDue.receipt refl).1 in
    omega (arith, more, none))

pub returns-in_err-receipt-in-ChangeDue-clause-room : goal.returns-in_err-receipt-in-ChangeDue-clause-room
returns-in_err-receipt-in-ChangeDue-clause-room g c =
    omega (
      arith,
      c.requires.room,
      stay_length g.S.Store _ _ c.decide_and_note.ensures.asks.stay,
      c.carry_out_change.ensures.long,
    )

pub returns-in_ok-receipt-in-ChangeDue-clause-room : goal.returns-in_ok-receipt-in-ChangeDue-clause-room
returns-in_ok-receipt-in-ChangeDue-clause-room g c =
    omega (
      arith,
      c.requires.room,
      stay_length g.S.Store _ _ c.decide_and_note.ensures.asks.stay,
      c.carry_out_change.ensures.long,
    )

pub returns-in_err-receipt-in-ChangeDue-clause-shelf : goal.returns-in_err-receipt-in-ChangeDue-clause-shelf
returns-in_err-receipt-in-ChangeDue-clause-shelf g c =
    counts_turn _ c.in_err-receipt-in-ChangeDue.field-0.0 _ (turned_into _ _
    c.from_residual-in_err-receipt-in-ChangeDue.ensures.1)

pub returns-in_err-receipt-in-SplitDue-clause-serves : goal.returns-in_err-receipt-in-SplitDue-clause-serves
returns-in_err-receipt-in-SplitDue-clause-serves g c =
    let told = turned_into _ _ c.from_residual-in_err-receipt-in-SplitDue.ensures.1 in
    let all = subst (ServesAll g.S.Store c.args.frame.now c.args.request.now c.args.members.now.items
    c.carry_out_split.new.members.items c.carry_out_split.new.strays.items c.args.known.now
    c.decide_and_note.new.known c.args.count.now c.carry_out_split.new.count)
    (sym (turned_into _ _ c.from_residual-in_err-receipt-in-SplitDue.ensures.1))
    (split_failed g.S.Store g.met.S.Store.shut_if_dirty g.met.S.Store.settled c.args.frame.now c.args.request.now
    c.args.members.now.items c.decide_and_note.new.members.items c.args.known.now c.decide_and_note.new.known
    c.decide_and_note.ensures.grows c.requires.rests c.args.count.now c.requires.counted
    c.decide_and_note.ensures.asks c.carry_out_split.new.members.items c.carry_out_split.new.strays.items
    c.carry_out_split.new.count c.in-SplitDue.due c.in_err-receipt-in-SplitDue.field-0.0
    (c.in_ok-reply.was ∙ ap Ok c.in-SplitDue.is) c.in_err-receipt-in-SplitDue.ensures.carries.0) in
    with_asked g.S.Store g.H.Shelf.asks g.H.Shelf.takes c.args.shelf.now c.carry_out_split.new.shelf all
    (none_gone g.S.Store g.H.Shelf.asks g.H.Shelf.takes told all)
    (asks_due g.H.Shelf.asks g.H.Shelf.takes (child_asked c.args.request.now.command) c.in-SplitDue.due.child
    (λ child. AllClean g.S.Store c.carry_out_split.new.members.items
    → OfEachSeen g.S.Store c.args.frame.now c.args.known.now c.args.members.now.items c.args.count.now
    (λ w. IsNoPackage w child)) _ _ (subst (Makes (child_asked c.args.request.now.command)) c.in-SplitDue.is
    c.in_ok-reply.ensures.makes)
    (λ clean w same are. split_apart g.S.Store g.met.S.Store.shut_if_dirty g.met.S.Store.settled c.args.frame.now
    c.args.request.now c.args.members.now.items c.decide_and_note.new.members.items c.args.known.now
    c.decide_and_note.new.known c.decide_and_note.ensures.grows c.requires.rests c.args.count.now
    c.requires.counted c.decide_and_note.ensures.asks c.in-SplitDue.due
    (c.in_ok-reply.was ∙ ap Ok c.in-SplitDue.is) (c.carry_out_split.ensures.clean clean) w same are)
    (asked_of_child g.S.Store g.H.Shelf.asks g.H.Shelf.takes g.H.Shelf.failures_of c.args.frame.now
    c.in-SplitDue.due c.decide_and_note.new.members.items c.carry_out_split.new.members.items
    c.carry_out_split.new.strays.items _ _ _ c.carry_out_split.ensures.uses))
    (written_since g.S.Store (child_asked c.args.request.now.command) (child_returned c.args.request.now.command)
    c.args.members.now.items c.decide_and_note.new.members.items c.decide_and_note.ensures.asks.stay
    c.carry_out_split.new.members.items []
    (asked_written g.S.Store (Some c.in-SplitDue.due.child) (child_asked c.args.request.now.command) None
    (child_returned c.args.request.now.command) c.decide_and_note.new.members.items
    c.carry_out_split.new.members.items
    (sym (subst (Makes (child_asked c.args.request.now.command)) c.in-SplitDue.is c.in_ok-reply.ensures.makes))
    c.carry_out_split.ensures.writes))
    (λ clean gone receipt is. absurd (unreceived _ _ _ told is))

pub returns-in_ok-receipt-in-SplitDue-clause-serves : goal.returns-in_ok-receipt-in-SplitDue-clause-serves
returns-in_ok-receipt-in-SplitDue-clause-serves g c =
    let both = split_served g.S.Store g.met.S.Store.shut_if_dirty g.met.S.Store.settled c.args.frame.now
    c.args.request.now c.args.members.now.items c.decide_and_note.new.members.items c.args.known.now
    c.decide_and_note.new.known c.decide_and_note.ensures.grows c.requires.rests c.args.count.now
    c.requires.counted c.decide_and_note.ensures.asks c.carry_out_split.new.members.items
    c.carry_out_split.new.strays.items c.carry_out_split.new.count c.in-SplitDue.due
    c.in_ok-receipt-in-SplitDue.receipt (subst (IsNoted c.decide_and_note.new.known) c.in-SplitDue.is
    c.in_ok-reply.ensures.noted) (c.in_ok-reply.was ∙ ap Ok c.in-SplitDue.is)
    (subst (HasPlace c.decide_and_note.new.members.items c.args.count.now) c.in-SplitDue.is
    c.in_ok-reply.ensures.place).counted c.in_ok-receipt-in-SplitDue.ensures.carries.0 in
    with_asked g.S.Store g.H.Shelf.asks g.H.Shelf.takes c.args.shelf.now c.carry_out_split.new.shelf both.0
    (both.1 ∙ c.in_ok-receipt-in-SplitDue.ensures.carries.1)
    (asks_due g.H.Shelf.asks g.H.Shelf.takes (child_asked c.args.request.now.command) c.in-SplitDue.due.child
    (λ child. AllClean g.S.Store c.carry_out_split.new.members.items
    → OfEachSeen g.S.Store c.args.frame.now c.args.known.now c.args.members.now.items c.args.count.now
    (λ w. IsNoPackage w child)) _ _ (subst (Makes (child_asked c.args.request.now.command)) c.in-SplitDue.is
    c.in_ok-reply.ensures.makes)
    (λ clean w same are. split_apart g.S.Store g.met.S.Store.shut_if_dirty g.met.S.Store.settled c.args.frame.now
    c.args.request.now c.args.members.now.items c.decide_and_note.new.members.items c.args.known.now
    c.decide_and_note.new.known c.decide_and_note.ensures.grows c.requires.rests c.args.count.now
    c.requires.counted c.decide_and_note.ensures.asks c.in-SplitDue.due
    (c.in_ok-reply.was ∙ ap Ok c.in-SplitDue.is) (c.carry_out_split.ensures.clean clean) w same are)
    (asked_of_child g.S.Store g.H.Shelf.asks g.H.Shelf.takes g.H.Shelf.failures_of c.args.frame.now
    c.in-SplitDue.due c.decide_and_note.new.members.items c.carry_out_split.new.members.items
    c.carry_out_split.new.strays.items _ _ _ c.carry_out_split.ensures.uses))
    (written_since g.S.Store (child_asked c.args.request.now.command) (child_returned c.args.request.now.command)
    c.args.members.now.items c.decide_and_note.new.members.items c.decide_and_note.ensures.asks.stay
    c.carry_out_split.new.members.items []
    (asked_written g.S.Store (Some c.in-SplitDue.due.child) (child_asked c.args.request.now.command) None
    (child_returned c.args.request.now.command) c.decide_and_note.new.members.items
    c.carry_out_split.new.members.items
    (sym (subst (Makes (child_asked c.args.request.now.command)) c.in-SplitDue.is c.in_ok-reply.ensures.makes))
    c.carry_out_split.ensures.writes))
    (λ clean gone receipt is more. split_dated g.S.Store g.met.S.Store.shut_if_dirty g.met.S.Store.settled
    c.args.frame.now c.args.request.now c.args.members.now.items c.decide_and_note.new.members.items
    c.args.known.now c.decide_and_note.new.known c.decide_and_note.ensures.grows c.requires.rests c.args.count.now
    c.requires.counted c.decide_and_note.ensures.asks c.carry_out_split.new.members.items c.in-SplitDue.due
    (c.in_ok-reply.was ∙ ap Ok c.in-SplitDue.is)
    (subst (Makes (child_asked c.args.request.now.command)) c.in-SplitDue.is c.in_ok-reply.ensures.makes)
    c.carry_out_split.ensures.clean c.in_ok-receipt-in-SplitDue.ensures.dated clean)

pub carry_out_split-requires-clause-room : goal.carry_out_split-requires-clause-room
carry_out_split-requires-clause-room g c =
    omega (arith, c.requires.room, stay_length g.S.Store _ _ c.decide_and_note.ensures.asks.stay)

pub carry_out_split-requires-clause-place : goal.carry_out_split-requires-clause-place
carry_out_split-requires-clause-place g c =
    subst (HasPlace c.decide_and_note.new.members.items c.args.count.now) c.in-SplitDue.is c.in_ok-reply.ensures.place

pub returns-in_err-receipt-in-SplitDue-clause-shelf : goal.returns-in_err-receipt-in-SplitDue-clause-shelf
returns-in_err-receipt-in-SplitDue-clause-shelf g c =
    counts_handed Receipt (Result Receipt Refusal) _ c.in_err-receipt-in-SplitDue.field-0.0 _ _
    (turned_into _ _ c.from_residual-in_err-receipt-in-SplitDue.ensures.1)
    c.in_err-receipt-in-SplitDue.ensures.shelf

pub returns-in_err-receipt-in-MergeDue-clause-serves : goal.returns-in_err-receipt-in-MergeDue-clause-serves
returns-in_err-receipt-in-MergeDue-clause-serves g c =
    let told = turned_into _ _ c.from_residual-in_err-receipt-in-MergeDue.ensures.1 in
    let all = subst (ServesAll g.S.Store c.args.frame.now c.args.request.now c.args.members.now.items
    c.carry_out_merge.new.members.items c.args.strays.now.items c.args.known.now c.decide_and_note.new.known
    c.args.count.now c.carry_out_merge.new.count) (sym
    (turned_into _ _ c.from_residual-in_err-receipt-in-MergeDue.ensures.1))
    (merge_failed g.S.Store g.met.S.Store.shut_if_dirty g.met.S.Store.settled c.args.frame.now c.args.request.now
    c.args.members.now.items c.decide_and_note.new.members.items c.args.known.now c.decide_and_note.new.known
    c.decide_and_note.ensures.grows c.requires.rests c.args.count.now c.requires.counted
    c.decide_and_note.ensures.asks c.carry_out_merge.new.members.items c.args.strays.now.items
    c.carry_out_merge.new.count c.in-MergeDue.due c.in_err-receipt-in-MergeDue.field-0.0 c.requires.none
    (c.in_ok-reply.was ∙ ap Ok c.in-MergeDue.is) c.in_err-receipt-in-MergeDue.ensures.carries.0) in
    merge_with g.S.Store g.met.S.Store.shut_if_dirty g.met.S.Store.settled c.args.frame.now c.args.request.now
    c.args.members.now.items c.decide_and_note.new.members.items c.args.known.now c.decide_and_note.new.known
    c.decide_and_note.ensures.grows c.requires.rests c.args.count.now c.requires.counted
    c.decide_and_note.ensures.asks c.carry_out_merge.new.members.items c.args.strays.now.items
    c.carry_out_merge.new.count g.H.Shelf.asks g.H.Shelf.takes c.args.shelf.now c.carry_out_merge.new.shelf
    c.in-MergeDue.due (c.in_ok-reply.was ∙ ap Ok c.in-MergeDue.is) c.in_err-receipt-in-MergeDue.ensures.carries.0
    c.in_err-receipt-in-MergeDue.ensures.carries.1 c.in_err-receipt-in-MergeDue.ensures.carries.2 all
    (none_gone g.S.Store g.H.Shelf.asks g.H.Shelf.takes told all
    ∙ sym (c.in_err-receipt-in-MergeDue.ensures.carries.0.kept _ refl))
    (λ clean gone receipt is. absurd (unreceived _ _ _ told is))

pub returns-in_ok-receipt-in-MergeDue-clause-serves : goal.returns-in_ok-receipt-in-MergeDue-clause-serves
returns-in_ok-receipt-in-MergeDue-clause-serves g c =
    let both = merge_served g.S.Store g.met.S.Store.shut_if_dirty g.met.S.Store.settled c.args.frame.now
    c.args.request.now c.args.members.now.items c.decide_and_note.new.members.items c.args.known.now
    c.decide_and_note.new.known c.decide_and_note.ensures.grows c.requires.rests c.args.count.now
    c.requires.counted c.decide_and_note.ensures.asks c.carry_out_merge.new.members.items
    c.args.strays.now.items c.carry_out_merge.new.count c.in-MergeDue.due c.in_ok-receipt-in-MergeDue.receipt
    (subst (IsNoted c.decide_and_note.new.known) c.in-MergeDue.is c.in_ok-reply.ensures.noted) c.requires.none
    (c.in_ok-reply.was ∙ ap Ok c.in-MergeDue.is) (subst
    (HasPlace c.decide_and_note.new.members.items c.args.count.now) c.in-MergeDue.is
    c.in_ok-reply.ensures.place).counted c.in_ok-receipt-in-MergeDue.ensures.carries.0 in
    merge_with g.S.Store g.met.S.Store.shut_if_dirty g.met.S.Store.settled c.args.frame.now c.args.request.now
    c.args.members.now.items c.decide_and_note.new.members.items c.args.known.now c.decide_and_note.new.known
    c.decide_and_note.ensures.grows c.requires.rests c.args.count.now c.requires.counted
    c.decide_and_note.ensures.asks c.carry_out_merge.new.members.items c.args.strays.now.items
    c.carry_out_merge.new.count g.H.Shelf.asks g.H.Shelf.takes c.args.shelf.now c.carry_out_merge.new.shelf
    c.in-MergeDue.due (c.in_ok-reply.was ∙ ap Ok c.in-MergeDue.is) c.in_ok-receipt-in-MergeDue.ensures.carries.0
    c.in_ok-receipt-in-MergeDue.ensures.carries.1 c.in_ok-receipt-in-MergeDue.ensures.carries.2 both.0 both.1
    (λ clean gone receipt is more. merge_dated g.S.Store g.met.S.Store.shut_if_dirty g.met.S.Store.settled
    c.args.frame.now c.args.request.now c.args.members.now.items c.decide_and_note.new.members.items
    c.args.known.now c.decide_and_note.new.known c.decide_and_note.ensures.grows c.requires.rests c.args.count.now
    c.requires.counted c.decide_and_note.ensures.asks c.carry_out_merge.new.members.items c.in-MergeDue.due
    (c.in_ok-reply.was ∙ ap Ok c.in-MergeDue.is) (subst
    (HasPlace c.decide_and_note.new.members.items c.args.count.now) c.in-MergeDue.is
    c.in_ok-reply.ensures.place).two c.in_ok-receipt-in-MergeDue.ensures.carries.0.gone
    c.in_ok-receipt-in-MergeDue.ensures.carries.0.clean
    (λ clean gone. c.in_ok-receipt-in-MergeDue.ensures.carries.3 c.in_ok-receipt-in-MergeDue.receipt refl clean gone)
    clean gone)

pub returns-in_err-receipt-in-MergeDue-clause-room : goal.returns-in_err-receipt-in-MergeDue-clause-room
returns-in_err-receipt-in-MergeDue-clause-room g c =
    omega (
      arith,
      c.requires.room,
      stay_length g.S.Store _ _ c.decide_and_note.ensures.asks.stay,
      c.carry_out_merge.ensures.shorter,
    )

pub returns-in_ok-receipt-in-MergeDue-clause-room : goal.returns-in_ok-receipt-in-MergeDue-clause-room
returns-in_ok-receipt-in-MergeDue-clause-room g c =
    omega (
      arith,
      c.requires.room,
      stay_length g.S.Store _ _ c.decide_and_note.ensures.asks.stay,
      c.carry_out_merge.ensures.shorter,
    )

pub carry_out_merge-requires-clause-place : goal.carry_out_merge-requires-clause-place
carry_out_merge-requires-clause-place g c =
    subst (HasPlace c.decide_and_note.new.members.items c.args.count.now) c.in-MergeDue.is c.in_ok-reply.ensures.place

pub returns-in_err-reply-clause-room : goal.returns-in_err-reply-clause-room
returns-in_err-reply-clause-room g c =
    omega (arith, c.requires.room, stay_length g.S.Store _ _ c.decide_and_note.ensures.asks.stay)

pub returns-in-Answered-clause-room : goal.returns-in-Answered-clause-room
returns-in-Answered-clause-room g c =
    omega (arith, c.requires.room, stay_length g.S.Store _ _ c.decide_and_note.ensures.asks.stay)

pub returns-in_err-reply-clause-shelf : goal.returns-in_err-reply-clause-shelf
returns-in_err-reply-clause-shelf g c =
    counts_turn _ (Before c.in_err-reply.field-0.0) _ (turned_into _ _ c.from_residual.ensures.1)

pub returns-in_err-receipt-in-MergeDue-clause-shelf : goal.returns-in_err-receipt-in-MergeDue-clause-shelf
returns-in_err-receipt-in-MergeDue-clause-shelf g c = counts_handed Receipt (Result Receipt Refusal) _
    c.in_err-receipt-in-MergeDue.field-0.0 _ _ (turned_into _ _ c.from_residual-in_err-receipt-in-MergeDue.ensures.1)
    (c.in_err-receipt-in-MergeDue.ensures.shelf)

pub returns-in_err-reply-clause-child : goal.returns-in_err-reply-clause-child
returns-in_err-reply-clause-child g c = child_unasked g.S.Store g.H.Shelf.asks g.H.Shelf.takes g.H.Shelf.failures_of _
    c.args.strays.now.items (child_asked c.args.request.now.command) _ c.args.shelf.now

pub returns-in-Answered-clause-child : goal.returns-in-Answered-clause-child
returns-in-Answered-clause-child g c = child_unasked g.S.Store g.H.Shelf.asks g.H.Shelf.takes g.H.Shelf.failures_of _
    c.args.strays.now.items (child_asked c.args.request.now.command) _ c.args.shelf.now

pub returns-in_err-receipt-in-ChangeDue-clause-child : goal.returns-in_err-receipt-in-ChangeDue-clause-child
returns-in_err-receipt-in-ChangeDue-clause-child g c = child_unasked g.S.Store g.H.Shelf.asks g.H.Shelf.takes
    g.H.Shelf.failures_of _ c.args.strays.now.items (child_asked c.args.request.now.command) _ c.args.shelf.now

pub returns-in_ok-receipt-in-ChangeDue-clause-child : goal.returns-in_ok-receipt-in-ChangeDue-clause-child
returns-in_ok-receipt-in-ChangeDue-clause-child g c = child_unasked g.S.Store g.H.Shelf.asks g.H.Shelf.takes
    g.H.Shelf.failures_of _ c.args.strays.now.items (child_asked c.args.request.now.command) _ c.args.shelf.now

pub returns-in_err-receipt-in-SplitDue-clause-child : goal.returns-in_err-receipt-in-SplitDue-clause-child
returns-in_err-receipt-in-SplitDue-clause-child g c =
    subst (λ r. ServesChild g.S.Store g.H.Shelf.asks g.H.Shelf.takes g.H.Shelf.failures_of
    (child_asked c.args.request.now.command)
    (λ child trees. AllClean g.S.Store c.carry_out_split.new.members.items
    → OfEachSeen g.S.Store c.args.frame.now c.args.known.now c.args.members.now.items c.args.count.now
    (λ w. AllOpen g.S.Store c.args.members.now.items → IsChildBeside w.frame w.packages child trees))
    c.carry_out_split.new.strays.items r c.args.shelf.now c.carry_out_split.new.shelf)
    (sym (turned_into _ _ c.from_residual-in_err-receipt-in-SplitDue.ensures.1))
    (child_unsplit g.S.Store g.H.Shelf.asks g.H.Shelf.takes g.H.Shelf.failures_of _ c.carry_out_split.new.strays.items
    (child_asked c.args.request.now.command) c.args.frame.now c.in-SplitDue.due
    c.decide_and_note.new.members.items c.carry_out_split.new.members.items c.in_err-receipt-in-SplitDue.field-0.0
    c.args.shelf.now c.carry_out_split.new.shelf
    (subst (Makes (child_asked c.args.request.now.command)) c.in-SplitDue.is c.in_ok-reply.ensures.makes)
    (unlent_seen g.S.Store g.met.S.Store.shut_if_dirty g.met.S.Store.settled c.args.frame.now c.args.request.now
    c.args.members.now.items c.decide_and_note.new.members.items c.args.known.now c.decide_and_note.new.known
    c.decide_and_note.ensures.grows c.requires.rests c.args.count.now c.requires.counted
    c.decide_and_note.ensures.asks c.in-SplitDue.due c.carry_out_split.new.members.items
    (c.in_ok-reply.was ∙ ap Ok c.in-SplitDue.is) c.carry_out_split.ensures.clean)
    c.in_err-receipt-in-SplitDue.ensures.uses)

pub returns-in_ok-receipt-in-SplitDue-clause-child : goal.returns-in_ok-receipt-in-SplitDue-clause-child
returns-in_ok-receipt-in-SplitDue-clause-child g c =
    child_split g.S.Store g.H.Shelf.asks g.H.Shelf.takes g.H.Shelf.failures_of _ c.carry_out_split.new.strays.items
    (child_asked c.args.request.now.command) c.args.frame.now c.in-SplitDue.due
    c.decide_and_note.new.members.items c.carry_out_split.new.members.items c.in_ok-receipt-in-SplitDue.receipt
    c.args.shelf.now c.carry_out_split.new.shelf
    (subst (Makes (child_asked c.args.request.now.command)) c.in-SplitDue.is c.in_ok-reply.ensures.makes)
    c.in_ok-receipt-in-SplitDue.ensures.uses

pub returns-in_err-receipt-in-MergeDue-clause-child : goal.returns-in_err-receipt-in-MergeDue-clause-child
returns-in_err-receipt-in-MergeDue-clause-child g c =
    child_merged g.S.Store g.H.Shelf.asks g.H.Shelf.takes g.H.Shelf.failures_of _ c.args.strays.now.items
    c.decide_and_note.new.members.items c.args.request.now.command _ _ _ c.args.shelf.now
    c.carry_out_merge.new.shelf c.in_err-receipt-in-MergeDue.ensures.carries.1 (λ uuid fact. fact.0)

pub returns-in_ok-receipt-in-MergeDue-clause-child : goal.returns-in_ok-receipt-in-MergeDue-clause-child
returns-in_ok-receipt-in-MergeDue-clause-child g c =
    child_merged g.S.Store g.H.Shelf.asks g.H.Shelf.takes g.H.Shelf.failures_of _ c.args.strays.now.items
    c.decide_and_note.new.members.items c.args.request.now.command _ _ _ c.args.shelf.now
    c.carry_out_merge.new.shelf c.in_ok-receipt-in-MergeDue.ensures.carries.1 (λ uuid fact. fact.0)

-- ---- where a commit was tried

pub returns-in_err-reply-clause-tried : goal.returns-in_err-reply-clause-tried
returns-in_err-reply-clause-tried g c =
    λ why is. absurd (untried _ c.in_err-reply.field-0.0 why (turned_into _ _ c.from_residual.ensures.1) is)

pub returns-in-Answered-clause-tried : goal.returns-in-Answered-clause-tried
returns-in-Answered-clause-tried g c = λ why is. absurd (let e = is in cc)

pub returns-in_ok-receipt-in-ChangeDue-clause-tried : goal.returns-in_ok-receipt-in-ChangeDue-clause-tried
returns-in_ok-receipt-in-ChangeDue-clause-tried g c = λ why is. absurd (let e = is in cc)

pub returns-in_ok-receipt-in-SplitDue-clause-tried : goal.returns-in_ok-receipt-in-SplitDue-clause-tried
returns-in_ok-receipt-in-SplitDue-clause-tried g c = λ why is. absurd (let e = is in cc)

pub returns-in_ok-receipt-in-MergeDue-clause-tried : goal.returns-in_ok-receipt-in-MergeDue-clause-tried
returns-in_ok-receipt-in-MergeDue-clause-tried g c = λ why is. absurd (let e = is in cc)

pub returns-in_err-receipt-in-ChangeDue-clause-tried : goal.returns-in_err-receipt-in-ChangeDue-clause-tried
returns-in_err-receipt-in-ChangeDue-clause-tried g c =
    λ why is. change_tried g.S.Store g.met.S.Store.shut_if_dirty g.met.S.Store.settled c.args.frame.now
    c.args.request.now c.args.members.now.items c.decide_and_note.new.members.items c.args.known.now
    c.decide_and_note.new.known c.decide_and_note.ensures.grows c.requires.rests c.args.count.now
    c.requires.counted c.decide_and_note.ensures.asks c.carry_out_change.new.members.items c.in-ChangeDue.change
    (c.in_ok-reply.was ∙ ap Ok c.in-ChangeDue.is) c.in_err-receipt-in-ChangeDue.ensures.changes.clean

pub returns-in_err-receipt-in-SplitDue-clause-tried : goal.returns-in_err-receipt-in-SplitDue-clause-tried
returns-in_err-receipt-in-SplitDue-clause-tried g c =
    λ why is. split_tried g.S.Store g.met.S.Store.shut_if_dirty g.met.S.Store.settled c.args.frame.now
    c.args.request.now c.args.members.now.items c.decide_and_note.new.members.items c.args.known.now
    c.decide_and_note.new.known c.decide_and_note.ensures.grows c.requires.rests c.args.count.now
    c.requires.counted c.decide_and_note.ensures.asks c.carry_out_split.new.members.items c.in-SplitDue.due
    (c.in_ok-reply.was ∙ ap Ok c.in-SplitDue.is) c.carry_out_split.ensures.clean

pub returns-in_err-receipt-in-MergeDue-clause-tried : goal.returns-in_err-receipt-in-MergeDue-clause-tried
returns-in_err-receipt-in-MergeDue-clause-tried g c =
    λ why is. merge_tried g.S.Store g.met.S.Store.shut_if_dirty g.met.S.Store.settled c.args.frame.now
    c.args.request.now c.args.members.now.items c.decide_and_note.new.members.items c.args.known.now
    c.decide_and_note.new.known c.decide_and_note.ensures.grows c.requires.rests c.args.count.now
    c.requires.counted c.decide_and_note.ensures.asks c.carry_out_merge.new.members.items c.in-MergeDue.due
    (c.in_ok-reply.was ∙ ap Ok c.in-MergeDue.is)
    (none_left_clean g.S.Store _ c.in_err-receipt-in-MergeDue.ensures.carries.0.clean
    (c.in_err-receipt-in-MergeDue.ensures.carries.0.kept _ refl))
