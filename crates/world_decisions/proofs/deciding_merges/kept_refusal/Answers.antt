-- The texts are looked at, then what is kept of the child's member, then the parents of all.
use Rattle.std.proofs.Common.{◌≡◌, ◌∙◌, refl, sym, ap, Some, None, slice_get}
use Rattle.std.proofs.lemmas.Int.{to_z-of_z}
use Rattle.std.proofs.lemmas.Option.{slice_get_read}
use Rattle.std.specs.Prelude.{not}
use Rattle.sheet_types.specs.Custody.{ends_at}
use Rattle.world_decisions.proofs.KeptMerges.{kept_foreign, kept_stale, kept_open, not_same}
use Rattle.world_decisions.proofs.deciding_merges.kept_refusal.Goals as goal

pub returns-then-is_foreign-clause-told : goal.returns-then-is_foreign-clause-told
returns-then-is_foreign-clause-told g c = λ w count are live there is.
    let place : slice_get c.args.members.now c.args.from ≡ Some c.index-members-from.result =
    slice_get_read _ _ _ _ refl c.requires.within c.index-members-from.is in
    kept_foreign g.S.Store c.args.members.now w count are c.args.child c.args.from c.index-members-from.result place
    live there c.args.into c.args.ticket c.args.request.now is c.text_refusal.result c.text_refusal.ensures
    c.in_default.is
    (sym c.is_foreign.ensures ∙ c.if-is_foreign.true)

pub returns-then-not-is_ticket-clause-told : goal.returns-then-not-is_ticket-clause-told
returns-then-not-is_ticket-clause-told g c = λ w count are live there is.
    let ticket = simp (to_z-of_z, c.ranges.ticket) at c.is_ticket.ensures in
    let place : slice_get c.args.members.now c.args.from ≡ Some c.index-members-from.result =
    slice_get_read _ _ _ _ refl c.requires.within c.index-members-from.is in
    kept_stale g.S.Store c.args.members.now w count are c.args.child c.args.from c.index-members-from.result place
    live there c.args.into c.args.ticket c.args.request.now is c.text_refusal.result c.text_refusal.ensures
    c.in_default.is
    (sym c.is_foreign.ensures ∙ c.if-is_foreign.false) (sym ticket ∙ c.if-not-is_ticket.true)

pub returns-in-Some-loan_of-clause-told : goal.returns-in-Some-loan_of-clause-told
returns-in-Some-loan_of-clause-told g c = λ w count are live there is.
    let ticket = simp (to_z-of_z, c.ranges.ticket) at c.is_ticket.ensures in
    let place : slice_get c.args.members.now c.args.from ≡ Some c.index-members-from.result =
    slice_get_read _ _ _ _ refl c.requires.within c.index-members-from.is in
    kept_open g.S.Store c.args.members.now w count are c.args.child c.args.from c.index-members-from.result place live
    there c.args.into c.args.ticket c.args.request.now is c.text_refusal.result c.text_refusal.ensures
    c.in_default.is
    (sym c.is_foreign.ensures ∙ c.if-is_foreign.false) (sym ticket ∙ c.if-not-is_ticket.false)
    (Some c.in-Some-loan_of.loan) (sym c.in-Some-loan_of.is ∙ c.loan_of.ensures)

pub returns-in-None-clause-told : goal.returns-in-None-clause-told
returns-in-None-clause-told g c = λ w count are live there is.
    let ticket = simp (to_z-of_z, c.ranges.ticket) at c.is_ticket.ensures in
    let place : slice_get c.args.members.now c.args.from ≡ Some c.index-members-from.result =
    slice_get_read _ _ _ _ refl c.requires.within c.index-members-from.is in
    kept_open g.S.Store c.args.members.now w count are c.args.child c.args.from c.index-members-from.result place live
    there c.args.into c.args.ticket c.args.request.now is c.text_refusal.result c.text_refusal.ensures
    c.in_default.is
    (sym c.is_foreign.ensures ∙ c.if-is_foreign.false) (sym ticket ∙ c.if-not-is_ticket.false) None
    (sym c.in-None.is ∙ c.loan_of.ensures)

pub returns-in-None-clause-apart : goal.returns-in-None-clause-apart
returns-in-None-clause-apart g c = not_same c.args.child c.args.into
    (not (ends_at c.index-members-from.result.parent c.args.into)) (sym c.is_foreign.ensures ∙ c.if-is_foreign.false)
