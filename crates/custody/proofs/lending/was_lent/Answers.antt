use Rattle.std.proofs.Common.{◌∙◌, Ok, ap, sym, to_z, to_z-of_z, rules, FitsSigned, w64}
use Rattle.sqlite.specs.Held.{state}
use Rattle.store_sql.proofs.Staying.{looks_stays, stays_then}
use Rattle.store_sql.proofs.Transactions.{at_rest, same_survives}
use Rattle.identity_register.proofs.Looking.{looked, fails}
use Rattle.sheet_types.specs.Custody.{is_split_line}
use Rattle.custody.proofs.Lent.{IsNextTo, none_yet, one_more, answers_none, answers_split}
use Rattle.custody.proofs.lending.was_lent.Goals as goal

pub loop-init : goal.loop-init
loop-init g c =
    let s = state g.S.Store c.args.conn.now in
    record {
      so = none_yet c.args.id s (record {
        rests = c.requires;
        was_open = λ h. h;
        holds =
            at_rest g.S.Store g.met.S.Store.shut_if_dirty g.met.S.Store.settled c.args.conn.now c.requires;
        survives = same_survives s;
      });
    }

pub returns-in-None : goal.returns-in-None
returns-in-None g c =
    answers_none c.args.id c.next_to.ensures.back (to_z w64 c.loop.last-bits) (state g.S.Store c.args.conn.now)
    (state g.S.Store c.loop.conn) (state g.S.Store c.next_to.new.conn) c.loop.invariant.so
    (looked (IsNextTo c.args.id (to_z w64 c.loop.last-bits)) (c.in_ok-next_to.was ∙ ap Ok c.in-None.is)
    c.next_to.ensures.looked)

pub returns-then-is_split_line : goal.returns-then-is_split_line
returns-then-is_split_line g c =
    answers_split c.args.id c.next_to.ensures.back (to_z w64 c.loop.last-bits) (state g.S.Store c.args.conn.now)
    (state g.S.Store c.loop.conn) (state g.S.Store c.next_to.new.conn) c.loop.invariant.so
    c.in-Some.row (looked (IsNextTo c.args.id (to_z w64 c.loop.last-bits)) (c.in_ok-next_to.was ∙ ap Ok c.in-Some.is)
    c.next_to.ensures.looked) (sym (ap is_split_line c.as_str.ensures) ∙ sym c.is_split_line.ensures
    ∙ c.if-is_split_line.true)

pub loop-preserved : goal.loop-preserved
loop-preserved g c =
    let seq : FitsSigned w64 c.in-Some.row.seq = search rules in
    record {
      so = simp (to_z-of_z, seq) (one_more c.args.id c.next_to.ensures.back (to_z w64 c.loop.last-bits)
          (state g.S.Store c.args.conn.now) (state g.S.Store c.loop.conn) (state g.S.Store c.next_to.new.conn)
          c.loop.invariant.so
          c.in-Some.row (looked (IsNextTo c.args.id (to_z w64 c.loop.last-bits))
          (c.in_ok-next_to.was ∙ ap Ok c.in-Some.is) c.next_to.ensures.looked)
          (sym (ap is_split_line c.as_str.ensures) ∙ sym c.is_split_line.ensures ∙ c.if-is_split_line.false));
    }
