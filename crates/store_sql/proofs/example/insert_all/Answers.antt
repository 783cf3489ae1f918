use Rattle.std.proofs.Common.{◌∙◌, refl, sym, subst}
use Rattle.sqlite.specs.Held.{state}
use Rattle.std.proofs.lemmas.List.{take_more}
use Rattle.store_sql.specs.Transactions.{EachStep}
use Rattle.store_sql.specs.Notes.{Adds}
use Rattle.store_sql.proofs.Transactions.{each_begins, each_goes_on}
use Rattle.store_sql.proofs.example.insert_all.Goals as goal

pub loop-note-init : goal.loop-note-init
loop-note-init g c = record { same = refl; each = each_begins Adds _ }

pub loop-note-preserved : goal.loop-note-preserved
loop-note-preserved g c = record {
  same = c.insert_one.ensures.same_reference ∙ c.loop-note.invariant.same;
  each = subst (λ done. EachStep Adds done (state g.S.Store c.args.tx.now.conn.now)
      (state g.S.Store c.insert_one.new.tx.conn.now)) (sym (take_more c.args.notes.now c.loop-note.note-index _
      c.loop-note-test.true)) (each_goes_on Adds _ _ c.loop-note.invariant.each c.in_ok-insert_one.ensures.steps);
}
