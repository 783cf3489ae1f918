-- Each stands behind the one before it, and so behind all.
use Rattle.std.proofs.Common.{sym, ◌∙◌}
use Rattle.sheet_types.specs.World.{moved_key}
use Rattle.sheet_ledger.proofs.Walking.{says_no}
use Rattle.sheet_ledger.proofs.InOrder.{arranged_next, arranged_fails}
use Rattle.sheet_ledger.proofs.forms.is_arranged.Goals as goal

pub returns-then-not-moved_is_before : goal.returns-then-not-moved_is_before
returns-then-not-moved_is_before c =
    says_no (arranged_fails moved_key c.args.things.now c.loop-at.at c.index-things-at.result
    c.index-things-at-in-loop-at.result c.loop-at.auto.at c.loop-at-test.true c.index-things-at.is
    c.index-things-at-in-loop-at.is (sym c.moved_is_before.ensures ∙ c.if-not-moved_is_before.true))

pub loop-at-preserved : goal.loop-at-preserved
loop-at-preserved c =
    arranged_next moved_key c.args.things.now c.loop-at.at c.index-things-at.result
    c.index-things-at-in-loop-at.result c.loop-at.auto.at c.loop-at-test.true c.index-things-at.is
    c.index-things-at-in-loop-at.is (sym c.moved_is_before.ensures ∙ c.if-not-moved_is_before.false)
    c.loop-at.invariant
