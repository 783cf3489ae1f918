-- The parts that were read say what the tables say.
use Rattle.std.proofs.Common.{◌≡◌, ◌∙◌, Ok, None, Some, ap, to_z-of_z, rules, FitsSigned, w64}
use Rattle.std.specs.Prelude.{MatchOption}
use Rattle.sqlite.specs.Held.{state}
use Rattle.store_sql.proofs.Staying.{looks_stays, stays_then}
use Rattle.identity_register.proofs.Looking.{tells, fails}
use Rattle.package_receipts.specs.Ranges.{AreReceiptsInRange}
use Rattle.package_receipts.specs.Read.{AreSaid}
use Rattle.package_receipts.proofs.Parts.{went, stopped, moved_on, tells_all, all_said}
use Rattle.package_receipts.proofs.receipts.Goals.{then-is_past+in_ok-go_on+else-not-branch, else-is_past}
use Rattle.package_receipts.proofs.receipts.Goals as goal

-- a look that failed leaves the store as it was too
pub returns-in_err-go_on : goal.returns-in_err-go_on
returns-in_err-go_on g c = fails c.from_residual-in_err-go_on.result c.from_residual-in_err-go_on.ensures.0
    (stays_then c.loop-place.invariant.stays (looks_stays c.go_on.ensures))

pub returns-then-not-branch : goal.returns-then-not-branch
returns-then-not-branch g c =
    let fits : FitsSigned w64 c.index-end.result.now = search rules in
    tells (λ t found. MatchOption found (AreReceiptsInRange t.receipts t.moved → ⊥)
    (λ entered. AreSaid t entered.items))
    (stopped c.loop-place.after (Some c.index-end.result.now) c.loop-place.entered.items
    c.go_on.new.entered.items c.loop-place.invariant (c.in_ok-go_on.was ∙ ap Ok c.if-not-branch.true)
    (simp (to_z-of_z, fits) at c.go_on.ensures)) (λ t h. h)

pub loop-place-preserved : goal.loop-place-preserved
loop-place-preserved g c =
    let fits : FitsSigned w64 c.index-end.result.now = search rules in
    elim c.if-is_past.branch [
      | then-is_past+in_ok-go_on+else-not-branch w ↦
          let after : c.if-is_past.after ≡ Some c.index-end.result.now =
          simp (to_z-of_z, fits) at w.after-is in
          moved_on (λ v. v.items) (state g.S.Store) after w.entered-is w.conn-is
          (went c.loop-place.after (Some c.index-end.result.now) c.loop-place.entered.items
          w.go_on.new.entered.items c.loop-place.invariant (w.in_ok-go_on.was ∙ ap Ok w.if-not-branch.false)
          (simp (to_z-of_z, fits) at w.go_on.ensures))
      | else-is_past w ↦ moved_on (λ v. v.items) (state g.S.Store) w.after-is w.entered-is w.conn-is
          c.loop-place.invariant
    ]

pub returns-in_err-go_on-2 : goal.returns-in_err-go_on-2
returns-in_err-go_on-2 g c = fails c.from_residual-in_err-go_on-2.result c.from_residual-in_err-go_on-2.ensures.0
    (stays_then c.loop-place.invariant.stays (looks_stays c.go_on-2.ensures))

pub returns-then-branch : goal.returns-then-branch
returns-then-branch g c =
    tells_all (λ t found. MatchOption found (AreReceiptsInRange t.receipts t.moved → ⊥)
    (λ entered. AreSaid t entered.items))
    (went c.loop-place.after None c.loop-place.entered.items c.go_on-2.new.entered.items c.loop-place.invariant
    (c.in_ok-go_on-2.was ∙ ap Ok c.if-branch.true) c.go_on-2.ensures)
    (λ db h. all_said db c.go_on-2.new.entered.items h)

pub returns-else-branch : goal.returns-else-branch
returns-else-branch g c =
    tells (λ t found. MatchOption found (AreReceiptsInRange t.receipts t.moved → ⊥)
    (λ entered. AreSaid t entered.items))
    (stopped c.loop-place.after None c.loop-place.entered.items c.go_on-2.new.entered.items c.loop-place.invariant
    (c.in_ok-go_on-2.was ∙ ap Ok c.if-branch.false) c.go_on-2.ensures) (λ t h. h)
