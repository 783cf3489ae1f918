use Rattle.std.proofs.Common.{◌≡◌, ◌↔◌, ℕ, List, take, []}
use Rattle.std.specs.List.{AllByRecursion}
use Rattle.std.specs.Ordering.{nat_cmp}
use Rattle.std.specs.Cmp.Lexicographic.{slice_cmp}
use Rattle.std.specs.BTreeMap.{get}
use Rattle.sheet_ledger.specs.Agreeing.{Allows, SaysSo}
use Rattle.sheet_ledger.specs.Parts.{EachAfter, AgreesWithPast}
use Rattle.sheet_ledger.specs.declared.agreeing.Said.{Said}
use Rattle.sheet_ledger.proofs.agreeing.agree.Given as goal

-- so it is of those so far, and the map allows what all of them say
abbrev pub invariant-loop-receipt : goal.invariant-loop-receipt
invariant-loop-receipt l = record {
  told : (thing : List ℕ) (u : Said) → Allows (get (slice_cmp nat_cmp) l.told thing) u ↔ AllByRecursion
      (λ r. AllByRecursion (SaysSo thing u) r.items) (take l.receipt-index l.receipts);
  so_far : EachAfter AgreesWithPast [] (take l.receipt-index l.receipts);
}
