use Rattle.std.proofs.Common.{◌≡◌, ◌≤◌, ℕ, List, length, drop}
use Rattle.std.specs.List.{AllByRecursion}
use Rattle.sheet_types.specs.Balance.{home_after}
use Rattle.sheet_balance.specs.Homes.{AreInTurn, HasHome, home_in}
use Rattle.sheet_balance.proofs.homes.homes_of.Given as goal

-- the homes of the receipts so far, which stand behind the others, and where they bring each package
abbrev pub invariant-loop-rest : goal.invariant-loop-rest
invariant-loop-rest l = record {
  within : l.rest ≤ length l.ledger;
  homes : AreInTurn (drop l.rest l.ledger) → AllByRecursion (HasHome l.homes (drop l.rest l.ledger))
      (drop l.rest l.ledger);
  merged : AreInTurn (drop l.rest l.ledger) → (p : List ℕ) → home_in l.merged p
      ≡ home_after (drop l.rest l.ledger) p;
}

abbrev pub decreases-loop-rest : goal.decreases-loop-rest
decreases-loop-rest l = l.rest
