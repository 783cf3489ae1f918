-- The account of a world, and what it accounts for. Profile.
use Rattle.std.specs.Prelude.{◌↔◌, IsTrue}
use Rattle.sheet_types.specs.World.{World}
use Rattle.sheet_ledger.specs.Parts.{HoldsWhatIsKept, SumsAddUp, AreLoans, AreAtHome, AreTogether}
use Rattle.sheet_balance.specs.Holders.{IsHeldWith}
use Rattle.sheet_balance.specs.Splits.{HasSplits}
use Rattle.sheet_balance.specs.declared.accounts.Account.{Account}

-- the account is that of the world: it has all its receipts, its packages and its splits, and says whether its merges
-- stand where the splits that they undo stand
pub record IsAccountOf (a : Account) (w : World) : Type 0 where
  pub seen : IsHeldWith a.ledger.items a.holders.items w
  pub splits : HasSplits a.splits w
  pub together : IsTrue a.together ↔ AreTogether w

-- the ledger accounts for what is held, and each receipt stands where it ought to
pub record IsAccounted (w : World) : Type 0 where
  pub custody_is : HoldsWhatIsKept w
  pub sums : SumsAddUp w
  pub loans : AreLoans w
  pub homes : AreAtHome w
  pub together : AreTogether w
