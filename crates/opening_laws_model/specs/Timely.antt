-- What each request keeps beside the rules of a register: moments and bounds, which the opening of a world asks of
-- its stores. Profile.
use Rattle.std.specs.Prelude.{◌≡◌, ◌≤◌, true, length, MatchOption}
use Rattle.std.specs.List.{AllByRecursion}
use Rattle.sheet_types.specs.Balance.{IsThing}
use Rattle.sheet_types.specs.Refuse.{greatest_depth, greatest_receipts}
use Rattle.sheet_types.specs.Texts.{is_moment}
use Rattle.sheet_types.specs.World.{World, Package, receipts_of}
use Rattle.sheet_types.specs.declared.receipt.Receipt.{Receipt}

-- Each receipt says a moment, and there are no more of them than a world may have.
pub record IsTimely (w : World) : Type 0 where
  pub moments : AllByRecursion (λ r. is_moment r.at ≡ true) (receipts_of w)
  pub counted : length (receipts_of w) ≤ greatest_receipts

-- ---- what follows of single packages

-- The number of a receipt is one that may be, its moment is one, and each thing that it moved has its form.
pub record IsSound (r : Receipt) : Type 0 where
  pub low : 1 ≤ r.seq
  pub high : r.seq ≤ greatest_receipts
  pub moment : is_moment r.at ≡ true
  pub things : AllByRecursion IsThing r.items

-- An archive stands at depth 0 by no loan, a loan below it by a number that may be.
pub record IsLevelled (p : Package) : Type 0 where
  pub depth : p.depth ≤ greatest_depth
  pub loan : p.loan ≤ greatest_receipts
  pub level : MatchOption p.parent ((p.depth ≡ 0) × (p.loan ≡ 0)) (λ _. (1 ≤ p.depth) × (1 ≤ p.loan))

pub record IsInBounds (p : Package) : Type 0 where
  pub levelled : IsLevelled p
  pub receipts : AllByRecursion IsSound p.receipts
