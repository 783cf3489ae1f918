-- What a split and a merge make of the stores that they write, each in one transaction. Profile.
use Rattle.std.specs.Prelude.{◌≡◌, ℕ, true, List}
use Rattle.sqlite.specs.Effect.{Database}
use Rattle.sheet_types.specs.Cut.{Cut}
use Rattle.sheet_types.specs.Step.{less}
use Rattle.sheet_types.specs.Texts.{is_moment}
use Rattle.sheet_types.specs.World.{Package, with_receipt}
use Rattle.sheet_types.specs.declared.frame.Frame.{Frame}
use Rattle.sheet_types.specs.declared.receipt.Receipt.{Receipt}
use Rattle.custody.specs.Receipts.{IsNewReceipt}
use Rattle.identity_register.specs.Calls.{HasLastChange}
use Rattle.identity_register.specs.LocalNumbers.{KeepsNumbers}
use Rattle.identity_register.specs.Reads.{Reads}
use Rattle.custody.specs.Homing.{AreApart, with_receipts_of}
use Rattle.transfer.specs.Parcels.{with_cut}
use Rattle.register_lending.specs.Selecting.{IsSelectionOf, IsPart, MayCome}
use Rattle.identity_register.specs.declared.selection.Selection.{Selection}

-- ---- the store of a child

-- What was selected of the package that another database reads as comes to this one, where this is a moment, and at
-- it. What stood keeps its number.
abbrev pub Fills : Selection → List ℕ → Database → Database → Database → Type 0
Fills s at source old new = is_moment at ≡ true → (c : Cut) (f : Frame) (from p : Package) → IsSelectionOf c s
    → Reads f from source → IsPart c from → Reads f p old → MayCome c p → Reads f (with_cut c p) new
    × HasLastChange f at new × KeepsNumbers old new

-- ---- the store of the parent that a split takes from

-- the parent without the cut, with the receipt of the split
abbrev pub lent : Receipt → Cut → Package → Package
lent r c p = with_receipt r (less c p)

-- What was selected leaves the package, the receipt is entered, and its moment is that of the last change. What stays
-- keeps its number.
abbrev pub Lends : Receipt → Selection → Database → Database → Type 0
Lends r s old new = (c : Cut) (f : Frame) (p : Package) → IsSelectionOf c s → Reads f p old → IsPart c p
    → IsNewReceipt r (less c p) → Reads f (lent r c p) new × HasLastChange f r.at new × KeepsNumbers new old

-- ---- the store of the parent that a merge gives to

-- the parent with the things and the receipts of the child, and the receipt of the merge
abbrev pub returned : Receipt → Cut → Package → Package → Package
returned r c child p = with_receipt r (with_receipts_of child (with_cut c p))

-- what has to hold of the child and its parent
pub record MayReturn (r : Receipt) (c : Cut) (child p : Package) : Type 0 where
  pub part : IsPart c child
  pub come : MayCome c p
  pub apart : AreApart child (with_cut c p)
  pub receipt : IsNewReceipt r (with_receipts_of child (with_cut c p))

-- What was selected of the child and its receipts come to the parent, the receipt is entered, and its moment is that
-- of the last change. What stood keeps its number.
abbrev pub TakesHome : Receipt → Selection → Database → Database → Database → Type 0
TakesHome r s source old new = (c : Cut) (f : Frame) (child p : Package) → IsSelectionOf c s → Reads f child source
    → Reads f p old → MayReturn r c child p → Reads f (returned r c child p) new × HasLastChange f r.at new
    × KeepsNumbers old new

-- the first half of it
abbrev pub BringsBoth : Selection → Database → Database → Database → Type 0
BringsBoth s source old new = (c : Cut) (f : Frame) (child p : Package) → IsSelectionOf c s → Reads f child source
    → IsPart c child → Reads f p old → MayCome c p → AreApart child (with_cut c p)
    → Reads f (with_receipts_of child (with_cut c p)) new × KeepsNumbers old new
