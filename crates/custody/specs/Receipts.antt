-- What is entered in a package's custody, and what it answers. Profile.
use Rattle.std.specs.Prelude.{◌≡◌, ℕ, Bool, true, false, ◌&&◌, List, Option, MatchOption, Contains}
use Rattle.std.specs.List.{list_any}
use Rattle.sqlite.specs.Effect.{Database}
use Rattle.sheet_types.specs.Balance.{names_identity}
use Rattle.sheet_types.specs.Custody.{is_split, ends_at}
use Rattle.sheet_types.specs.Ordered.{has}
use Rattle.sheet_types.specs.Texts.{is_moment}
use Rattle.sheet_types.specs.World.{Package, receipt_key, with_receipt}
use Rattle.sheet_types.specs.declared.frame.Frame.{Frame}
use Rattle.sheet_types.specs.declared.receipt.Receipt.{Receipt}
use Rattle.identity_register.specs.LocalNumbers.{KeepsNumbers}
use Rattle.identity_register.specs.Reads.{Reads, IsFitReceipt}

-- a receipt of an unused number and request, with a moment, whose UUIDs and digests are such
pub record IsNewReceipt (r : Receipt) (p : Package) : Type 0 where
  pub number : has receipt_key (receipt_key r) p.receipts ≡ false
  pub request : has (λ x. x.request) r.request p.receipts ≡ false
  pub fit : IsFitReceipt r
  pub moment : is_moment r.at ≡ true

-- A store that reads as a package to which the receipt is new reads as the package with it afterwards. The rows of
-- items, identities and links are those that were there, each under its number, and no others.
abbrev pub EntersReceipt : Receipt → Database → Database → Type 0
EntersReceipt r old new = (f : Frame) (p : Package) → Reads f p old → IsNewReceipt r p
    → Reads f (with_receipt r p) new × KeepsNumbers old new × KeepsNumbers new old

-- a receipt that the package keeps for a request, or none
abbrev pub IsKept : Package → List ℕ → Option Receipt → Type 0
IsKept p id found = MatchOption found (has (λ r. r.request) id p.receipts ≡ false)
    (λ r. Contains p.receipts r × (r.request ≡ id))

-- a receipt of the package names the identity as that of an item
abbrev pub is_named : Package → List ℕ → Bool
is_named p id = list_any (names_identity id) p.receipts

-- a receipt of the package is that of a split whose target has this identity
abbrev pub was_lent : Package → List ℕ → Bool
was_lent p id = list_any (λ r. is_split r && ends_at r.target id) p.receipts
