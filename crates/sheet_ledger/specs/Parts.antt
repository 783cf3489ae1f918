-- The parts of a balanced world, each by itself. Profile.
use Rattle.std.specs.Prelude.{◌≡◌, ◌↔◌, ⊤, ℕ, ◌+◌, true, false, List, [], ◌∷◌, ◌++◌}
use Rattle.std.specs.Prelude.{Some, length, IsTrue, count_by, sum_by}
use Rattle.std.specs.List.{list_any, AllByRecursion}
use Rattle.sheet_types.specs.Ordered.{has, IsArranged}
use Rattle.sheet_types.specs.Texts.{Entry, size}
use Rattle.sheet_types.specs.World.{World, Package, holdings, receipts_of, moved_key, moved_thing, is_tile, is_medium}
use Rattle.sheet_types.specs.World.{is_row}
use Rattle.sheet_types.specs.Custody.{is_add, is_split, ends_at, custody}
use Rattle.sheet_types.specs.Step.{source_of, target_of}
use Rattle.sheet_types.specs.Balance.{Balanced, IsLedger, MovesFor, IsReceiptOf, CountsFit, IsThing, Agrees}
use Rattle.sheet_types.specs.Balance.{names_identity, is_split_to, holds, AddsUp, IsLoan, IsHome, UndoesHere}
use Rattle.sheet_types.specs.Balance.{archive_of}
use Rattle.sheet_types.specs.declared.receipt.Receipt.{Receipt}

-- each receipt has this fact of those before it
abbrev pub EachAfter : (List Receipt → Receipt → Type 0) → List Receipt → List Receipt → Type 0
EachAfter P past [] = ⊤
EachAfter P past (r ∷ rs) = P past r × EachAfter P (past ++ r ∷ []) rs

-- ---- parts of a sound ledger, of its receipts in the order of their numbers

-- its number is the next
abbrev pub HasNextNumber : List Receipt → Receipt → Type 0
HasNextNumber past r = r.seq ≡ length past + 1

-- no request before has its identity
abbrev pub HasNewRequest : List Receipt → Receipt → Type 0
HasNewRequest past r = has (λ x. x.request) r.request past ≡ false

-- its line is that of an entry which it fits
abbrev pub IsEntered : Receipt → Type 0
IsEntered r = (e : Entry) × IsReceiptOf r e

-- it has the source, the target and the things of an entry
pub record FitsEntry (r : Receipt) (e : Entry) : Type 0 where
  pub leaves : r.source ≡ source_of e
  pub comes_to : r.target ≡ target_of e
  pub moves : MovesFor e r.items

-- what moved are things
abbrev pub HasThings : Receipt → Type 0
HasThings r = AllByRecursion IsThing r.items

-- in their order, each once
abbrev pub IsInOrder : Receipt → Type 0
IsInOrder r = IsArranged moved_key r.items

-- each thing stands in its source by the receipts before
abbrev pub StartsWhereItEnded : List Receipt → Receipt → Type 0
StartsWhereItEnded past r = AllByRecursion (λ m. custody past (moved_thing m) ≡ r.source) r.items

-- what an Add names, no receipt before names
abbrev pub AddsWhatIsNew : List Receipt → Receipt → Type 0
AddsWhatIsNew past r = is_add r ≡ true → AllByRecursion (λ m. list_any (names_identity m.base) past ≡ false)
    r.items

-- what it moves has the size and the digest that the receipts before say
abbrev pub AgreesWithPast : List Receipt → Receipt → Type 0
AgreesWithPast past r = AllByRecursion (λ m. AllByRecursion (λ x. AllByRecursion (Agrees m) x.items) past) r.items

-- a Split has a target that no Split before has, and that is not the archive
abbrev pub LendsNewPackage : List ℕ → List Receipt → Receipt → Type 0
LendsNewPackage archive past r = is_split r ≡ true → (list_any (is_split_to r.target) past ≡ false)
    × (ends_at r.target archive ≡ false)

-- each receipt by itself is one that there may be
pub record AreWellFormed (ledger : List Receipt) : Type 0 where
  pub entered : AllByRecursion IsEntered ledger
  pub things : AllByRecursion HasThings ledger
  pub in_order : AllByRecursion IsInOrder ledger
  pub counts : AllByRecursion CountsFit ledger

-- each follows those before it
pub record FollowEachOther (archive : List ℕ) (ledger : List Receipt) : Type 0 where
  pub numbers : EachAfter HasNextNumber [] ledger
  pub requests : EachAfter HasNewRequest [] ledger
  pub from_source : EachAfter StartsWhereItEnded [] ledger
  pub never_before : EachAfter AddsWhatIsNew [] ledger
  pub agrees : EachAfter AgreesWithPast [] ledger
  pub new_loans : EachAfter (LendsNewPackage archive) [] ledger

-- a sound ledger, part by part
pub record AreSound (archive : List ℕ) (ledger : List Receipt) : Type 0 where
  pub formed : AreWellFormed ledger
  pub follow : FollowEachOther archive ledger

-- ---- parts of the account of what is held

-- custody is what is held
abbrev pub HoldsWhatIsKept : World → Type 0
HoldsWhatIsKept w = (p thing : List ℕ) → IsTrue (holds (holdings w p) thing) ↔
    (custody (receipts_of w) thing ≡ Some p)

-- the five sums are those of what is held
pub record SumsAddUp (w : World) : Type 0 where
  pub tiles : AddsUp w (λ r. r.tiles) (λ p. count_by is_tile p.items)
  pub media : AddsUp w (λ r. r.media) (λ p. count_by is_medium p.items)
  pub rows : AddsUp w (λ r. r.rows) (λ p. count_by is_row p.items)
  pub links : AddsUp w (λ r. r.links) (λ p. length p.links)
  pub bytes : AddsUp w (λ r. r.bytes) (λ p. sum_by (λ i. size i.content) p.items)

-- each loan has the number of its Split, which stands in its parent and which no later Merge undoes
abbrev pub AreLoans : World → Type 0
AreLoans w = AllByRecursion (IsLoan w) w.packages

-- each receipt stands where it was made, or where merges brought it
abbrev pub AreAtHome : World → Type 0
AreAtHome w = AllByRecursion (λ p. AllByRecursion (IsHome w p) p.receipts) w.packages

-- each Merge stands where the Split of its source stands
abbrev pub AreTogether : World → Type 0
AreTogether w = AllByRecursion (λ p. AllByRecursion (UndoesHere w p) p.receipts) w.packages

-- a balanced world, part by part
pub record HasParts (w : World) : Type 0 where
  pub ledger : AreSound (archive_of w) (receipts_of w)
  pub custody_is : HoldsWhatIsKept w
  pub sums : SumsAddUp w
  pub loans : AreLoans w
  pub homes : AreAtHome w
  pub together : AreTogether w

-- a world is balanced exactly where it has all parts
abbrev pub BalancedIsItsParts : Type 0
BalancedIsItsParts = (w : World) → Balanced w ↔ HasParts w

-- a ledger is sound exactly where it has all parts
abbrev pub SoundIsItsParts : Type 0
SoundIsItsParts = (archive : List ℕ) (ledger : List Receipt)
    → IsLedger archive [] ledger ↔ AreSound archive ledger
