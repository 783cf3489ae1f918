-- What rows in their ranges say. Profile.
use Rattle.std.specs.Prelude.{◌≡◌, ◌⊎◌, ℕ, ◌+◌, ℤ, ◌<ℤ◌, ◌≤ℤ◌, Bool, true, not}
use Rattle.std.specs.Prelude.{◌&&◌, pos, if◌then◌else◌, List, [], false, int_le, int_lt, Option, Some, None}
use Rattle.std.specs.Prelude.{◌∷◌, map, flat_map, IsPermutation}
use Rattle.std.specs.List.{AllByRecursion, enumerate_from}
use Rattle.sqlite_trees.specs.Tree.{IsAscending}
use Rattle.sheet_types.specs.Ordered.{IsArranged}
use Rattle.sheet_types.specs.World.{receipt_key}
use Rattle.sheet_types.specs.declared.receipt.Moved.{Moved}
use Rattle.sheet_types.specs.declared.receipt.Receipt.{Receipt}
use Rattle.sheet_types.specs.declared.receipt.Sums.{Sums}
use Rattle.package_tables.specs.Calls.{AreThose}
use Rattle.package_tables.specs.Package.{Tables}
use Rattle.package_tables.specs.declared.rows.MovedRow.{MovedRow}
use Rattle.package_tables.specs.declared.rows.ReceiptRow.{ReceiptRow}
use Rattle.identity_register.specs.Reads.{IsFitReceipt, SaysReceipts, is_fit_moved, receipt_row, moved_row, moved_rows}
use Rattle.package_receipts.specs.Ranges.{AreCounts, IsMovedInRange, IsReceiptInRange, AreReceiptsInRange}

-- the row of a thing, at a place under a number
abbrev pub thing_row : ℤ → ℤ → Moved → MovedRow
thing_row seq position m = record (moved_row 0 0 m) { seq = seq; position = position }

-- an item has a digest and no other end, a link another end and no digest
abbrev pub has_parts : Bool → Bool → Bool → Bool
has_parts item other digest = if item then not other && digest else other && not digest

-- a row in its ranges says this thing
pub record IsThingOf (row : MovedRow) (m : Moved) : Type 0 where
  pub range : IsMovedInRange row
  pub is : row ≡ thing_row row.seq row.position m
  pub fit : is_fit_moved m ≡ true

-- the counts of a row
pub record HasSums (row : ReceiptRow) (s : Sums) : Type 0 where
  pub range : AreCounts row
  pub tiles : row.n_tiles ≡ pos s.tiles
  pub media : row.n_media ≡ pos s.media
  pub rows : row.n_rows ≡ pos s.rows
  pub links : row.n_links ≡ pos s.links
  pub bytes : row.n_bytes ≡ pos s.bytes

-- Rows in their ranges stand under this number at this place and those after it, in turn.
abbrev pub StandFrom : ℤ → ℕ → List MovedRow → Type 0
StandFrom seq n [] = Unit {0}
StandFrom seq n (row ∷ rows) = IsMovedInRange row × (row.seq ≡ seq) × (row.position ≡ pos n)
    × StandFrom seq (n + 1) rows

-- the rows of things under a number, at this place and those after it
abbrev pub things_rows : ℤ → ℕ → List Moved → List MovedRow
things_rows seq n things = map (λ m. thing_row seq (pos m.0) m.1) (enumerate_from n things)

-- such rows say these things
pub record AreThingsOf (seq : ℤ) (rows : List MovedRow) (things : List Moved) : Type 0 where
  pub stand : StandFrom seq 0 rows
  pub are : rows ≡ things_rows seq 0 things
  pub fit : AllByRecursion (λ m. is_fit_moved m ≡ true) things

-- a row and the rows of what was moved are those of this receipt
pub record IsReceiptAt (row : ReceiptRow) (rows : List MovedRow) (r : Receipt) : Type 0 where
  pub range : IsReceiptInRange row
  pub stand : StandFrom row.seq 0 rows
  pub is : receipt_row r ≡ row
  pub moved : rows ≡ moved_rows r
  pub fit : IsFitReceipt r

-- ---- both tables, in order

-- the number of a receipt is below another's
abbrev pub IsEarlier : ReceiptRow → ReceiptRow → Type 0
IsEarlier a b = a.seq <ℤ b.seq

-- a row of a thing stands before another, or at the same place
abbrev pub InTurn : MovedRow → MovedRow → Type 0
InTurn a b = (a.seq <ℤ b.seq) ⊎ ((a.seq ≡ b.seq) × (a.position ≤ℤ b.position))

-- the rows are in their ranges, and are those of these receipts
pub record AreReceipts (receipts : List ReceiptRow) (moved : List MovedRow) (entered : List Receipt) : Type 0 where
  pub range : AreReceiptsInRange receipts moved
  pub rows : receipts ≡ map receipt_row entered
  pub things : moved ≡ flat_map moved_rows entered
  pub fit : AllByRecursion IsFitReceipt entered

-- ---- whole tables, in whatever order the rows of things came

-- Rows of receipts in the order of their numbers and rows of things are those of these receipts.
pub record AreReadAs (receipts : List ReceiptRow) (moved : List MovedRow) (entered : List Receipt) : Type 0 where
  pub rising : IsAscending IsEarlier receipts
  pub sorted : List MovedRow
  pub same : IsPermutation moved sorted
  pub are : AreReceipts receipts sorted entered

-- The tables are in their ranges, and say these receipts, which stand in the order of their numbers.
pub record AreSaid (t : Tables) (entered : List Receipt) : Type 0 where
  pub range : AreReceiptsInRange t.receipts t.moved
  pub order : IsArranged receipt_key entered
  pub says : SaysReceipts entered entered t.receipts t.moved

-- ---- a part of the tables, by the numbers of the receipts

-- a number comes after another; any does where there is no other
abbrev pub is_past : Option ℤ → ℤ → Bool
is_past None number = true
is_past (Some before) number = int_lt before number

-- and not after one more; any does where there is none
abbrev pub is_between : Option ℤ → Option ℤ → ℤ → Bool
is_between None None number = true
is_between None (Some last) number = int_le number last
is_between (Some before) None number = int_lt before number
is_between (Some before) (Some last) number = int_lt before number && int_le number last

-- The rows of both tables under the numbers that pass are in their ranges, and say these receipts, which stand in the
-- order of their numbers.
pub record AreSaidUnder (passes : ℤ → Bool) (t : Tables) (entered : List Receipt) : Type 0 where
  pub rows : AreThose (λ r. passes r.seq) t.receipts (map receipt_row entered)
  pub things : AreThose (λ m. passes m.seq) t.moved (flat_map moved_rows entered)
  pub rising : IsAscending IsEarlier (map receipt_row entered)
  pub range : AreReceiptsInRange (map receipt_row entered) (flat_map moved_rows entered)
  pub fit : AllByRecursion IsFitReceipt entered

-- the receipts up to a number; none where there is no number
abbrev pub AreSaidTo : Option ℤ → Tables → List Receipt → Type 0
AreSaidTo None t entered = entered ≡ []
AreSaidTo (Some last) t entered = AreSaidUnder (λ number. int_le number last) t entered

-- those up to a number; all where there is no number
abbrev pub AreSaidUntil : Option ℤ → Tables → List Receipt → Type 0
AreSaidUntil end t entered = AreSaidUnder (is_between None end) t entered

-- The receipts up to one number have become those up to another. Else rows of the tables are not in their ranges.
abbrev pub GoesOn : Option ℤ → Option ℤ → Tables → List Receipt → List Receipt → Bool → Type 0
GoesOn after end t old new true = AreSaidTo after t old → AreSaidUntil end t new
GoesOn after end t old new false = AreReceiptsInRange t.receipts t.moved → ⊥

-- Rows of both tables, in order and in their ranges, are those of some receipts.
abbrev pub RowsSayReceipts : Type 0
RowsSayReceipts = (receipts : List ReceiptRow) (moved : List MovedRow) → IsAscending IsEarlier receipts
    → IsAscending InTurn moved → AreReceiptsInRange receipts moved → (entered : List Receipt)
    × AreReceipts receipts moved entered
