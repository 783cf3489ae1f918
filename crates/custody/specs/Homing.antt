-- What becomes of a package when the receipts of another come home to it. Profile.
use Rattle.std.specs.Prelude.{◌≡◌, ℤ, false, ◌++◌, pos, Contains}
use Rattle.std.specs.List.{AllByRecursion}
use Rattle.sqlite.specs.Effect.{Database}
use Rattle.sqlite.specs.State.{State, HasCleanDisk}
use Rattle.store_sql.specs.Writing.{EachChained}
use Rattle.sheet_types.specs.Ordered.{arranged, has}
use Rattle.sheet_types.specs.World.{Package, receipt_key, with_receipt}
use Rattle.sheet_types.specs.declared.frame.Frame.{Frame}
use Rattle.sheet_types.specs.declared.receipt.Receipt.{Receipt}
use Rattle.package_tables.specs.declared.rows.ReceiptRow.{ReceiptRow}
use Rattle.identity_register.specs.LocalNumbers.{KeepsNumbers, Grows}
use Rattle.identity_register.specs.Reads.{Reads, receipt_row, moved_rows}
use Rattle.custody.specs.Entries.{Enters}

-- a package with the receipts of another beside its own
abbrev pub with_receipts_of : Package → Package → Package
with_receipts_of from p = record p { receipts = arranged receipt_key (from.receipts ++ p.receipts) }

-- no number of a receipt stands in both
abbrev pub AreApart : Package → Package → Type 0
AreApart from p = AllByRecursion (λ r. has receipt_key (receipt_key r) p.receipts ≡ false) from.receipts

-- The receipts of the package that another database reads as come to this one, and what stood keeps its number.
abbrev pub BringsHome : Database → Database → Database → Type 0
BringsHome source old new =
    (f : Frame) (from p : Package) → Reads f from source → Reads f p old → AreApart from p
    → Reads f (with_receipts_of from p) new × KeepsNumbers old new

-- What the receipt of a number moved in another database comes to this one.
abbrev pub BringsThings : ℤ → Database → Database → Database → Type 0
BringsThings seq source old new = (f : Frame) (from : Package) → Reads f from source → (r : Receipt)
    → Contains from.receipts r → pos r.seq ≡ seq → EachChained Enters (moved_rows r) old new

-- The receipt of a row of another database comes to this one.
abbrev pub BringsReceipt : ReceiptRow → Database → Database → Database → Type 0
BringsReceipt row source old new = (f : Frame) (from : Package) → Reads f from source → (r : Receipt)
    → Contains from.receipts r → receipt_row r ≡ row → Grows
    (λ p. has receipt_key (receipt_key r) p.receipts ≡ false)
    (with_receipt r) old new

-- the change, where the disk that was read gave back what was written
abbrev pub FromClean : State → (Database → Database → Type 0) → Database → Database → Type 0
FromClean source Change old new = HasCleanDisk source → Change old new
