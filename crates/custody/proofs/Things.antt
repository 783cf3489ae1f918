-- The rows of things, as far as a loop has read them, and the values that are fit by their types.
use Rattle.std.proofs.Common.{◌≡◌, ℕ, suc, ℤ, ◌<◌, ◌≤◌, ◌+◌, take, get_or, length, List, []}
use Rattle.std.proofs.Common.{◌∷◌, ◌++◌, map, refl}
use Rattle.std.proofs.Common.{sym, ap, subst, ◌∙◌, true, arith}
use Rattle.std.specs.List.{AllByRecursion, enumerate_from}
use Rattle.std.proofs.lemmas.List.{take_more, take_all, length_push}
use Rattle.sheet_types.specs.Lines.{is_bytes}
use Rattle.sheet_types.specs.declared.receipt.Moved.{Moved}
use Rattle.sheet_types.proofs.Every.{All-append}
use Rattle.sheet_types.proofs.Fitting.{bytes_fit}
use Rattle.package_tables.specs.declared.rows.MovedRow.{MovedRow}
use Rattle.identity_register.specs.Reads.{is_fit_moved}
use Rattle.identity_register.proofs.Uuids.{small_at}
use Rattle.custody.specs.Entries.{row_at, rows_at}

-- so many bytes are what the test says
pub fits : (n : ℕ) (bytes : List ℕ) → length bytes ≡ n → ((k : ℕ) → k < n → get_or bytes k 0 < 256)
    → is_bytes n bytes ≡ true
fits n bytes long small = bytes_fit n bytes long (small_at bytes (λ k less. small k (omega (arith, long, less))))

-- what rows that are read so far say
pub record AreRead (seq : ℤ) (read : List MovedRow) (things : List Moved) : Type 0 where
  pub rows : read ≡ rows_at seq things
  pub fit : AllByRecursion (λ m. is_fit_moved m ≡ true) things

from : ℤ → ℕ → List Moved → List MovedRow
from seq n things = map (λ m. row_at seq m.0 m.1) (enumerate_from n things)

rows_more : (seq : ℤ) (n : ℕ) (things : List Moved) (x : Moved)
    → from seq n (things ++ x ∷ []) ≡ from seq n things ++ row_at seq (n + length things) x ∷ []
unfolding from
rows_more seq n [] x = let e : n ≡ n + 0 = omega arith in ap (λ k. row_at seq k x ∷ []) e
rows_more seq n (y ∷ ys) x =
    let e : n + 1 + length ys ≡ n + suc (length ys) = omega arith in
    ap (λ rows. row_at seq n y ∷ rows) (rows_more seq (n + 1) ys x
    ∙ ap (λ k. from seq (n + 1) ys ++ row_at seq k x ∷ []) e)

pub none_read : (seq : ℤ) (rows : List MovedRow) → AreRead seq (take 0 rows) []
none_read seq rows = record { rows = refl; fit = tt }

-- the row that comes next is that of a thing at the next position
pub one_read : (seq : ℤ) (rows : List MovedRow) (things : List Moved) (i : ℕ) (row : MovedRow) (x : Moved)
    → i < length rows → row ≡ get_or rows i row → length things ≡ i → AreRead seq (take i rows) things
    → row ≡ row_at seq i x → is_fit_moved x ≡ true → AreRead seq (take (i + 1) rows) (things ++ x ∷ [])
unfolding from
one_read seq rows things i row x less is long so_far e fit = record {
  rows =
      let on : i ≡ 0 + length things = omega (arith, long) in
      take_more rows i row less ∙ ap (λ r. take i rows ++ r ∷ []) (sym is ∙ e ∙ ap (λ k. row_at seq k x) on)
      ∙ ap (λ front. front ++ row_at seq (0 + length things) x ∷ []) so_far.rows
      ∙ sym (rows_more seq 0 things x);
  fit = All-append (λ m. is_fit_moved m ≡ true) things (x ∷ []) so_far.fit (fit, tt);
}

pub all_read : (seq : ℤ) (rows : List MovedRow) (things : List Moved) (i : ℕ) → length rows ≤ i
    → AreRead seq (take i rows) things → AreRead seq rows things
all_read seq rows things i long it = subst (λ r. AreRead seq r things) (take_all i rows long) it

-- one thing more
pub pushed : (things : List Moved) (x : Moved) (i : ℕ) → length things ≡ i
    → length (things ++ x ∷ []) ≡ i + 1
pushed things x i long = grind (arith, length_push things x, long)
