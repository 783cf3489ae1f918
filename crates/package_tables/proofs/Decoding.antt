-- A row that no value stands for is in no list of values.
use Rattle.std.proofs.Common.{◌≡◌, ◌∙◌, ℕ, ℤ, zero, suc, List, [], ◌∷◌, map, Result, Ok, Err}
use Rattle.std.proofs.Common.{Some, sym, ap, subst}
use Rattle.std.specs.Prelude.{◌≢◌, slice_get, IsUtf8, IfErr, IsErrAnd}
use Rattle.std.specs.List.{AllByRecursion}
use Rattle.sqlite.specs.Order.{Row, column}
use Rattle.sqlite.specs.declared.types.Value.TheVariants.{Int, Text, Blob}
use Rattle.package_tables.specs.Shown.{AreTexts}
use Rattle.package_tables.specs.declared.fault.Fault.{Fault}
use Rattle.package_tables.specs.declared.fault.Fault.TheVariants.{StoreFault}

missed : {T : Type 0} (shown : T → Row) (rows : List Row) (at : ℕ) (row : Row) → slice_get rows at ≡ Some row
    → (AreTexts row → (value : T) → row ≢ shown value) → AllByRecursion AreTexts rows → (values : List T)
    → rows ≢ map shown values
missed shown [] at row there none texts values same = absurd (let e = there in cc)
missed shown (r ∷ rows) zero row there none texts [] same = absurd (let e = same in cc)
missed shown (r ∷ rows) zero row there none texts (v ∷ vs) same =
    let is : r ≡ row = cc in
    let says : r ≡ shown v = cc in
    none (subst AreTexts is texts.0) v cc
missed shown (r ∷ rows) (suc at) row there none texts [] same = absurd (let e = same in cc)
missed shown (r ∷ rows) (suc at) row there none texts (v ∷ vs) same =
    let rest : rows ≡ map shown vs = cc in
    missed shown rows at row there none texts.1 vs rest

-- the call failed for one of the rows
pub none_shown : {T V : Type 0} (shown : T → Row) (rows : List Row) (result : Result V Fault) (fault : Fault)
    → IsErrAnd result (λ f. f ≡ fault) → (at : ℕ) (row : Row) → slice_get rows at ≡ Some row
    → (fault ≡ StoreFault → AreTexts row → (value : T) → row ≢ shown value)
    → IfErr result (λ f. f ≡ StoreFault → AllByRecursion AreTexts rows → (values : List T)
    → rows ≢ map shown values)
none_shown shown rows (Ok x) fault told at row there none = absurd told
none_shown shown rows (Err f) fault told at row there none = λ store texts values same.
    missed shown rows at row there (none (let e = store in cc)) texts values same

-- a column could not be read, so the row shows no value
module _ {T V : Type 0} (shown : T → Row) (at : ℕ) (row : Row) (result : Result V Fault) (fault : Fault)
    (told : IsErrAnd result (λ f. f ≡ fault)) where
  abbrev ShowsNone : Result V Fault → Type 0
  ShowsNone result = IfErr result (λ f. f ≡ StoreFault → AreTexts row → (value : T) → row ≢ shown value)

  by_fault : (fault ≡ StoreFault → AreTexts row → (value : T) → row ≢ shown value) → ShowsNone result
  by_fault none = by result told
    where
      by : (result : Result V Fault) → IsErrAnd result (λ f. f ≡ fault) → ShowsNone result
      by (Ok x) told = absurd told
      by (Err f) told = λ store. none (let e = store in cc)

  pub no_number : (fault ≡ StoreFault → (number : ℤ) → column row at ≢ Int number) → (number : T → ℤ)
      → ((x : T) → column (shown x) at ≡ Int (number x)) → ShowsNone result
  no_number none number says = by_fault (λ store texts value same. none store (number value)
      (ap (λ r. column r at) same ∙ says value))

  pub no_text : (fault ≡ StoreFault → (text : List ℕ) → IsUtf8 text → column row at ≢ Text text)
      → (text : T → List ℕ) → ((x : T) → column (shown x) at ≡ Text (text x)) → ShowsNone result
  no_text none text says = by_fault (λ store texts value same. let is =
      ap (λ r. column r at) same ∙ says value in none store (text value) (texts at (text value) is) is)

  pub no_bytes : (fault ≡ StoreFault → (bytes : List ℕ) → column row at ≢ Blob bytes)
      → (bytes : T → List ℕ) → ((x : T) → column (shown x) at ≡ Blob (bytes x)) → ShowsNone result
  no_bytes none bytes says = by_fault (λ store texts value same. none store (bytes value)
      (ap (λ r. column r at) same ∙ says value))
