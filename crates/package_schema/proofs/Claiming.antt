-- What the receipts of a store claim, from the rows of their table.
use Rattle.std.proofs.Common.{◌≡◌, ◌∙◌, ℕ, List, [], ◌∷◌, map, Bool, true, false, Less, refl, sym}
use Rattle.std.proofs.Common.{ap, IsTrue}
use Rattle.std.specs.Prelude.{◌↔◌, if◌then◌else◌}
use Rattle.std.specs.List.{AllByRecursion}
use Rattle.std.specs.Ordering.{on, int_cmp}
use Rattle.std.proofs.lemmas.Bool.{false≢true}
use Rattle.std.proofs.lemmas.List.Sorted.{IsPermutation-trans}
use Rattle.sqlite.specs.Effect.{Database, IsDatabase}
use Rattle.sqlite.specs.Order.{Row}
use Rattle.sqlite.specs.Tree.{rowid, IsTable}
use Rattle.sqlite.specs.declared.types.Value.TheVariants.{Int}
use Rattle.sqlite_value.specs.Order.{value_cmp}
use Rattle.sqlite_value.proofs.OrderLemmas.{value_cmp-Int}
use Rattle.sqlite_trees.specs.Tree.{IsAscending}
use Rattle.sqlite_trees.proofs.ListLemmas.{map-map}
use Rattle.sheet_types.specs.Ordered.{arranged, put, is_before}
use Rattle.sheet_types.specs.Opening.{Claim}
use Rattle.store_sql.specs.Writing.{AreKeyed}
use Rattle.package_tables.specs.Form.{IsPlaced}
use Rattle.package_tables.specs.Calls.{AreAll}
use Rattle.package_tables.specs.Damaged.{ReadsClaims, claim_of_row}
use Rattle.package_tables.specs.Shape.{IsFormed, IsStored, rows_of, stored_rows}
use Rattle.package_tables.specs.Shapes.{receipt_shape, number_key}
use Rattle.package_tables.specs.Tables.{sheet_receipts}
use Rattle.package_tables.specs.declared.rows.ReceiptRow.{ReceiptRow}
use Rattle.package_tables.proofs.Reading.{arranged_permutation}
use Rattle.package_schema.specs.Heads.{claim_said, store_claim}
use Rattle.package_schema.specs.declared.claims.StoreClaim.{StoreClaim}
use Rattle.package_schema.proofs.Ascending.{Up, less_is, sorted_same}
use Rattle.package_schema.proofs.Forming.{formed_needed}
use Rattle.package_schema.proofs.Plain.{receipts_plain}

-- what a list is arranged by may be read of the elements or of what they become
module _ {A B : Type 0} (f : A → B) (key : B → List ℕ) where
  map_put : (x : A) (xs : List A) → map f (put (λ a. key (f a)) x xs) ≡ put key (f x) (map f xs)
  map_put x [] = refl
  map_put x (y ∷ ys) = one (is_before (key (f y)) (key (f x))) (map_put x ys)
    where
      one : (b : Bool) → map f (put (λ a. key (f a)) x ys) ≡ put key (f x) (map f ys)
          → map f (if b then y ∷ put (λ a. key (f a)) x ys else x ∷ y ∷ ys)
          ≡ (if b then f y ∷ put key (f x) (map f ys) else f x ∷ f y ∷ map f ys)
      one true more = ap (λ l. f y ∷ l) more
      one false more = refl

  pub map_arranged : (xs : List A) → map f (arranged (λ a. key (f a)) xs) ≡ arranged key (map f xs)
  map_arranged [] = refl
  map_arranged (x ∷ xs) = map_put x (arranged (λ a. key (f a)) xs) ∙ ap (put key (f x)) (map_arranged xs)

-- the rows as they are stored come by their numbers, which are their rowids
rises : (rows : List Row) → IsTable rows → AllByRecursion (IsStored receipt_shape) rows
    → IsAscending (Up (λ (r : ReceiptRow). r.seq)) (map receipt_shape.typed rows)
rises [] up stored = tt
rises (r ∷ rows) up stored = (each rows up.0 stored.1, rises rows up.1 stored.1)
  where
    each : (rows : List Row) → AllByRecursion (λ s. value_cmp (rowid r) (rowid s) ≡ Less) rows
        → AllByRecursion (IsStored receipt_shape) rows → AllByRecursion
        (Up (λ (r : ReceiptRow). r.seq) (receipt_shape.typed r)) (map receipt_shape.typed rows)
    each [] less are = tt
    each (s ∷ rows) less are =
        let first : rowid r ≡ Int (receipt_shape.typed r).seq = ap rowid (sym stored.0) in
        let second : rowid s ≡ Int (receipt_shape.typed s).seq = ap rowid (sym are.0) in
        let same : value_cmp (rowid r) (rowid s) ≡ int_cmp (receipt_shape.typed r).seq (receipt_shape.typed s).seq =
        (λ i. value_cmp (first i) (second i)) ∙ value_cmp-Int (receipt_shape.typed r).seq
        (receipt_shape.typed s).seq in
        (less_is (receipt_shape.typed r).seq (receipt_shape.typed s).seq (sym same ∙ less.0), each rows less.1 are.1)

abbrev claim_key : Claim → List ℕ
claim_key c = number_key c.seq

pub no_claims : (db : Database) → (IsTrue false ↔ IsPlaced db.schema sheet_receipts) → ReadsClaims db []
no_claims db placed = (λ formed. absurd (false≢true (placed.1 formed.placed)), λ none. refl)

pub claims_read : (db : Database) (sound : IsDatabase db) (keyed : AreKeyed db)
    (placed : IsPlaced db.schema sheet_receipts) (rows : List ReceiptRow)
    → (IsFormed receipt_shape db → AreAll (on (λ x. x.seq) int_cmp) (rows_of receipt_shape db) rows)
    → (claims sorted : List StoreClaim) → claims ≡ map store_claim rows
    → sorted ≡ arranged (λ c. number_key c.seq) claims → ReadsClaims db (map claim_said sorted)
claims_read db sound keyed placed rows all claims sorted said is =
    let formed = formed_needed receipt_shape receipts_plain db sound keyed placed refl in
    let typed = map receipt_shape.typed (stored_rows receipt_shape db) in
    let found = all formed in
    let same : rows ≡ typed = sorted_same (λ (r : ReceiptRow). r.seq) typed rows
    (rises (stored_rows receipt_shape db) formed.keyed.rises formed.stored)
    (IsPermutation-trans typed (rows_of receipt_shape db) rows (arranged_permutation receipt_shape.key typed)
    found.0) found.1 in (
      λ _. ap (map claim_said) is ∙ map_arranged claim_said claim_key claims
          ∙ ap (arranged claim_key) (ap (map claim_said) said ∙ map-map claim_said store_claim rows
          ∙ ap (map claim_of_row) same) ∙ sym (map_arranged claim_of_row claim_key typed),
      λ none. absurd (none formed),
    )
