-- Whose a store says that it is, from the rows of its table of heads.
use Rattle.std.proofs.Common.{◌≡◌, ℤ, List, [], ◌∷◌, length, Option, Some, None, Ordering, refl, sym}
use Rattle.std.proofs.Common.{ap, subst}
use Rattle.std.proofs.Common.{IsTrue, arith}
use Rattle.std.specs.Prelude.{◌↔◌, IfSome, IfNone, IsPermutation, false}
use Rattle.std.specs.List.{AllByRecursion}
use Rattle.std.specs.Option.{option_map}
use Rattle.std.proofs.lemmas.Bool.{false≢true}
use Rattle.std.proofs.lemmas.List.Sorted.{IsPermutation-sym, length_permutation}
use Rattle.sqlite.specs.Effect.{Database, IsDatabase}
use Rattle.sqlite_trees.proofs.ListLemmas.{all-permutation}
use Rattle.sheet_types.specs.Opening.{Head}
use Rattle.store_sql.specs.Writing.{AreKeyed}
use Rattle.package_tables.specs.Form.{IsPlaced}
use Rattle.package_tables.specs.Calls.{AreAll}
use Rattle.package_tables.specs.Shape.{IsFormed, rows_of}
use Rattle.package_tables.specs.Shapes.{head_shape}
use Rattle.package_tables.specs.Tables.{sheet_package}
use Rattle.package_tables.specs.declared.rows.HeadRow.{HeadRow}
use Rattle.package_schema.specs.Heads.{head_said, IsHeadOfAt, ReadsHeadAt}
use Rattle.package_schema.specs.declared.heads.StoreHead.{StoreHead}
use Rattle.package_schema.proofs.Forming.{formed_needed}
use Rattle.package_schema.proofs.Plain.{heads_plain}

-- a list of one element has one order
pub single : {X : Type 0} (xs ys : List X) (y : X) → IsPermutation xs ys → ys ≡ y ∷ [] → xs ≡ y ∷ []
single {X} xs ys y same is =
    let one : length ys ≡ 1 = ap length is in
    let long : length xs ≡ 1 = omega (arith, length_permutation xs ys same, one) in
    at xs long (all-permutation (λ z. z ≡ y) ys xs (IsPermutation-sym xs ys same)
    (subst (AllByRecursion (λ z. z ≡ y)) (sym is) (refl, tt)))
  where
    at : (xs : List X) → length xs ≡ 1 → AllByRecursion (λ z. z ≡ y) xs → xs ≡ y ∷ []
    at [] long all = absurd (omega (arith, long))
    at (x ∷ []) long all = ap (λ z. z ∷ []) all.0
    at (x ∷ z ∷ zs) long all = absurd (omega (arith, long))

-- the rows say this in any order
moved_head : (v : ℤ) (xs ys : List HeadRow) (head : Head) → IsPermutation xs ys → IsHeadOfAt v ys head
    → IsHeadOfAt v xs head
moved_head v xs ys head same h = (h.0, single xs ys h.0 same h.1, h.2)

-- what a look for the table and then at its rows tells
pub none_placed : (v : ℤ) (db : Database) (placed : IsTrue false ↔ IsPlaced db.schema sheet_package)
    → ReadsHeadAt v db None
none_placed v db placed head is = false≢true (placed.1 is.0.placed)

pub head_read : (v : ℤ) (cmp : HeadRow → HeadRow → Ordering) (db : Database) (sound : IsDatabase db)
    (keyed : AreKeyed db) (placed : IsPlaced db.schema sheet_package) (rows : List HeadRow)
    → (IsFormed head_shape db → AreAll cmp (rows_of head_shape db) rows)
    → (found : Option StoreHead) → IfSome found (λ h. IsHeadOfAt v rows (head_said h))
    → IfNone found ((head : Head) → IsHeadOfAt v rows head → ⊥)
    → ReadsHeadAt v db (option_map head_said found)
head_read v cmp db sound keyed placed rows all (Some h) some none =
    let formed = formed_needed head_shape heads_plain db sound keyed placed refl in
    (formed, moved_head v (rows_of head_shape db) rows (head_said h) (all formed).0 some)
head_read v cmp db sound keyed placed rows all None some none =
    λ head is. none head (moved_head v rows (rows_of head_shape db) head (IsPermutation-sym _ _ (all is.0).0) is.1)
