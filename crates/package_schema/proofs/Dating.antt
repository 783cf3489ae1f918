-- Rows in another order are dated alike.
use Rattle.std.proofs.Common.{◌≡◌, Bool, true, List, [], ◌∷◌, refl, ap, subst, IsTrue}
use Rattle.std.specs.Prelude.{◌↔◌, IsPermutation, filter}
use Rattle.std.specs.List.{AllByRecursion}
use Rattle.std.proofs.lemmas.List.Sorted.{IsPermutation-sym}
use Rattle.sqlite_trees.proofs.ListLemmas.{all-permutation}
use Rattle.package_tables.specs.Calls.{AreThose}
use Rattle.package_tables.specs.declared.rows.ContentsRow.{ContentsRow}
use Rattle.package_schema.specs.Frames.{HasMoment}

-- all rows pass
pub all_pass : {X : Type 0} (xs : List X) → filter (λ x. true) xs ≡ xs
all_pass [] = refl
all_pass (x ∷ xs) = ap (λ l. x ∷ l) (all_pass xs)

pub dated_moved : (rows found : List ContentsRow) (b : Bool) → AreThose (λ x. true) rows found
    → (IsTrue b ↔ AllByRecursion HasMoment found) → IsTrue b ↔ AllByRecursion HasMoment rows
dated_moved rows found b those h =
    let moves : IsPermutation rows found = subst (λ l. IsPermutation l found) (all_pass rows) those in (
      λ yes. all-permutation HasMoment found rows (IsPermutation-sym rows found moves) (h.0 yes),
      λ all. h.1
          (all-permutation HasMoment rows found moves all),
    )
