-- The one head of a package.
use Rattle.std.proofs.Common.{◌≡◌, ◌∙◌, List, [], ◌∷◌, pos, sym, subst, inl, inr, refl}
use Rattle.std.specs.Prelude.{ℕ, map}
use Rattle.std.specs.List.{AllZip}
use Rattle.std.specs.Ordering.{on, int_cmp}
use Rattle.std.proofs.Common.{ap}
use Rattle.sheet_types.proofs.Same.{In}
use Rattle.sheet_types.specs.World.{Package}
use Rattle.sheet_types.specs.declared.frame.Frame.{Frame}
use Rattle.package_tables.specs.Calls.{AreAll}
use Rattle.package_tables.specs.Package.{Tables}
use Rattle.package_tables.specs.declared.rows.HeadRow.{HeadRow}
use Rattle.identity_register.specs.Reads.{Says, head_row}
use Rattle.identity_register.proofs.Finding.{moved}
use Rattle.identity_register.proofs.OnePackage.{nat_of}
use Rattle.view_history.specs.Told.{IsLoanIn}

only_one : {X : Type 0} (x y : X) → In x (y ∷ []) → y ≡ x
only_one x y i = elim i [ inl e ↦ e | inr none ↦ absurd none ]

-- where one head is found, it is the package's
pub loan_is : (f : Frame) (p : Package) (t : Tables) (says : Says f p t) (found : List HeadRow) (loan : ℕ)
    → AreAll (on (λ (x : HeadRow). x.id) int_cmp) t.heads found → IsLoanIn found loan → loan ≡ p.loan
loan_is f p t says found loan all one =
    let row : HeadRow = one.0 in
    let own : HeadRow = head_row p says.created in
    let there : In own t.heads = subst (In own) (sym says.head) (inl refl) in
    let met : In own (row ∷ []) = subst (In own) one.1 (moved own t.heads found all.0 there) in
    let same : row ≡ own = only_one own row met in
    nat_of loan p.loan (sym one.2 ∙ ap (λ x. x.loan) same)

-- answers in turn are a map
pub zip_map : {X Y : Type 0} (h : X → Y) (xs : List X) (ys : List Y) → AllZip (λ x y. y ≡ h x) xs ys
    → ys ≡ map h xs
zip_map h [] [] each = refl
zip_map h [] (y ∷ ys) each = absurd each
zip_map h (x ∷ xs) [] each = absurd each
zip_map h (x ∷ xs) (y ∷ ys) each = let rest : ys ≡ map h xs = zip_map h xs ys each.1 in λ n. each.0 n ∷ rest n
