-- What came to packages of which a map has the flow left them.
use Rattle.std.specs.Prelude.{◌≡◌, ℕ, true, false, cond, List, [], ◌∷◌, Some, refl, unwrap_or}
use Rattle.std.proofs.Common.{sym, subst, ◌∙◌}
use Rattle.std.specs.List.{AllByRecursion}
use Rattle.std.specs.Ordering.{nat_cmp, is_eq}
use Rattle.std.specs.Cmp.Lexicographic.{slice_cmp}
use Rattle.std.specs.BTreeSet.{BTreeSet, contains}
use Rattle.std.specs.Map.{lookup}
use Rattle.std.proofs.lemmas.Map.Text.{is_eq-slice_cmp}
use Rattle.std.proofs.lemmas.Slice.Eq.{bytes_eq-Decides}
use Rattle.sheet_ledger.specs.Flows.{no_flow}
use Rattle.sheet_ledger.specs.declared.flows.Flow.{Flow}

-- the package is one of these, or all that came to it left it
abbrev pub HasLeft : BTreeSet (List ℕ) → List ℕ × Flow → Type 0
HasLeft uuids e = contains (slice_cmp nat_cmp) uuids e.0 ≡ false → e.1.came ≡ e.1.left

pub found_left : (uuids : BTreeSet (List ℕ)) (es : List (List ℕ × Flow)) → AllByRecursion (HasLeft uuids) es
    → (p : List ℕ) → contains (slice_cmp nat_cmp) uuids p ≡ false
    → (unwrap_or (lookup (λ k. is_eq (slice_cmp nat_cmp p k)) es) no_flow).came
    ≡ (unwrap_or (lookup (λ k. is_eq (slice_cmp nat_cmp p k)) es) no_flow).left
found_left uuids [] h p away = refl
found_left uuids (e ∷ es) h p away =
    elim (is_eq (slice_cmp nat_cmp p e.0)) as (λ b. is_eq (slice_cmp nat_cmp p e.0) ≡ b
    → (unwrap_or (cond b (Some e.1) (lookup (λ k. is_eq (slice_cmp nat_cmp p k)) es)) no_flow).came
    ≡ (unwrap_or (cond b (Some e.1) (lookup (λ k. is_eq (slice_cmp nat_cmp p k)) es)) no_flow).left) [
      | true ↦ λ k. h.0 (subst (λ q. contains (slice_cmp nat_cmp) uuids q ≡ false)
          ((bytes_eq-Decides p e.0).0 (sym (is_eq-slice_cmp p e.0) ∙ k)) away)
      | false ↦ λ _. found_left uuids es h.1 p away
    ] refl
