-- Numbers that are noted under identities, the first under each.
use Rattle.std.specs.Prelude.{◌≡◌, ℕ, true, false, cond, List, Option, Some, unwrap_or, bytes_eq, refl}
use Rattle.std.proofs.Common.{ap, ◌∙◌}
use Rattle.std.specs.Ordering.{nat_cmp}
use Rattle.std.specs.Cmp.Lexicographic.{slice_cmp}
use Rattle.std.specs.BTreeMap.{BTreeMap, Updates}
use Rattle.std.proofs.lemmas.Map.Text.{is_eq-slice_cmp}
use Rattle.std.proofs.lemmas.Slice.Eq.{bytes_eq-Decides}
use Rattle.view_export.specs.Numbers.{noted_in}

-- what a map has after a key was set
at_key : (m new : BTreeMap (List ℕ) ℕ) (k : List ℕ) (v : Option ℕ) → Updates (slice_cmp nat_cmp) m new k v
    → (p : List ℕ)
    → noted_in new p ≡ cond (bytes_eq k p) v (noted_in m p)
at_key m new k v h p = h.0 p ∙ ap (λ b. cond b v (noted_in m p)) (is_eq-slice_cmp k p)

-- a number under an identity, unless it has one
pub first_noted : (m new : BTreeMap (List ℕ) ℕ) (id : List ℕ) (number first : ℕ)
    → first ≡ unwrap_or (noted_in m id) number
    → Updates (slice_cmp nat_cmp) m new id (Some first) → (p : List ℕ)
    → noted_in new p ≡ cond (bytes_eq id p) (Some (unwrap_or (noted_in m p) number)) (noted_in m p)
first_noted m new id number first is h p =
    at_key m new id (Some first) h p
    ∙ elim (bytes_eq id p) as (λ b. bytes_eq id p ≡ b → cond b (Some first) (noted_in m p)
    ≡ cond b (Some (unwrap_or (noted_in m p) number)) (noted_in m p)) [
      | true ↦ λ e. ap Some (is ∙ ap (λ k. unwrap_or (noted_in m k) number) ((bytes_eq-Decides id p).0 e))
      | false ↦ λ e. refl
    ] refl
