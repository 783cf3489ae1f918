-- Keys of which none stands there twice.
use Rattle.std.specs.Prelude.{◌≡◌, ℕ, false, ◌||◌, List, [], ◌∷◌, ◌++◌, refl, bytes_eq}
use Rattle.std.proofs.Common.{sym, ap, ◌∙◌}
use Rattle.std.proofs.lemmas.Bool.{or_parts}
use Rattle.std.proofs.lemmas.List.Folds.{list_any-append}
use Rattle.std.specs.List.{IsDistinct}
use Rattle.sheet_types.specs.Ordered.{is_among}
use Rattle.sheet_types.proofs.Basics.{bytes_eq_swap}
use Rattle.sheet_types.proofs.Every.{none_pass, All-weaker}
use Rattle.field_run_laws.specs.Lists.{has_twice}

-- one that stands behind others is none of them
pub apart_from : (xs : List (List ℕ)) (k : List ℕ) (ys : List (List ℕ)) → has_twice (xs ++ k ∷ ys) ≡ false
    → is_among xs k ≡ false
apart_from [] k ys h = refl
apart_from (x ∷ xs) k ys h =
    let both : (is_among (xs ++ k ∷ ys) x ≡ false) × (has_twice (xs ++ k ∷ ys) ≡ false) =
    or_parts (is_among (xs ++ k ∷ ys) x) (has_twice (xs ++ k ∷ ys)) h in
    let later : (is_among xs x ≡ false) × (is_among (k ∷ ys) x ≡ false) =
    or_parts (is_among xs x) (is_among (k ∷ ys) x) (sym (list_any-append (λ z. bytes_eq z x) xs (k ∷ ys))
    ∙ both.0) in
    let one : (bytes_eq k x ≡ false) × (is_among ys x ≡ false) = or_parts (bytes_eq k x) (is_among ys x) later.1 in
    ap (λ b. b || is_among xs k) (bytes_eq_swap x k ∙ one.0) ∙ apart_from xs k ys both.1

-- and they are distinct
pub are_distinct : (ks : List (List ℕ)) → has_twice ks ≡ false → IsDistinct bytes_eq ks
unfolding IsDistinct
are_distinct [] h = tt
are_distinct (k ∷ ks) h =
    let both : (is_among ks k ≡ false) × (has_twice ks ≡ false) = or_parts (is_among ks k) (has_twice ks) h in (
      All-weaker (λ x. bytes_eq x k ≡ false) (λ x. bytes_eq k x ≡ false) (λ x e. bytes_eq_swap k x ∙ e) ks
          (none_pass (λ x. bytes_eq x k) ks both.0),
      are_distinct ks both.1,
    )
