-- A row is the list of its columns.
use Rattle.std.proofs.Common.{◌≡◌, ℕ, suc, ◌+◌, [], ◌∷◌, map, length, refl, ap, ◌∙◌, arith}
use Rattle.std.specs.List.{range_with_len}
use Rattle.sqlite.specs.Order.{Row, column}

part : (vs : Row) (a : ℕ) (whole : Row) → ((k : ℕ) → column whole (a + k) ≡ column vs k)
    → vs ≡ map (column whole) (range_with_len a (length vs))
part [] a whole h = refl
part (v ∷ vs) a whole h =
    let here : column whole a ≡ v = ap (column whole) (omega arith) ∙ h 0 in
    let rest = part vs (a + 1) whole (λ k. let at : (a + 1) + k ≡ a + suc k =
    omega arith in ap (column whole) at ∙ h (suc k)) in
    rw here (ap (λ l. v ∷ l) rest)

pub columns : (n : ℕ) (r : Row) → length r ≡ n → r ≡ map (column r) (range_with_len 0 n)
columns n r h = part r 0 r (λ k. ap (column r) (omega arith)) ∙ ap (λ m. map (column r) (range_with_len 0 m)) h
