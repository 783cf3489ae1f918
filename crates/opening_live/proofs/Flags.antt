-- What flags take of a list, and a list put together from what they take and what they leave.
use Rattle.std.specs.Prelude.{◌≡◌, ◌≤◌, Bool, true, false, cond, not, List, [], ◌∷◌, map, filter}
use Rattle.std.specs.Prelude.{zip, length, refl}
use Rattle.std.proofs.Common.{ap, arith}
use Rattle.std.specs.List.{AllZip}
use Rattle.opening_live.specs.Chosen.{flagged}

-- the flags of a test take what it does
pub flagged_by : {X : Type 0} (t : X → Bool) (xs : List X) → flagged (map t xs) xs ≡ filter t xs
flagged_by t [] = refl
flagged_by t (x ∷ xs) =
    elim (t x) as (λ v. map (λ p. p.0) (cond v ((x, v) ∷ filter (λ p. p.1) (zip xs (map t xs)))
    (filter (λ p. p.1) (zip xs (map t xs)))) ≡ cond v (x ∷ filter t xs) (filter t xs)) [
      | true ↦ ap (λ zs. x ∷ zs) (flagged_by t xs)
      | false ↦ flagged_by t xs
    ]

-- they take no more than there are
pub flagged_fewer : {X : Type 0} (flags : List Bool) (xs : List X) → length (flagged flags xs) ≤ length xs
flagged_fewer flags [] = omega arith
flagged_fewer [] (x ∷ xs) = omega arith
flagged_fewer (true ∷ flags) (x ∷ xs) = let less : length (flagged flags xs) ≤ length xs =
    flagged_fewer flags xs in omega (arith, less)
flagged_fewer (false ∷ flags) (x ∷ xs) = let less : length (flagged flags xs) ≤ length xs =
    flagged_fewer flags xs in omega (arith, less)

-- A list that has these of what the flags take, and those of what they leave.
pub put_together : {A B : Type 0} (R : A → B → Type 0) (xs : List A) (flags : List Bool) (taken left : List B)
    → length flags ≡ length xs
    → AllZip R (flagged flags xs) taken → AllZip R (flagged (map not flags) xs) left → (ys : List B)
    × AllZip R xs ys
    × (flagged flags ys ≡ taken)
put_together R [] [] [] [] long h g = ([], tt, refl)
put_together R [] [] (y ∷ ys) left long h g = absurd h
put_together R [] [] [] (y ∷ ys) long h g = absurd g
put_together R [] (f ∷ flags) taken left long h g = absurd (omega (arith, long))
put_together R (x ∷ xs) [] taken left long h g = absurd (omega (arith, long))
put_together R (x ∷ xs) (true ∷ flags) [] left long h g = absurd h
put_together R (x ∷ xs) (true ∷ flags) (y ∷ ys) left long h g =
    let r : (zs : List _) × AllZip R xs zs × (flagged flags zs ≡ ys) =
    put_together R xs flags ys left (omega (arith, long)) h.1 g in
    (y ∷ r.0, (h.0, r.1), ap (λ zs. y ∷ zs) r.2)
put_together R (x ∷ xs) (false ∷ flags) taken [] long h g = absurd g
put_together R (x ∷ xs) (false ∷ flags) taken (y ∷ ys) long h g =
    let r : (zs : List _) × AllZip R xs zs × (flagged flags zs ≡ taken) =
    put_together R xs flags taken ys (omega (arith, long)) h g.1 in
    (y ∷ r.0, (g.0, r.1), r.2)
