-- Lists, one element more or less.
use Rattle.std.specs.Prelude.{◌≡◌, ◌⊎◌, ℕ, zero, suc, ◌+◌, ◌<◌, ◌≤◌, Bool, true, false}
use Rattle.std.specs.Prelude.{cond, List, [], ◌∷◌, ◌++◌}
use Rattle.std.specs.Prelude.{length, take, refl, find, Option, Some, None, slice_get, IfErr, IsErrAnd, Result, Ok}
use Rattle.std.specs.Prelude.{Err}
use Rattle.std.proofs.Common.{sym, ap, subst, ◌∙◌, arith, inl, inr, get_or, drop}
use Rattle.std.proofs.lemmas.Bool.{cases_lt}
use Rattle.std.proofs.lemmas.List.{take_all}
use Rattle.std.proofs.lemmas.Option.{slice_get_within}
use Rattle.std.specs.List.{AllZip}
use Rattle.sheet_types.specs.Ordered.{is_before, put, arranged, least}
use Rattle.sheet_types.proofs.Basics.{None≢Some}
use Rattle.sheet_ledger.proofs.Walking.{one_more}

-- ---- two lists, place by place

pub zip_push : {A B : Type 0} (R : A → B → Type 0) (xs : List A) (ys : List B) (x : A) (y : B) → AllZip R xs ys
    → R x y → AllZip R (xs ++ x ∷ []) (ys ++ y ∷ [])
zip_push R [] [] x y h r = (r, tt)
zip_push R [] (b ∷ ys) x y h r = absurd h
zip_push R (a ∷ xs) [] x y h r = absurd h
zip_push R (a ∷ xs) (b ∷ ys) x y h r = (h.0, zip_push R xs ys x y h.1 r)

pub zip_more : {A B : Type 0} (R : A → B → Type 0) (xs : List A) (i : ℕ) (x : A) (ys : List B) (y : B)
    → i < length xs
    → x ≡ get_or xs i x → AllZip R (take i xs) ys → R x y → AllZip R (take (i + 1) xs) (ys ++ y ∷ [])
zip_more R xs i x ys y lt is h r = subst (λ l. AllZip R l (ys ++ y ∷ [])) (sym (one_more xs i x lt is))
    (zip_push R (take i xs) ys x y h r)

pub zip_done : {A B : Type 0} (R : A → B → Type 0) (xs : List A) (n : ℕ) (ys : List B) → length xs ≤ n
    → AllZip R (take n xs) ys → AllZip R xs ys
zip_done R xs n ys le h = subst (λ l. AllZip R l ys) (take_all n xs le) h

-- ---- a list by its places

-- the last place, or one before
pub place_of_snoc : {X : Type 0} (xs : List X) (x : X) (i : ℕ) (y : X) → slice_get (xs ++ x ∷ []) i ≡ Some y
    → (slice_get xs i ≡ Some y) ⊎ ((i ≡ length xs) × (x ≡ y))
place_of_snoc [] x zero y h = inr (refl, (let e = h in cc))
place_of_snoc [] x (suc i) y h = absurd (None≢Some h)
place_of_snoc (z ∷ xs) x zero y h = inl h
place_of_snoc (z ∷ xs) x (suc i) y h = elim (place_of_snoc xs x i y h)
    [ inl g ↦ inl g | inr g ↦ inr (ap suc g.0, g.1) ]

-- ---- the least of some keys

put_some : {X : Type 0} (key : X → List ℕ) (x : X) (xs : List X) → find (λ _. true) (put key x xs) ≡ None
    → ⊥
put_some key x [] h = None≢Some (sym h)
put_some key x (y ∷ ys) h = elim (is_before (key y) (key x)) as
    (λ b. find (λ _. true) (cond b (y ∷ put key x ys) (x ∷ y ∷ ys)) ≡ None → ⊥)
    [ true ↦ λ e. None≢Some (sym e) | false ↦ λ e. None≢Some (sym e) ] h

pub none_least : (ks : List (List ℕ)) → least ks ≡ None → ks ≡ []
none_least [] h = refl
none_least (k ∷ ks) h = absurd (put_some (λ x. x) k (arranged (λ x. x) ks) h)

-- ---- what a `?` hands on

pub err_same : {X E : Type 0} (P : E → Type 0) (r : Result X E) (e : E) → IsErrAnd r (λ f. f ≡ e) → P e
    → IfErr r P
err_same P (Ok x) e h p = absurd h
err_same P (Err f) e h p = subst P (sym h) p
