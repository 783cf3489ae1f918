-- Lists in the order of a key, place by place: what comes, changes and goes under a key does so at one place.
use Rattle.std.specs.Prelude.{◌≡◌, ◌<◌, ◌≤◌, ◌+◌, ◌-◌, ℕ, zero, suc, true, false, cond}
use Rattle.std.specs.Prelude.{List, [], ◌∷◌, ◌||◌, not}
use Rattle.std.specs.Prelude.{count_by, Some, slice_get, slice_set, refl, bytes_eq, nat_lt, Bool}
use Rattle.std.proofs.Common.{sym, ap, subst, ◌∙◌, inl, inr, arith, length}
use Rattle.std.proofs.Math.Nat.{eq-or-lt_of_le}
use Rattle.std.proofs.lemmas.Bool.{true≢false, false_from_ne_true, ltb-true, ltb-false}
use Rattle.std.specs.List.{AllByRecursion, insert, remove}
use Rattle.sheet_types.specs.Ordered.{put, arranged, without, is_before, IsArranged}
use Rattle.sheet_types.proofs.Basics.{before-differs, before_trans, before_not_after, bytes_eq_swap, bytes_eq_itself}
use Rattle.sheet_types.proofs.Every.{All-weaker}
use Rattle.sheet_types.proofs.Sums.{count-cons, count_none}
use Rattle.world_loans.specs.Loans.{place_without}

-- a fact of each element is one of that at a place
pub all_at : {X : Type 0} (P : X → Type 0) (xs : List X) (at : ℕ) (x : X) → AllByRecursion P xs
    → slice_get xs at ≡ Some x → P x
all_at P [] at x all there = absurd (let e = there in cc)
all_at P (y ∷ xs) zero x all there = let same : y ≡ x = cc in subst P same all.0
all_at P (y ∷ xs) (suc at) x all there = all_at P xs at x all.1 there

-- one is set, and another goes, which stands behind it or before it
set_below : {X : Type 0} (xs : List X) (gone at : ℕ) (x : X) → at < gone
    → remove (slice_set xs at x) gone ≡ slice_set (remove xs gone) at x
set_below xs zero at x lt = absurd (omega (arith, lt))
set_below [] (suc gone) at x lt = refl
set_below (y ∷ xs) (suc gone) zero x lt = refl
set_below (y ∷ xs) (suc gone) (suc at) x lt = ap (λ zs. y ∷ zs) (set_below xs gone at x (omega (arith, lt)))

set_above : {X : Type 0} (xs : List X) (gone at : ℕ) (x : X) → gone ≤ at
    → remove (slice_set xs (suc at) x) gone ≡ slice_set (remove xs gone) at x
set_above [] zero at x le = refl
set_above [] (suc gone) at x le = refl
set_above (y ∷ xs) zero at x le = refl
set_above (y ∷ xs) (suc gone) zero x le = absurd (omega (arith, le))
set_above (y ∷ xs) (suc gone) (suc at) x le = ap (λ zs. y ∷ zs) (set_above xs gone at x (omega (arith, le)))

pub set_then_removed : {X : Type 0} (xs : List X) (gone at : ℕ) (x : X) → ¬ (gone ≡ at)
    → remove (slice_set xs at x) gone ≡ slice_set (remove xs gone) (place_without gone at) x
set_then_removed xs gone at x two =
    elim (nat_lt gone at) as (λ b. nat_lt gone at ≡ b → remove (slice_set xs at x) gone
    ≡ slice_set (remove xs gone) (cond b (at - 1) at) x) [
      | true ↦ λ is.
          let lt : gone < at = ltb-true gone at is in
          let back : suc (at - 1) ≡ at = omega (arith, lt) in
          ap (λ n. remove (slice_set xs n x) gone) (sym back) ∙ set_above xs gone (at - 1) x (omega (arith, lt))
      | false ↦ λ is. set_below xs gone at x (below (ltb-false gone at is) two)
    ] refl
  where
    below : at ≤ gone → ¬ (gone ≡ at) → at < gone
    below le other = elim (eq-or-lt_of_le le) [ inl same ↦ absurd (other (sym same)) | inr lt ↦ lt ]

-- what stands at another place stays
pub set_elsewhere : {X : Type 0} (xs : List X) (at n : ℕ) (x : X) → ¬ (n ≡ at)
    → slice_get (slice_set xs at x) n ≡ slice_get xs n
set_elsewhere [] at n x other = refl
set_elsewhere (y ∷ xs) zero zero x other = absurd (other refl)
set_elsewhere (y ∷ xs) zero (suc n) x other = refl
set_elsewhere (y ∷ xs) (suc at) zero x other = refl
set_elsewhere (y ∷ xs) (suc at) (suc n) x other = set_elsewhere xs at n x (λ e. other (ap suc e))

-- one goes
pub length_removed : {A : Type 0} (xs : List A) (at : ℕ) (x : A) → slice_get xs at ≡ Some x
    → length (remove xs at) + 1 ≡ length xs
length_removed [] at x place = absurd (let e = place in cc)
length_removed (y ∷ xs) zero x place = omega arith
length_removed (y ∷ xs) (suc at) x place = omega (arith, length_removed xs at x place)

-- what stands before the one that goes, and behind it
removed_below : {A : Type 0} (xs : List A) (gone at : ℕ) → at < gone
    → slice_get (remove xs gone) at ≡ slice_get xs at
removed_below [] zero at lt = refl
removed_below [] (suc gone) at lt = refl
removed_below (y ∷ xs) zero at lt = absurd (omega (arith, lt))
removed_below (y ∷ xs) (suc gone) zero lt = refl
removed_below (y ∷ xs) (suc gone) (suc at) lt = removed_below xs gone at (omega (arith, lt))

removed_above : {A : Type 0} (xs : List A) (gone at : ℕ) → gone ≤ at
    → slice_get (remove xs gone) at ≡ slice_get xs (suc at)
removed_above [] zero at le = refl
removed_above [] (suc gone) at le = refl
removed_above (y ∷ xs) zero at le = refl
removed_above (y ∷ xs) (suc gone) zero le = absurd (omega (arith, le))
removed_above (y ∷ xs) (suc gone) (suc at) le = removed_above xs gone at (omega (arith, le))

pub still_there : {A : Type 0} (xs : List A) (gone at : ℕ) (x : A) → slice_get xs at ≡ Some x → ¬ (gone ≡ at)
    → slice_get (remove xs gone) (place_without gone at) ≡ Some x
still_there xs gone at x place two =
    elim (nat_lt gone at) as (λ b. nat_lt gone at ≡ b → slice_get (remove xs gone) (cond b (at - 1) at)
    ≡ Some x) [
      | true ↦ λ is.
          let lt : gone < at = ltb-true gone at is in
          let back : suc (at - 1) ≡ at = omega (arith, lt) in
          removed_above xs gone (at - 1) (omega (arith, lt)) ∙ ap (slice_get xs) back ∙ place
      | false ↦ λ is.
          let le : at ≤ gone = ltb-false gone at is in
          removed_below xs gone at (below le two) ∙ place
    ] refl
  where
    below : at ≤ gone → ¬ (gone ≡ at) → at < gone
    below le other = elim (eq-or-lt_of_le le) [ inl same ↦ absurd (other (sym same)) | inr lt ↦ lt ]

module _ {X : Type 0} (key : X → List ℕ) where
  -- the number of those that stand before a key, which is the place of what comes under it
  abbrev pub count_before : List ℕ → List X → ℕ
  count_before k xs = count_by (λ y. is_before (key y) k) xs

  pub put_inserts : (x : X) (xs : List X) → IsArranged key xs
      → put key x xs ≡ insert xs (count_before (key x) xs) x
  put_inserts x [] h = refl
  put_inserts x (y ∷ ys) h =
      elim (is_before (key y) (key x)) as (λ v. is_before (key y) (key x) ≡ v
      → cond v (y ∷ put key x ys) (x ∷ y ∷ ys) ≡ insert (y ∷ ys) (count_before (key x) (y ∷ ys)) x) [
        | true ↦ λ first.
            let more : count_before (key x) (y ∷ ys) ≡ suc (count_before (key x) ys) =
            omega (arith, count-cons (λ z. is_before (key z) (key x)) y ys true first) in
            ap (λ zs. y ∷ zs) (put_inserts x ys h.1) ∙ ap (λ n. insert (y ∷ ys) n x) (sym more)
        | false ↦ λ later.
            let none : count_before (key x) ys ≡ 0 = count_none (λ z. is_before (key z) (key x)) ys
            (All-weaker (λ z. is_before (key y) (key z) ≡ true) (λ z. is_before (key z) (key x) ≡ false)
            (λ z b. false_from_ne_true (is_before (key z) (key x))
            (λ c. true≢false (sym (before_trans (key y) (key z) (key x) b c) ∙ later))) ys h.0) in
            let all : count_before (key x) (y ∷ ys) ≡ 0 = omega
            (arith, none, count-cons (λ z. is_before (key z) (key x)) y ys false later) in
            ap (λ n. insert (y ∷ ys) n x) (sym all)
      ] refl

  -- those after one have another key
  others_after : (y : X) (ys : List X) (k : List ℕ) → key y ≡ k
      → AllByRecursion (λ z. is_before (key y) (key z) ≡ true) ys
      → AllByRecursion (λ z. bytes_eq (key z) k ≡ false) ys
  others_after y ys k is h = All-weaker (λ z. is_before (key y) (key z) ≡ true) (λ z. bytes_eq (key z) k ≡ false)
      (λ z b. bytes_eq_swap (key z) k ∙ ap (λ u. bytes_eq u (key z)) (sym is)
      ∙ before-differs (key y) (key z) b) ys h

  -- one before that of a key has another
  other_before : (y : X) (ys : List X) (at : ℕ) (x : X) (k : List ℕ)
      → AllByRecursion (λ z. is_before (key y) (key z) ≡ true) ys → slice_get ys at ≡ Some x → key x ≡ k
      → bytes_eq (key y) k ≡ false
  other_before y ys at x k h there is = ap (bytes_eq (key y)) (sym is)
      ∙ before-differs (key y) (key x) (all_at (λ z. is_before (key y) (key z) ≡ true) ys at x h there)

  -- where none has the key, none goes
  abbrev taken : List ℕ → X → Bool
  taken k z = bytes_eq k (key z) || false

  differs : (k : List ℕ) (z : X) → bytes_eq (key z) k ≡ false → taken k z ≡ false
  differs k z h = ap (λ b. b || false) (bytes_eq_swap k (key z) ∙ h)

  pub none_goes : (k : List ℕ) (xs : List X) → AllByRecursion (λ z. bytes_eq (key z) k ≡ false) xs
      → without key (k ∷ []) xs ≡ xs
  none_goes k [] h = refl
  none_goes k (y ∷ ys) h = ap (λ b. cond (not b) (y ∷ without key (k ∷ []) ys) (without key (k ∷ []) ys))
      (differs k y h.0) ∙ ap (λ zs. y ∷ zs) (none_goes k ys h.1)

  pub without_at : (k : List ℕ) (xs : List X) (at : ℕ) (x : X) → IsArranged key xs → slice_get xs at ≡ Some x
      → key x ≡ k → without key (k ∷ []) xs ≡ remove xs at
  without_at k [] at x h there is = absurd (let e = there in cc)
  without_at k (y ∷ ys) zero x h there is =
      let same : key y ≡ k = ap key (let e : y ≡ x = cc in e) ∙ is in
      ap (λ b. cond (not (b || false)) (y ∷ without key (k ∷ []) ys) (without key (k ∷ []) ys))
      (ap (bytes_eq k) same ∙ bytes_eq_itself k)
      ∙ none_goes k ys (others_after y ys k same h.0)
  without_at k (y ∷ ys) (suc at) x h there is =
      ap (λ b. cond (not b) (y ∷ without key (k ∷ []) ys) (without key (k ∷ []) ys))
      (differs k y (other_before y ys at x k h.0 there is))
      ∙ ap (λ zs. y ∷ zs) (without_at k ys at x h.1 there is)

  -- two at two places have two keys
  pub other_key : (xs : List X) (at k : ℕ) (x y : X) → IsArranged key xs → slice_get xs at ≡ Some x
      → slice_get xs k ≡ Some y → ¬ (k ≡ at) → bytes_eq (key x) (key y) ≡ false
  other_key [] at k x y h there here two = absurd (let e = there in cc)
  other_key (z ∷ zs) zero zero x y h there here two = absurd (two refl)
  other_key (z ∷ zs) zero (suc k) x y h there here two = ap (λ u. bytes_eq u (key y))
      (ap key (let e : x ≡ z = cc in e)) ∙ other_before z zs k y (key y) h.0 here refl
  other_key (z ∷ zs) (suc at) zero x y h there here two = bytes_eq_swap (key x) (key y)
      ∙ ap (λ u. bytes_eq u (key x)) (ap key (let e : y ≡ z = cc in e))
      ∙ other_before z zs at x (key x) h.0 there refl
  other_key (z ∷ zs) (suc at) (suc k) x y h there here two =
      other_key zs at k x y h.1 there here (λ e. two (ap suc e))

  -- a list in the order of the key stays as it is
  put_first : (x : X) (xs : List X) → AllByRecursion (λ y. is_before (key x) (key y) ≡ true) xs
      → put key x xs ≡ x ∷ xs
  put_first x [] h = refl
  put_first x (y ∷ ys) h = ap (λ b. cond b (y ∷ put key x ys) (x ∷ y ∷ ys))
      (before_not_after (key x) (key y) h.0)

  pub arranged_itself : (xs : List X) → IsArranged key xs → arranged key xs ≡ xs
  arranged_itself [] h = refl
  arranged_itself (x ∷ xs) h = ap (put key x) (arranged_itself xs h.1) ∙ put_first x xs h.0
