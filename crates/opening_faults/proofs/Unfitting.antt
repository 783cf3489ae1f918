-- Live stores that are not fit, one place after the other.
use Rattle.std.specs.Prelude.{◌≡◌, ◌↔◌, ℕ, zero, suc, ◌+◌, ◌<◌, ◌≤◌, Bool, true, false}
use Rattle.std.specs.Prelude.{List, [], ◌∷◌, length, Some}
use Rattle.std.specs.Prelude.{slice_get, IsTrue}
use Rattle.std.proofs.Common.{sym, ap, subst, ◌∙◌, arith, inl, inr, get_or}
use Rattle.std.proofs.lemmas.Bool.{cases_lt}
use Rattle.sheet_types.proofs.Basics.{some_once, None≢Some}
use Rattle.std.proofs.lemmas.Option.{slice_get-get_or}
use Rattle.opening_faults.specs.Foreign.{Adds}
use Rattle.opening_faults.specs.Unfit.{IsUnfitAt, IsUnfitIn, IsUnfit, IsUnfitBelow}
use Rattle.opening_faults.specs.declared.sights.StoreHead.{StoreHead}
use Rattle.opening_faults.specs.declared.sights.Sight.{Sight}
use Rattle.opening_faults.proofs.Apart.{adds_none}

got_below : {X : Type 0} (xs : List X) (i : ℕ) (x : X) → slice_get xs i ≡ Some x → i < length xs
got_below [] i x h = absurd (None≢Some h)
got_below (y ∷ ys) zero x h = omega arith
got_below (y ∷ ys) (suc i) x h = let lt : i < length ys = got_below ys i x h in omega (arith, lt)

module _ (live fit : List Bool) (sights : List Sight) where
  pub none_below : (ids : List (List ℕ)) → Adds (IsUnfitBelow live fit sights 0) ids ids
  none_below ids = adds_none (IsUnfitBelow live fit sights 0) ids (λ id h. omega (arith, h.1))

  pub unfit_more : (i : ℕ) (s : Sight) (unfit : Bool) (old mid new : List (List ℕ)) → i < length sights
      → s ≡ get_or sights i s → (IsTrue unfit ↔ ((slice_get live i ≡ Some true)
      × (slice_get fit i ≡ Some false)))
      → Adds (IsUnfitBelow live fit sights i) old mid → Adds (IsUnfitAt unfit s) mid new
      → Adds (IsUnfitBelow live fit sights (i + 1)) old new
  unfit_more i s unfit old mid new lt at tells was now = record {
    kept = λ id h. now.kept id (was.kept id h);
    sound = λ id h. elim (now.sound id h) [
      | inl there ↦ elim (was.sound id there) [
        | inl before ↦ inl before
        | inr p ↦ inr (p.0, (let less : p.0 < i + 1 = omega (arith, p.1) in less), p.2)
      ]
      | inr p ↦ inr (
        i,
        omega arith,
        (
          (tells.0 p.3).0,
          (tells.0 p.3).1,
          (s, p.0, slice_get-get_or sights i s lt ∙ ap Some (sym at), p.1, p.2),
        ),
      )
    ];
    whole = λ id p. elim (cases_lt p.0 i) [
      | inl less ↦ now.kept id (was.whole id (p.0, less, p.2))
      | inr le ↦ now.whole id (here id p.2.2.0 p.2.2.1 (subst (λ k. IsUnfitIn live fit sights k id)
          (let e : p.0 ≡ i = omega (arith, le, p.1) in e) p.2))
    ];
  }
    where
      here : (id : List ℕ) (x : Sight) (y : StoreHead) → IsUnfitIn live fit sights i id → IsUnfitAt unfit s id
      here id x y (l, f, (t, h, got, e, n)) =
          let same : t ≡ s = some_once (slice_get sights i) t s got
          (slice_get-get_or sights i s lt ∙ ap Some (sym at)) in
          (h, ap (λ v. v.head) (sym same) ∙ e, n, tells.1 (l, f))

  pub unfit_all : (n : ℕ) (ids : List (List ℕ)) → length sights ≤ n
      → Adds (IsUnfitBelow live fit sights n) [] ids
      → Adds (IsUnfit live fit sights) [] ids
  unfit_all n ids le h = record {
    kept = h.kept;
    sound = λ id there. elim (h.sound id there) [ inl none ↦ inl none | inr p ↦ inr (p.0, p.2) ];
    whole = λ id p. h.whole id (
      p.0,
      (let lt : p.0 < length sights =
          got_below sights p.0 p.1.2.0 p.1.2.2 in omega (arith, lt, le)),
      p.1,
    );
  }
