-- Old keys that rise and the new key of each, as pairs.
use Rattle.std.proofs.Common.{◌≡◌, ℕ, suc, zero, ℤ, ◌<◌, List, [], ◌∷◌, length, get_or, Some}
use Rattle.std.proofs.Common.{None, zip, true, false}
use Rattle.std.proofs.Common.{Bool, cond, ◌||◌, refl, sym, ap, ◌∙◌, subst, arith, IsSome, IsTrue, ◌↔◌}
use Rattle.std.specs.Option.{is_some}
use Rattle.std.proofs.lemmas.Bool.{or_parts}
use Rattle.std.proofs.lemmas.Map.Keys.{Less-from_sorted, sorted_tail, IsDistinct-from_sorted}
use Rattle.std.proofs.lemmas.Map.Made.{keys_of-zip}
use Rattle.std.specs.Cmp.{signed_Decides}
use Rattle.std.specs.List.{list_any, AllByRecursion, IsDistinct}
use Rattle.std.specs.List.Sorted.{IsStrictlySortedBy}
use Rattle.std.specs.Map.{keys_of, values_of, lookup}
use Rattle.std.specs.Ordering.{int_cmp, int_eq}
use Rattle.sheet_types.proofs.Every.{All-weaker}
use Rattle.sheet_types.proofs.Same.{In, In-all, any_in}
use Rattle.renumbering.specs.Keys.{AreFree}
use Rattle.renumbering.specs.Renumbering.{IsRenumbering, HasTooMany, new_key}
use Rattle.renumbering.proofs.Rising.{less_is_other}

values_of-zip : (ks vs : List ℤ) → length vs ≡ length ks → values_of (zip ks vs) ≡ vs
values_of-zip [] [] h = refl
values_of-zip [] (v ∷ vs) h = cc
values_of-zip (k ∷ ks) [] h = cc
values_of-zip (k ∷ ks) (v ∷ vs) h = ap (λ l. v ∷ l) (values_of-zip ks vs cc)

-- the key of each place
pub key_at : (ks vs : List ℤ) (i : ℕ) (key d : ℤ) → IsStrictlySortedBy int_cmp ks → length vs ≡ length ks
    → i < length ks → get_or ks i d ≡ key → new_key (zip ks vs) key ≡ Some (get_or vs i d)
key_at [] vs i key d rises same within is = let no : ⊥ = omega arith in absurd no
key_at (k ∷ ks) [] i key d rises same within is = let no : ⊥ = omega (arith, same) in absurd no
key_at (k ∷ ks) (v ∷ vs) zero key d rises same within is = ap
    (λ b. cond b (Some v) (lookup (int_eq key) (zip ks vs)))
    ((signed_Decides key k).1 (sym is))
key_at (k ∷ ks) (v ∷ vs) (suc i) key d rises same within is =
    let first : zero < suc i = omega arith in
    let later : i < length ks = omega arith in
    let rest : length vs ≡ length ks = cc in
    ap (λ b. cond b (Some v) (lookup (int_eq key) (zip ks vs)))
    (less_is_other key k (ap (int_cmp k) (sym is) ∙ Less-from_sorted int_cmp (k ∷ ks) zero (suc i) d rises first
    within))
    ∙ key_at ks vs i key d (sorted_tail int_cmp k ks rises) rest later is

-- no key of another
pub no_key : (ks vs : List ℤ) (key : ℤ) → list_any (int_eq key) ks ≡ false → new_key (zip ks vs) key ≡ None
no_key [] vs key h = refl
no_key (k ∷ ks) [] key h = refl
no_key (k ∷ ks) (v ∷ vs) key h = let parts = or_parts (int_eq key k) (list_any (int_eq key) ks) h in ap
    (λ b. cond b (Some v) (lookup (int_eq key) (zip ks vs))) parts.0 ∙ no_key ks vs key parts.1

pub made : (old used olds news : List ℤ) → IsStrictlySortedBy int_cmp olds
    → ((key : ℤ) → list_any (int_eq key) olds ≡ list_any (int_eq key) old) → length news ≡ length olds
    → AreFree used news → IsRenumbering old used (zip olds news)
made old used olds news rises holds same free =
    let keys : keys_of (zip olds news) ≡ olds = keys_of-zip olds news same in
    record {
      holds = λ key. ap (list_any (int_eq key)) keys ∙ holds key;
      once = subst (IsDistinct int_eq) (sym keys) (IsDistinct-from_sorted int_cmp olds rises);
      free = subst (AreFree used) (sym (values_of-zip olds news same)) free;
    }

pub too_many : (old used olds : List ℤ) → IsStrictlySortedBy int_cmp olds
    → ((key : ℤ) → list_any (int_eq key) olds ≡ list_any (int_eq key) old)
    → ((keys : List ℤ) → AreFree used keys → length keys < length olds) → HasTooMany old used
too_many old used olds rises holds few keys free = (
  olds,
  IsDistinct-from_sorted int_cmp olds rises,
  All-weaker (λ key. In key olds) (λ key. list_any (int_eq key) old ≡ true)
      (λ key i. sym (holds key) ∙ any_in (int_eq key) key olds i ((signed_Decides key key).1 refl)) olds
      (In-all olds),
  few keys free,
)

-- whether a key is held
held : (ks vs : List ℤ) (key : ℤ) → length vs ≡ length ks → list_any (int_eq key) ks
    ≡ is_some (new_key (zip ks vs) key)
held [] vs key same = refl
held (k ∷ ks) [] key same = cc
held (k ∷ ks) (v ∷ vs) key same =
    elim (int_eq key k) as (λ b. (b || list_any (int_eq key) ks)
    ≡ is_some (cond b (Some v) (lookup (int_eq key) (zip ks vs)))) [
      | true ↦ refl
      | false ↦ held ks vs key cc
    ]

pub holds_is : (ks vs : List ℤ) (key : ℤ) (there : Bool) → length vs ≡ length ks
    → there ≡ list_any (int_eq key) ks
    → IsTrue there ↔ IsSome (new_key (zip ks vs) key)
holds_is ks vs key there same is = (
  λ h. sym (held ks vs key same) ∙ sym is ∙ h,
  λ h. is ∙ held ks vs key same
      ∙ h,
)
