-- Openness looks at passages alone: claims with the same passages have the same open splits.
use Rattle.std.specs.Prelude.{◌≡◌, Bool, true, false, cond, not, ◌&&◌, ◌||◌, List, [], ◌∷◌, ◌++◌, filter, length}
use Rattle.std.specs.Prelude.{refl, nat_lt, bytes_eq, int_lt, flat_map, Contains}
use Rattle.std.proofs.Common.{sym, ap, subst, ◌∙◌}
use Rattle.std.proofs.lemmas.Bool.{false≢true}
use Rattle.std.proofs.lemmas.List.Elements.{All-filter, All-contains_itself, filter-append}
use Rattle.std.proofs.lemmas.Map.Views.{any-filter_same}
use Rattle.std.specs.List.{list_any}
use Rattle.sheet_types.specs.Opening.{Claim, claims_split, claims_merge, is_open_claim}
use Rattle.sheet_types.proofs.Same.{Contains-In, In-filter}
use Rattle.opening_faults.specs.Passages.{is_passage, passages}
use Rattle.opening_faults.proofs.Members.{all_contains, contained}

-- ---- lists

pub any_same : {X : Type 0} (p q : X → Bool) → ((x : X) → q x ≡ p x) → (xs : List X)
    → list_any q xs ≡ list_any p xs
any_same p q same [] = refl
any_same p q same (x ∷ xs) = ap (λ b. b || list_any q xs) (same x) ∙ ap (λ b. p x || b) (any_same p q same xs)

both : (a b : Bool) → (a && b) ≡ true → (a ≡ true) × (b ≡ true)
both true b h = (refl, h)
both false b h = absurd (false≢true h)

-- ---- passages

split_passes : (c : Claim) → claims_split c ≡ true → is_passage c ≡ true
split_passes c is = ap (λ b. b || claims_merge c) is

merge_passes : (c : Claim) → claims_merge c ≡ true → is_passage c ≡ true
merge_passes c is = ap (λ b. claims_split c || b) is ∙ elim (claims_split c) as (λ b. (b || true) ≡ true) [
  | true ↦ refl
  | false ↦ refl
]

first : (a b c : Bool) → (a && b && c) ≡ true → a ≡ true
first a b c is = (both a b (both (a && b) c is).0).0

-- a claim that is open is a split
pub open_passes : (claims : List Claim) (c : Claim) → is_open_claim claims c ≡ true → is_passage c ≡ true
open_passes claims c is = split_passes c (first (claims_split c) (nat_lt 0 (length c.target)) (not (list_any
    (λ m. claims_merge m && bytes_eq m.source c.target && int_lt c.seq m.seq) claims)) is)

-- a test that passages alone pass
any_passage : (test : Claim → Bool) → ((c : Claim) → test c ≡ true → is_passage c ≡ true) → (claims : List Claim)
    → list_any test (passages claims) ≡ list_any test claims
any_passage test pass claims = any-filter_same test is_passage true pass claims

-- a split is open among the passages where it is among all
open_among : (claims : List Claim) (c : Claim) → is_open_claim (passages claims) c ≡ is_open_claim claims c
open_among claims c = ap (λ b. claims_split c && nat_lt 0 (length c.target) && not b)
    (any_passage (λ m. claims_merge m && bytes_eq m.source c.target && int_lt c.seq m.seq)
    (λ m is. merge_passes m (first (claims_merge m) (bytes_eq m.source c.target) (int_lt c.seq m.seq) is)) claims)

-- the passages of passages are they
pub passages_again : (claims : List Claim) → passages (passages claims) ≡ passages claims
passages_again [] = refl
passages_again (c ∷ cs) =
    elim (is_passage c) as (λ v. is_passage c ≡ v
    → passages (cond v (c ∷ passages cs) (passages cs)) ≡ cond v (c ∷ passages cs) (passages cs)) [
      | true ↦ λ is. ap (λ v. cond v (c ∷ passages (passages cs)) (passages (passages cs))) is
          ∙ ap (λ ds. c ∷ ds) (passages_again cs)
      | false ↦ λ is. passages_again cs
    ] refl

pub passages_flat : {X : Type 0} (f : X → List Claim) (xs : List X)
    → passages (flat_map f xs) ≡ flat_map (λ x. passages (f x)) xs
passages_flat f [] = refl
passages_flat f (x ∷ xs) = filter-append is_passage (f x) (flat_map f xs)
    ∙ ap (λ cs. passages (f x) ++ cs) (passages_flat f xs)

-- ---- claims with the same passages

module _ (xs ys : List Claim) (same : passages xs ≡ passages ys) where
  pub open_alike : (c : Claim) → is_open_claim xs c ≡ is_open_claim ys c
  open_alike c = sym (open_among xs c) ∙ ap (λ cs. is_open_claim cs c) same ∙ open_among ys c

  -- some open split passes a test
  pub any_open_alike : (test : Claim → Bool) → list_any (λ c. test c && is_open_claim xs c) xs
      ≡ list_any (λ c. test c && is_open_claim ys c) ys
  any_open_alike test =
      any_same (λ c. test c && is_open_claim ys c) (λ c. test c && is_open_claim xs c)
      (λ c. ap (λ b. test c && b) (open_alike c)) xs
      ∙ sym (any_passage (λ c. test c && is_open_claim ys c) passing xs)
      ∙ ap (list_any (λ c. test c && is_open_claim ys c)) same
      ∙ any_passage (λ c. test c && is_open_claim ys c) passing ys
    where
      passing : (c : Claim) → (test c && is_open_claim ys c) ≡ true → is_passage c ≡ true
      passing c is = open_passes ys c (both (test c) (is_open_claim ys c) is).1

  -- a passage is among both
  pub there_alike : (c : Claim) → is_passage c ≡ true → Contains xs c → Contains ys c
  there_alike c is there =
      let taken : Contains (passages ys) c = subst (λ cs. Contains cs c) same
      (Contains-In c (passages xs) (In-filter is_passage c xs (contained xs c there) is)) in
      all_contains (Contains ys) (passages ys) c (All-filter is_passage (Contains ys) ys (All-contains_itself ys))
      taken
