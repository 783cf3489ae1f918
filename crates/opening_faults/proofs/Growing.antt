-- The stores found round by round, as they are told by standings, and the open splits of each round.
use Rattle.std.specs.Prelude.{◌≡◌, ℕ, zero, suc, ◌≤◌, Bool, true, false, cond, not, ◌&&◌, ◌||◌}
use Rattle.std.specs.Prelude.{List, [], ◌∷◌, filter}
use Rattle.std.specs.Prelude.{length, refl, flat_map}
use Rattle.std.proofs.Common.{sym, ap, subst, ◌∙◌, arith, inl, inr}
use Rattle.std.proofs.lemmas.Bool.{true≢false, false≢true, and_parts, and_from, false_from_ne_true, cases_lt}
use Rattle.std.proofs.lemmas.List.Folds.{list_any-append}
use Rattle.std.specs.List.{list_any, AllByRecursion}
use Rattle.sheet_types.specs.Opening.{Claim, is_open_claim}
use Rattle.sheet_types.proofs.Basics.{or-true}
use Rattle.sheet_types.proofs.Found.{filter_same}
use Rattle.sheet_types.proofs.Every.{All-each}
use Rattle.sheet_types.proofs.Same.{In, All-In, In-filter, In-flat_map, any_in}
use Rattle.sheet_laws.proofs.Rounds as rounds
use Rattle.sheet_laws.proofs.Rounds.{any_of_taken}
use Rattle.opening_faults.specs.Sights.{Any, nothing_read, head_seen, claims_seen, frame_seen, is_root, is_reached}
use Rattle.opening_faults.specs.Sights.{is_loan_of, claims_at, IsFoundIn}
use Rattle.opening_faults.specs.Standings.{standing, is_fresh, is_found, one_later}
use Rattle.opening_faults.specs.Turns.{said_before}
use Rattle.opening_faults.specs.declared.standing.Standing.{Standing}
use Rattle.opening_faults.specs.declared.standing.Standing.TheVariants.{Stray, Fresh, Settled}
use Rattle.opening_faults.specs.declared.sights.Sight.{Sight}

-- ---- tests of lists

either : (t v a T V : Bool) → (((t || v) && a) || (T || V)) ≡ (((t && a) || T) || ((v && a) || V))
either false false a T V = refl
either true v true T V = refl
either true true false T V = refl
either true false false T V = refl
either false true false T V = refl
either false true true T V = sym (or-true T)

taken_first : {X Y : Type 0} (f : X → List Y) (t : X → Bool) (p : Y → Bool) (x : X) (xs : List X)
    → list_any p (flat_map f (filter t (x ∷ xs))) ≡ ((t x && list_any p (f x)) || list_any p
    (flat_map f (filter t xs)))
taken_first f t p x xs =
    elim (t x) as (λ v. list_any p (flat_map f (cond v (x ∷ filter t xs) (filter t xs)))
    ≡ ((v && list_any p (f x)) || list_any p (flat_map f (filter t xs)))) [
      | true ↦ list_any-append p (f x) (flat_map f (filter t xs))
      | false ↦ refl
    ]

-- what a test takes that is one of two
pub taken_either : {X Y : Type 0} (f : X → List Y) (t v u : X → Bool) (p : Y → Bool)
    → ((x : X) → u x ≡ (t x || v x))
    → (xs : List X)
    → list_any p (flat_map f (filter u xs)) ≡ (list_any p (flat_map f (filter t xs)) || list_any p
    (flat_map f (filter v xs)))
taken_either f t v u p same [] = refl
taken_either f t v u p same (x ∷ xs) =
    let T : Bool = list_any p (flat_map f (filter t xs)) in
    let V : Bool = list_any p (flat_map f (filter v xs)) in
    taken_first f u p x xs ∙ ap (λ b. (b && list_any p (f x)) || list_any p (flat_map f (filter u xs))) (same x)
    ∙ ap (λ b. ((t x || v x) && list_any p (f x)) || b) (taken_either f t v u p same xs)
    ∙ either (t x) (v x) (list_any p (f x)) T V
    ∙ ap (λ b. b || ((v x && list_any p (f x)) || V)) (sym (taken_first f t p x xs))
    ∙ ap (λ b. list_any p (flat_map f (filter t (x ∷ xs))) || b) (sym (taken_first f v p x xs))

-- two tests are one where each follows from the other
pub same_test : (a b : Bool) → (a ≡ true → b ≡ true) → (b ≡ true → a ≡ true) → a ≡ b
same_test true b to fro = sym (to refl)
same_test false true to fro = fro refl
same_test false false to fro = refl

module _ (stores : List Sight) where
  abbrev pub at : ℕ → Sight → Bool
  at k s = is_reached k stores s

  abbrev pub said : ℕ → List Claim
  said k = claims_at k stores

  -- found in this round, and not before
  abbrev pub fresh : ℕ → Sight → Bool
  fresh k s = is_fresh (standing k stores s)

  -- what is claimed by those that are found in this round
  abbrev pub news : ℕ → List Claim
  news k = flat_map claims_seen (filter (fresh k) stores)

  pub grows : (j k : ℕ) (s : Sight) → j ≤ k → at j s ≡ true → at k s ≡ true
  grows = rounds.grows Sight head_seen claims_seen Any Any frame_seen nothing_read stores

  -- ---- standings

  pub found_is : (k : ℕ) (s : Sight) → is_found (standing k stores s) ≡ at k s
  found_is zero s = elim (is_root s) as (λ v. is_found (cond v Fresh Stray) ≡ v) [ true ↦ refl | false ↦ refl ]
  found_is (suc k) s =
      elim (at k s) as (λ v. at k s ≡ v → is_found (cond v Settled (cond (at (suc k) s) Fresh Stray))
      ≡ at (suc k) s) [
        | true ↦ λ e. sym (grows k (suc k) s (omega arith) e)
        | false ↦ λ e. elim (at (suc k) s) as (λ v. is_found (cond v Fresh Stray) ≡ v)
            [ true ↦ refl | false ↦ refl ]
      ] refl

  fresh_root : (s : Sight) → fresh zero s ≡ is_root s
  fresh_root s = elim (is_root s) as (λ v. is_fresh (cond v Fresh Stray) ≡ v) [ true ↦ refl | false ↦ refl ]

  fresh_later : (k : ℕ) (s : Sight) → fresh (suc k) s ≡ (not (at k s) && at (suc k) s)
  fresh_later k s =
      elim (at k s) as (λ v. is_fresh (cond v Settled (cond (at (suc k) s) Fresh Stray)) ≡ (not v && at (suc k) s)) [
        | true ↦ refl
        | false ↦ elim (at (suc k) s) as (λ v. is_fresh (cond v Fresh Stray) ≡ v)
            [ true ↦ refl | false ↦ refl ]
      ]

  pub fresh_found : (k : ℕ) (s : Sight) → fresh k s ≡ true → IsFoundIn k stores s
  fresh_found zero s h = (sym (fresh_root s) ∙ h, λ j lt. absurd (omega (arith, lt)))
  fresh_found (suc k) s h =
      let parts = and_parts (not (at k s)) (at (suc k) s) (sym (fresh_later k s) ∙ h) in (
        parts.1,
        λ j lt. false_from_ne_true (at j s) (λ g. true≢false
            (sym parts.0 ∙ ap not (grows j k s (omega (arith, lt)) g))),
      )

  pub found_fresh : (k : ℕ) (s : Sight) → IsFoundIn k stores s → fresh k s ≡ true
  found_fresh zero s h = fresh_root s ∙ h.0
  found_fresh (suc k) s h = fresh_later k s ∙ and_from _ _ (ap not (h.1 k (omega arith))) h.0

  -- ---- claims

  grown : (t w : Bool) → (t ≡ true → w ≡ true) → w ≡ (t || (not t && w))
  grown true w h = h refl
  grown false w h = refl

  said_more : (k : ℕ) (p : Claim → Bool) → list_any p (said (suc k))
      ≡ (list_any p (said k) || list_any p (news (suc k)))
  said_more k p = taken_either claims_seen (at k) (fresh (suc k)) (at (suc k)) p
      (λ s. grown (at k s) (at (suc k) s) (λ g. grows k (suc k) s (omega arith) g)
      ∙ ap (λ b. at k s || b) (sym (fresh_later k s))) stores

  -- with the claims of the stores of a round, all that is claimed up to it
  pub said_with : (k : ℕ) (p : Claim → Bool) → (list_any p (said_before stores k) || list_any p (news k))
      ≡ list_any p (said k)
  said_with zero p = ap (λ ss. list_any p (flat_map claims_seen ss))
      (filter_same (fresh zero) (at zero) stores (All-each (λ s. fresh zero s ≡ at zero s) fresh_root stores))
  said_with (suc k) p = sym (said_more k p)

  pub news_in : (k : ℕ) (s : Sight) (c : Claim) → In s stores → at k s ≡ true → In c (claims_seen s)
      → In c (said k)
  news_in k s c i h j = In-flat_map claims_seen s c (filter (at k) stores) (In-filter (at k) s stores i h) j

  -- ---- one round more

  abbrev pub made : ℕ → Sight → Claim → Bool
  made k s c = is_loan_of c s && is_open_claim (said k) c

  -- a store that is not found is made by a split of a store of this round, or of none
  pub made_just_now : (k : ℕ) (s : Sight) → at k s ≡ false → list_any (made k s) (said k) ≡ true
      → (x : Sight)
      × In x stores × (fresh k x ≡ true) × (c : Claim) × In c (claims_seen x) × (made k s c ≡ true)
  made_just_now k s none h =
      let it = any_of_taken claims_seen (at k) (made k s) stores h in
      let parts = and_parts (is_loan_of it.3 s) (is_open_claim (said k) it.3) it.5 in
      let first : (j : ℕ) × (j ≤ k) × IsFoundIn j stores it.0 =
      rounds.first_round Sight head_seen claims_seen Any Any frame_seen nothing_read stores k it.0 it.2 in
      elim (cases_lt first.0 k) [
        | inl lt ↦
            let «open» : is_open_claim (said first.0) it.3 ≡ true =
            rounds.open_falls Sight head_seen claims_seen Any Any frame_seen nothing_read stores first.0 k
            it.3 first.1 parts.1 in
            let found : at (suc first.0) s ≡ true = ap (λ b. at first.0 s || b)
            (any_in (made first.0 s) it.3 (said first.0) (news_in first.0 it.0 it.3 it.1 first.2.0 it.4)
            (and_from _ _ parts.0 «open»)) ∙ or-true (at first.0 s) in
            absurd (true≢false (sym (grows (suc first.0) k s (omega (arith, lt)) found) ∙ none))
        | inr le ↦
            let e : first.0 ≡ k = omega (arith, first.1, le) in
            (it.0, it.1, found_fresh k it.0 (subst (λ j. IsFoundIn j stores it.0) e first.2), it.3, it.4, it.5)
      ]

  -- how a store stands one round later, by whether it is lent just now
  pub stands_later : (k : ℕ) (s : Sight) (lent : Bool) → (at k s ≡ false
      → lent ≡ list_any (made k s) (said k))
      → one_later (standing k stores s) lent ≡ standing (suc k) stores s
  stands_later k s lent h =
      elim (at k s) as (λ v. at k s ≡ v → one_later (standing k stores s) lent
      ≡ cond v Settled (cond (v || list_any (made k s) (said k)) Fresh Stray)) [
        | true ↦ λ e. settled (standing k stores s) (found_is k s ∙ e)
        | false ↦ λ e. stray (standing k stores s) (found_is k s ∙ e) ∙ ap (λ b. cond b Fresh Stray) (h e)
      ] refl
    where
      settled : (t : Standing) → is_found t ≡ true → one_later t lent ≡ Settled
      settled Stray g = absurd (false≢true g)
      settled Fresh g = refl
      settled Settled g = refl

      stray : (t : Standing) → is_found t ≡ false → one_later t lent ≡ cond lent Fresh Stray
      stray Stray g = refl
      stray Fresh g = absurd (true≢false g)
      stray Settled g = absurd (true≢false g)

  -- ---- as many rounds as there are stores find all

  abbrev Still : ℕ → Type 0
  Still k = AllByRecursion (λ s. at (suc k) s ≡ at k s) stores

  twice : (a x : Bool) → ((a || x) || x) ≡ (a || x)
  twice true x = refl
  twice false true = refl
  twice false false = refl

  still_on : (k : ℕ) → Still k → Still (suc k)
  still_on k h = All-each (λ s. at (suc (suc k)) s ≡ at (suc k) s) (λ s.
      let same : said (suc k) ≡ said k = ap (flat_map claims_seen) (filter_same (at (suc k)) (at k) stores h) in
      ap (λ cs. at (suc k) s || list_any (λ c. is_loan_of c s && is_open_claim cs c) cs) same
      ∙ twice (at k s) (list_any (made k s) (said k))) stores

  still : (k : ℕ) → length stores ≤ k → Still k
  still zero le = subst Still (let e : length stores ≡ zero = omega (arith, le) in e)
      (rounds.all_found Sight head_seen claims_seen Any Any frame_seen nothing_read stores)
  still (suc k) le =
      elim (cases_lt k (length stores)) [
        | inl lt ↦ subst Still (let e : length stores ≡ suc k = omega (arith, lt, le) in e)
            (rounds.all_found Sight head_seen claims_seen Any Any frame_seen nothing_read stores)
        | inr under ↦ still_on k (still k under)
      ]

  -- a store that is there and is found in any round is live
  pub found_is_live : (k : ℕ) (s : Sight) → In s stores → at k s ≡ true → at (length stores) s ≡ true
  found_is_live zero s i h = grows zero (length stores) s (omega arith) h
  found_is_live (suc k) s i h =
      elim (cases_lt k (length stores)) [
        | inl lt ↦ grows (suc k) (length stores) s (omega (arith, lt)) h
        | inr le ↦ found_is_live k s i (sym (All-In (λ x. at (suc k) x ≡ at k x) s stores (still k le) i) ∙ h)
      ]

  -- so it is found in as many rounds as there are stores
  pub round_within : (k : ℕ) (s : Sight) → In s stores → IsFoundIn k stores s → k ≤ length stores
  round_within k s i h =
      elim (cases_lt (length stores) k) [
        | inl lt ↦ absurd (true≢false (sym (found_is_live k s i h.0) ∙ h.1 (length stores) lt))
        | inr le ↦ le
      ]
