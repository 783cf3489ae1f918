-- The rounds in which live stores are found: they only grow, and as many as there are stores find all.
use Rattle.std.specs.Prelude.{◌≡◌, ◌⊎◌, ℕ, zero, suc, ◌<◌, ◌≤◌, Bool, true, false, cond, not}
use Rattle.std.specs.Prelude.{◌&&◌, ◌||◌, List, [], ◌∷◌, ◌++◌, filter, length, refl, Option}
use Rattle.std.specs.Prelude.{count_by, flat_map}
use Rattle.std.proofs.Common.{sym, ap, subst, ◌∙◌, arith, inl, inr}
use Rattle.std.proofs.lemmas.Bool.{true≢false, false≢true, and_parts, and_from, or_parts, false_from_ne_true}
use Rattle.std.proofs.lemmas.Bool.{cases_lt}
use Rattle.std.proofs.lemmas.List.Sums.{sum_by-cons}
use Rattle.std.proofs.lemmas.List.Folds.{list_any-append}
use Rattle.std.specs.List.{list_any, AllByRecursion}
use Rattle.sheet_types.specs.World.{Package}
use Rattle.sheet_types.specs.Opening.{Head, Claim, is_open_claim, is_root, is_loan_of, is_reached, IsFoundIn}
use Rattle.sheet_types.specs.declared.frame.Frame.{Frame}
use Rattle.sheet_types.proofs.Basics.{not_true}
use Rattle.sheet_types.proofs.Every.{All-weaker}
use Rattle.sheet_types.proofs.Sums.{count-cons}
use Rattle.sheet_types.proofs.Found.{filter_same}
use Rattle.sheet_types.proofs.Same.{In, any_at}

-- ---- lists

-- no more pass than there are
count-le-length : {X : Type 0} (p : X → Bool) (xs : List X) → count_by p xs ≤ length xs
count-le-length p [] = omega arith
count-le-length p (x ∷ xs) =
    elim (p x) as (λ v. p x ≡ v → count_by p (x ∷ xs) ≤ length (x ∷ xs)) [
      | true ↦ λ e. omega (arith, count-cons p x xs true e, count-le-length p xs)
      | false ↦ λ e. omega (arith, count-cons p x xs false e, count-le-length p xs)
    ] refl

-- where as many pass as there are, each does
all_counted : {X : Type 0} (p : X → Bool) (xs : List X) → length xs ≤ count_by p xs
    → AllByRecursion (λ x. p x ≡ true) xs
all_counted p [] h = tt
all_counted p (x ∷ xs) h =
    elim (p x) as (λ v. p x ≡ v → (v ≡ true) × AllByRecursion (λ y. p y ≡ true) xs) [
      | true ↦ λ e. (refl, all_counted p xs (omega (arith, h, count-cons p x xs true e)))
      | false ↦ λ e. absurd (omega (arith, h, count-cons p x xs false e, count-le-length p xs))
    ] refl

-- a weaker test that counts no more is the same
same_counted : {X : Type 0} (p q : X → Bool) → ((x : X) → p x ≡ true → q x ≡ true) → (xs : List X)
    → count_by q xs ≤ count_by p xs → AllByRecursion (λ x. q x ≡ p x) xs
same_counted p q f [] h = tt
same_counted p q f (x ∷ xs) h =
    elim (p x) as (λ v. p x ≡ v → (q x ≡ v) × AllByRecursion (λ y. q y ≡ p y) xs) [
      | true ↦ λ e. (
        f x e,
        same_counted p q f xs (omega (
          arith,
          h,
          count-cons p x xs true e,
          count-cons q x xs
              true (f x e),
        )),
      )
      | false ↦ λ e. elim (q x) as (λ v. q x ≡ v → (v ≡ false) × AllByRecursion (λ y. q y ≡ p y) xs) [
        | true ↦ λ g. absurd (omega (arith, h, count-cons p x xs false e, count-cons q x xs true g, weaker xs))
        | false ↦ λ g. (
          refl,
          same_counted p q f xs (omega (
            arith,
            h,
            count-cons p x xs false e,
            count-cons q x xs
                false g,
          )),
        )
      ] refl
    ] refl
  where
    weaker : (ys : List _) → count_by p ys ≤ count_by q ys
    weaker [] = omega arith
    weaker (y ∷ ys) =
        elim (p y) as (λ v. p y ≡ v → count_by p (y ∷ ys) ≤ count_by q (y ∷ ys)) [
          | true ↦ λ e. omega (arith, count-cons p y ys true e, count-cons q y ys true (f y e), weaker ys)
          | false ↦ λ e. omega (arith, count-cons p y ys false e, sum_by-cons (λ z. cond (q z) 1 0) y ys, weaker ys)
        ] refl

-- of the lists of what a stronger test takes, fewer elements pass
any_fewer : {X Y : Type 0} (f : X → List Y) (t u : X → Bool) (p : Y → Bool)
    → ((x : X) → t x ≡ true → u x ≡ true) → (xs : List X) → list_any p (flat_map f (filter u xs))
    ≡ false → list_any p (flat_map f (filter t xs)) ≡ false
any_fewer f t u p more [] h = refl
any_fewer f t u p more (x ∷ xs) h =
    elim (t x) as (λ v. t x ≡ v → list_any p (flat_map f (cond v (x ∷ filter t xs) (filter t xs))) ≡ false) [
      | true ↦ λ e.
          let here : list_any p (f x ++ flat_map f (filter u xs)) ≡ false =
          ap (λ v. list_any p (flat_map f (cond v (x ∷ filter u xs) (filter u xs)))) (sym (more x e))
          ∙ h in
          let parts : (list_any p (f x) ≡ false) × (list_any p (flat_map f (filter u xs)) ≡ false) =
          or_parts _ _ (sym (list_any-append p (f x) (flat_map f (filter u xs))) ∙ here) in
          list_any-append p (f x) (flat_map f (filter t xs))
          ∙ ap (λ b. b || list_any p (flat_map f (filter t xs))) parts.0 ∙ any_fewer f t u p more xs parts.1
      | false ↦ λ _. any_fewer f t u p more xs (elim (u x) as
          (λ v. list_any p (flat_map f (cond v (x ∷ filter u xs) (filter u xs))) ≡ false
          → list_any p (flat_map f (filter u xs)) ≡ false) [
            | true ↦ λ g. (or_parts (list_any p (f x)) _ (sym (list_any-append p (f x) (flat_map f (filter u xs)))
                ∙ g)).1
            | false ↦ λ g. g
          ] h)
    ] refl

-- an element that passes, by the list in which it is
pub any_of_taken : {X Y : Type 0} (f : X → List Y) (t : X → Bool) (p : Y → Bool) (xs : List X)
    → list_any p (flat_map f (filter t xs)) ≡ true → (x : X) × In x xs × (t x ≡ true) × (y : Y)
    × In y (f x) × (p y ≡ true)
any_of_taken f t p [] h = absurd (false≢true h)
any_of_taken {X} {Y} f t p (x ∷ xs) h =
    let Found : Type 0 = (z : X) × In z (x ∷ xs) × (t z ≡ true) × (y : Y) × In y (f z) × (p y ≡ true) in
    let later : list_any p (flat_map f (filter t xs)) ≡ true → Found = λ g.
    let r : (z : X) × In z xs × (t z ≡ true) × (y : Y) × In y (f z) × (p y ≡ true) =
    any_of_taken f t p xs g in (r.0, inr r.1, r.2, r.3, r.4, r.5) in
    elim (t x) as (λ v. t x ≡ v → list_any p (flat_map f (cond v (x ∷ filter t xs) (filter t xs))) ≡ true
    → Found) [
      | true ↦ λ e g. elim (list_any p (f x)) as (λ v. list_any p (f x) ≡ v
          → (v || list_any p (flat_map f (filter t xs))) ≡ true → Found) [
            | true ↦ λ here _. let y : (y : Y) × In y (f x) × (p y ≡ true) =
                any_at p (f x) here in (x, inl refl, e, y.0, y.1, y.2)
            | false ↦ λ _ rest. later rest
          ] refl (sym (list_any-append p (f x) (flat_map f (filter t xs))) ∙ g)
      | false ↦ λ _ g. later g
    ] refl h

module _ (Store : Type 0) (head : Store → Option Head) (claims : Store → List Claim) (IsFormed : Store → Type 0)
    (IsTied : Store → Type 0) (frame_of : Store → Frame) (read : Store → Package) (stores : List Store) where
  -- found within k rounds
  abbrev pub at : ℕ → Store → Bool
  at k s = is_reached Store head claims IsFormed IsTied frame_of read k stores s

  abbrev pub loan_of : Claim → Store → Bool
  loan_of c s = is_loan_of Store head claims IsFormed IsTied frame_of read c s

  -- what the stores found within k rounds claim
  abbrev pub said : ℕ → List Claim
  said k = flat_map claims (filter (at k) stores)

  abbrev made_in : ℕ → Store → Claim → Bool
  made_in k s c = loan_of c s && is_open_claim (said k) c

  -- ---- rounds grow

  pub grows : (j k : ℕ) (s : Store) → j ≤ k → at j s ≡ true → at k s ≡ true
  grows j zero s le h = subst (λ n. at n s ≡ true) (let e : j ≡ zero = omega arith in e) h
  grows j (suc k) s le h =
      elim (cases_lt k j) [
        | inl past ↦ subst (λ n. at n s ≡ true) (let e : j ≡ suc k = omega arith in e) h
        | inr under ↦ ap (λ b. b || list_any (made_in k s) (said k)) (grows j k s under h)
      ]

  -- the first round of a store
  pub first_round : (k : ℕ) (s : Store) → at k s ≡ true → (j : ℕ) × (j ≤ k)
      × IsFoundIn Store head claims IsFormed IsTied frame_of read j stores s
  first_round zero s h = (zero, omega arith, (h, λ i lt. absurd (omega (arith, lt))))
  first_round (suc k) s h =
      elim (at k s) as (λ v. at k s ≡ v → (j : ℕ) × (j ≤ suc k)
      × IsFoundIn Store head claims IsFormed IsTied frame_of read j stores s) [
        | true ↦ λ e. let r : (j : ℕ) × (j ≤ k) × IsFoundIn Store head claims IsFormed IsTied frame_of read j
            stores s = first_round k s e in (r.0, (let le : r.0 ≤ suc k = omega (arith, r.1) in le), r.2)
        | false ↦ λ e. (
          suc k,
          omega arith,
          (
            h,
            λ i lt. false_from_ne_true (at i s)
                (λ g. true≢false (sym (grows i k s (omega (arith, lt)) g) ∙ e)),
          ),
        )
      ] refl

  -- openness only falls
  pub open_falls : (j k : ℕ) (c : Claim) → j ≤ k → is_open_claim (said k) c ≡ true
      → is_open_claim (said j) c ≡ true
  open_falls j k c le h =
      let parts = and_parts _ _ h in
      and_from _ _ parts.0 (ap not (any_fewer claims (at j) (at k) _ (λ s g. grows j k s le g) stores
      (not_true _ parts.1)))

  -- where a store comes from: it is the archive's, or the loan of an open split of a store found before
  abbrev pub Origin : Store → ℕ → Type 0
  Origin s k = (j : ℕ) × (j < k) × (parent : Store) × In parent stores × (at j parent ≡ true) × (c : Claim)
      × In c (claims parent) × (loan_of c s ≡ true) × (is_open_claim (said j) c ≡ true)

  pub origin : (k : ℕ) (s : Store) → at k s ≡ true → (is_root Store head claims IsFormed IsTied frame_of read
      s ≡ true) ⊎ Origin s k
  origin zero s h = inl h
  origin (suc k) s h =
      elim (at k s) as (λ v. at k s ≡ v → (v || list_any (made_in k s) (said k)) ≡ true
      → (is_root Store head claims IsFormed IsTied frame_of read s ≡ true) ⊎ Origin s (suc k)) [
        | true ↦ λ e _. elim (origin k s e) [
          | inl root ↦ inl root
          | inr o ↦ inr (o.0, (let lt : o.0 < suc k = omega (arith, o.1) in lt), o.2, o.3, o.4, o.5, o.6, o.7, o.8)
        ]
        | false ↦ λ _ made.
            let r = any_of_taken claims (at k) (made_in k s) stores made in
            let both : (loan_of r.3 s ≡ true) × (is_open_claim (said k) r.3 ≡ true) = and_parts _ _ r.5 in
            inr (k, omega arith, r.0, r.1, r.2, r.3, r.4, both.0, both.1)
      ] refl h

  -- ---- as many rounds as there are stores find all

  abbrev Still : ℕ → Type 0
  Still k = AllByRecursion (λ s. at (suc k) s ≡ at k s) stores

  twice : (a x : Bool) → ((a || x) || x) ≡ (a || x)
  twice true x = refl
  twice false true = refl
  twice false false = refl

  stays_still : (k : ℕ) → Still k → (s : Store) → at (suc (suc k)) s ≡ at (suc k) s
  stays_still k h s =
      let same : said (suc k) ≡ said k = ap (flat_map claims) (filter_same (at (suc k)) (at k) stores h) in
      ap (λ cs. at (suc k) s || list_any (λ c. loan_of c s && is_open_claim cs c) cs) same
      ∙ twice (at k s) (list_any (made_in k s) (said k))

  all_stores : (k : ℕ) → ((s : Store) → at (suc k) s ≡ at k s) → (ss : List Store)
      → AllByRecursion (λ s. at (suc k) s ≡ at k s) ss
  all_stores k f [] = tt
  all_stores k f (s ∷ ss) = (f s, all_stores k f ss)

  still_later : (k n : ℕ) → k ≤ n → Still k → Still n
  still_later k zero le h = subst Still (let e : k ≡ zero = omega arith in e) h
  still_later k (suc n) le h =
      elim (cases_lt n k) [
        | inl past ↦ subst Still (let e : k ≡ suc n = omega arith in e) h
        | inr under ↦ all_stores (suc n) (stays_still n (still_later k n under h)) stores
      ]

  still_or_more : (n : ℕ) → ((k : ℕ) × (k < n) × Still k) ⊎ (n ≤ count_by (at n) stores)
  still_or_more zero = inr (omega arith)
  still_or_more (suc n) =
      elim (still_or_more n) [
        | inl s ↦ inl (s.0, (let lt : s.0 < suc n = omega (arith, s.1) in lt), s.2)
        | inr more ↦ elim (cases_lt n (count_by (at (suc n)) stores)) [
          | inl lt ↦ inr (omega arith)
          | inr le ↦ inl (
            n,
            omega arith,
            same_counted (at n) (at (suc n))
                (λ s g. grows n (suc n) s (omega arith) g) stores (omega (arith, le, more)),
          )
        ]
      ]

  pub all_found : Still (length stores)
  all_found =
      elim (still_or_more (length stores)) [
        | inl s ↦ still_later s.0 (length stores) (omega (arith, s.1)) s.2
        | inr more ↦ All-weaker (λ s. at (length stores) s ≡ true)
            (λ s. at (suc (length stores)) s ≡ at (length stores) s)
            (λ s e. ap (λ b. b || list_any (made_in (length stores) s) (said (length stores))) e ∙ sym e) stores
            (all_counted (at (length stores)) stores more)
      ]
