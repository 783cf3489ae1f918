-- What is known after each round: how the stores stand, which merges are noted, which open splits are listed.
use Rattle.std.specs.Prelude.{◌≡◌, ◌⊎◌, ℕ, ℤ, pos, negsuc, zero, suc, ◌<◌, ◌≤◌, Bool, true}
use Rattle.std.specs.Prelude.{false, cond, not, ◌&&◌}
use Rattle.std.specs.Prelude.{◌||◌, nat_lt, nat_eq, bytes_eq, List, [], ◌∷◌, ◌++◌, map, filter, length}
use Rattle.std.specs.Prelude.{refl, Option}
use Rattle.std.specs.Prelude.{Some, None, option_map, Contains, String}
use Rattle.std.proofs.Common.{sym, ap, subst, ◌∙◌, arith, inl, inr}
use Rattle.std.proofs.lemmas.Bool.{true≢false, and_parts, and_from, false_from_ne_true, cases_lt}
use Rattle.std.proofs.lemmas.Bool.Decides.{nat_tests}
use Rattle.std.proofs.lemmas.Int.{ints}
use Rattle.std.specs.List.{list_any}
use Rattle.std.specs.Option.{option_map_or}
use Rattle.std.specs.Ordering.{nat_cmp}
use Rattle.std.specs.Cmp.Lexicographic.{slice_cmp}
use Rattle.std.specs.BTreeMap.{BTreeMap}
use Rattle.std.specs.BTreeSet.{BTreeSet, contains}
use Rattle.sheet_types.specs.Matrix.{is_within}
use Rattle.sheet_types.specs.Texts.{uuid_text}
use Rattle.sheet_types.specs.Opening.{Claim, claims_split, is_open_claim}
use Rattle.sheet_types.proofs.Basics.{None≢Some, bytes_eq_swap}
use Rattle.sheet_types.proofs.Same.{In, In-filter, In-map, In-of_map, In-flat_map, In-of_flat_map, In-append}
use Rattle.sheet_types.proofs.Same.{In-of_append, any_in, any_at, Contains-In}
use Rattle.opening_faults.specs.Sights.{head_said, claims_seen, is_loan_of, is_live_store, IsFoundIn}
use Rattle.opening_faults.specs.Standings.{standing, is_found, one_later}
use Rattle.opening_faults.specs.Merges.{is_above, merges_after, HasMerges, is_open_by}
use Rattle.opening_faults.specs.Splits.{split_made, splits_in, splits_among, number_key, head_key, makes_key}
use Rattle.opening_faults.specs.Splits.{is_lent_in, IsOpenSplit, AreOpenSplits}
use Rattle.opening_faults.specs.Turns.{said_before, splits_at, AreListed, IsTurn}
use Rattle.opening_faults.specs.declared.standing.Standing.{Standing}
use Rattle.opening_faults.specs.declared.splits.OpenSplit.{OpenSplit}
use Rattle.opening_faults.specs.declared.sights.StoreHead.{StoreHead}
use Rattle.opening_faults.specs.declared.sights.Sight.{Sight}
use Rattle.opening_faults.proofs.Members.{contained}
use Rattle.opening_faults.proofs.Growing.{at, said, fresh, news, said_with, found_is, fresh_found, found_fresh}
use Rattle.opening_faults.proofs.Growing.{news_in, made, made_just_now, stands_later, round_within, same_test}

-- ---- lists

pub of_filter : {X : Type 0} (t : X → Bool) (x : X) (xs : List X) → In x (filter t xs) → In x xs × (t x ≡ true)
of_filter t x [] i = absurd i
of_filter t x (y ∷ ys) i =
    elim (t y) as (λ v. t y ≡ v → In x (cond v (y ∷ filter t ys) (filter t ys)) → In x (y ∷ ys)
    × (t x ≡ true)) [
      | true ↦ λ e j. elim j [
        | inl same ↦ (inl same, ap t (sym same) ∙ e)
        | inr later ↦ let r : In x ys × (t x ≡ true) = of_filter t x ys later in (inr r.0, r.1)
      ]
      | false ↦ λ _ j. let r : In x ys × (t x ≡ true) = of_filter t x ys j in (inr r.0, r.1)
    ] refl i

pub map_same : {X Y : Type 0} (f g : X → Y) → ((x : X) → f x ≡ g x) → (xs : List X) → map f xs ≡ map g xs
map_same f g same [] = refl
map_same f g same (x ∷ xs) = ap (λ y. y ∷ map f xs) (same x) ∙ ap (λ ys. g x ∷ ys) (map_same f g same xs)

pub map_map : {X Y Z : Type 0} (f : X → Y) (g : Y → Z) (xs : List X) → map g (map f xs) ≡ map (λ x. g (f x)) xs
map_map f g [] = refl
map_map f g (x ∷ xs) = ap (λ ys. g (f x) ∷ ys) (map_map f g xs)

-- ---- keys

-- a store with this head is the loan of the claim
abbrev pub loan_by : StoreHead → Claim → Bool
loan_by h c = bytes_eq (uuid_text h.uuid) c.target && is_within c.seq c.seq (pos h.loan)

within_same : (n m : ℕ) → is_within (pos n) (pos n) (pos m) ≡ nat_eq n m
within_same n m = grind (arith, nat_tests, ints)

pub not_within : (n m : ℕ) → is_within (negsuc n) (negsuc n) (pos m) ≡ false
not_within n m = grind (arith, nat_tests, ints)

pub and_swap : (a b : Bool) → (a && b) ≡ (b && a)
and_swap true true = refl
and_swap true false = refl
and_swap false true = refl
and_swap false false = refl

pub key_of : (text target : List ℕ) (loan : ℕ) (seq : ℤ) → option_map_or
    (λ made. bytes_eq made (loan ∷ text))
    (number_key seq target) false ≡ (bytes_eq text target && is_within seq seq (pos loan))
key_of text target loan (pos n) =
    and_swap (nat_eq n loan) (bytes_eq target text) ∙ ap (λ b. b && nat_eq n loan) (bytes_eq_swap target text)
    ∙ ap (λ b. bytes_eq text target && b) (sym (within_same n loan))
key_of text target loan (negsuc n) = sym (ap (λ b. bytes_eq text target && b) (not_within n loan)
    ∙ and_swap (bytes_eq text target) false)

pub key_same : (h above : StoreHead) (c : Claim) → makes_key (head_key h) (split_made above c) ≡ loan_by h c
key_same h above c = key_of (uuid_text h.uuid) c.target h.loan c.seq

pub loan_headed : (s : Sight) (h : StoreHead) (c : Claim) → s.head ≡ Some h → is_loan_of c s ≡ loan_by h c
loan_headed s h c e = ap (λ o. option_map_or (λ x. bytes_eq (uuid_text x.uuid) c.target && is_within c.seq c.seq
    (pos x.loan)) (option_map head_said o) false) e

pub no_loan : (s : Sight) (c : Claim) → s.head ≡ None → is_loan_of c s ≡ false
no_loan s c e = ap (λ o. option_map_or (λ x. bytes_eq (uuid_text x.uuid) c.target && is_within c.seq c.seq
    (pos x.loan)) (option_map head_said o) false) e

pub headed : (o : Option StoreHead) → ((h : StoreHead) × (o ≡ Some h)) ⊎ (o ≡ None)
headed None = inr refl
headed (Some h) = inl (h, refl)

headless : (o : Option StoreHead) (h : StoreHead) → o ≡ None → o ≡ Some h → ⊥
headless o h e g = None≢Some (sym e ∙ g)

-- a split of a store comes from a claim that passes, under its head
split_from : (p : Claim → Bool) (s : Sight) (split : OpenSplit) → In split (splits_in p s) → (h : StoreHead)
    × (s.head ≡ Some h) × (c : Claim) × In c (claims_seen s) × (p c ≡ true) × (split_made h c ≡ split)
split_from p s split i =
    let Found : Type 0 = (h : StoreHead) × (s.head ≡ Some h) × (c : Claim) × In c (claims_seen s) × (p c ≡ true)
    × (split_made h c ≡ split) in
    elim s.head as (λ o. s.head ≡ o → In split (option_map_or
    (λ h. map (split_made h) (filter p (claims_seen s))) o
    []) → Found) [
      | None ↦ λ e j. absurd j
      | Some h ↦ λ e j.
          let r : (c : Claim) × In c (filter p (claims_seen s)) × (split_made h c ≡ split) =
          In-of_map (split_made h) split (filter p (claims_seen s)) j in
          let t : In r.0 (claims_seen s) × (p r.0 ≡ true) = of_filter p r.0 (claims_seen s) r.1 in
          (h, e, r.0, t.0, t.1, r.2)
    ] refl i

split_to : (p : Claim → Bool) (s : Sight) (h : StoreHead) (c : Claim) → s.head ≡ Some h → In c (claims_seen s)
    → p c ≡ true → In (split_made h c) (splits_in p s)
split_to p s h c e i g = subst (λ o. In (split_made h c) (option_map_or
    (λ x. map (split_made x) (filter p (claims_seen s))) o [])) (sym e)
    (In-map (split_made h) c (filter p (claims_seen s)) (In-filter p c (claims_seen s) i g))

module _ (stores : List Sight) where
  root_or_loan_headed : (s : Sight) (c : Claim) → is_loan_of c s ≡ true → (h : StoreHead) × (s.head ≡ Some h)
  root_or_loan_headed s c g = elim (headed s.head) [
    | inl h ↦ h
    | inr none
        ↦ absurd (true≢false (sym g ∙ no_loan s c none))
  ]

  -- what is found has a head
  pub found_headed : (j : ℕ) (s : Sight) → at stores j s ≡ true → (h : StoreHead) × (s.head ≡ Some h)
  found_headed zero s g = elim (headed s.head) [
    | inl h ↦ h
    | inr none ↦ absurd (true≢false (sym g ∙ ap (λ o. option_map_or (λ x. nat_eq x.depth 0)
        (option_map head_said o)
        false) none))
  ]
  found_headed (suc j) s g =
      elim (at stores j s) as (λ v. at stores j s ≡ v → (v || list_any (made stores j s) (said stores j)) ≡ true
      → (h : StoreHead) × (s.head ≡ Some h)) [
        | true ↦ λ e _. found_headed j s e
        | false ↦ λ _ any. let c : (c : Claim) × In c (said stores j) × (made stores j s c ≡ true) =
            any_at (made stores j s) (said stores j) any in
            root_or_loan_headed s c.0 (and_parts (is_loan_of c.0 s) (is_open_claim (said stores j) c.0) c.2).0
      ] refl g

  -- ---- the splits of one round

  module _ (k : ℕ) (p : Claim → Bool) (judged : (c : Claim) → p c ≡ is_open_claim (said stores k) c) where
    abbrev here : List OpenSplit
    here = splits_among p (standing k stores) stores

    here_sound : (split : OpenSplit) → In split here → IsOpenSplit stores split
    here_sound split i =
        let x = In-of_flat_map (splits_in p) split (filter (fresh stores k) stores) i in
        let t : In x.0 stores × (fresh stores k x.0 ≡ true) = of_filter (fresh stores k) x.0 stores x.1 in
        let f = split_from p x.0 split x.2 in
        subst (IsOpenSplit stores) f.5 (
          x.0,
          f.2,
          Contains-In x.0 stores t.0,
          (k, fresh_found stores k x.0 t.1, Contains-In f.2 (claims_seen x.0) f.3, sym (judged f.2) ∙ f.4),
          f.1,
          refl,
        )

    here_whole : (s : Sight) (c : Claim) (h : StoreHead) → In s stores → IsFoundIn k stores s
        → In c (claims_seen s)
        → is_open_claim (said stores k) c ≡ true → s.head ≡ Some h → In (split_made h c) here
    here_whole s c h i found j «open» e =
        In-flat_map (splits_in p) s (split_made h c) (filter (fresh stores k) stores)
        (In-filter (fresh stores k) s stores i (found_fresh stores k s found))
        (split_to p s h c e j (judged c ∙ «open»))

    -- ---- who is lent by them

    module _ (loans : BTreeSet (List ℕ)) (noted : (key : List ℕ)
        → contains (slice_cmp nat_cmp) loans key ≡ list_any (makes_key key) here) where
      lent_headed : (s : Sight) (h : StoreHead) → s.head ≡ Some h
          → is_lent_in loans s ≡ list_any (makes_key (head_key h)) here
      lent_headed s h e = ap (λ o. option_map_or (λ x. contains (slice_cmp nat_cmp) loans (head_key x)) o false) e
          ∙ noted (head_key h)

      lent_made : (s : Sight) (h : StoreHead) → s.head ≡ Some h → list_any (makes_key (head_key h)) here ≡ true
          → list_any (made stores k s) (said stores k) ≡ true
      lent_made s h e g =
          let split : (split : OpenSplit) × In split here × (makes_key (head_key h) split ≡ true) =
          any_at (makes_key (head_key h)) here g in
          let x = In-of_flat_map (splits_in p) split.0 (filter (fresh stores k) stores) split.1 in
          let t : In x.0 stores × (fresh stores k x.0 ≡ true) = of_filter (fresh stores k) x.0 stores x.1 in
          let f = split_from p x.0 split.0 x.2 in
          let loan : is_loan_of f.2 s ≡ true = loan_headed s h f.2 e ∙ sym (key_same h f.0 f.2)
          ∙ ap (makes_key (head_key h)) f.5 ∙ split.2 in
          any_in (made stores k s) f.2 (said stores k) (news_in stores k x.0 f.2 t.0 (fresh_found stores k x.0 t.1).0
          f.3) (and_from _ _ loan (sym (judged f.2) ∙ f.4))

      made_lent : (s : Sight) (h : StoreHead) → s.head ≡ Some h → at stores k s ≡ false
          → list_any (made stores k s) (said stores k) ≡ true → list_any (makes_key (head_key h)) here ≡ true
      made_lent s h e none g =
          let it = made_just_now stores k s none g in
          let parts = and_parts (is_loan_of it.3 s) (is_open_claim (said stores k) it.3) it.5 in
          let above : (x : StoreHead) × (it.0.head ≡ Some x) =
          found_headed k it.0 (fresh_found stores k it.0 it.2).0 in
          any_in (makes_key (head_key h)) (split_made above.0 it.3) here
          (here_whole it.0 it.3 above.0 it.1 (fresh_found stores k it.0 it.2) it.4 parts.1 above.1)
          (key_same h above.0 it.3 ∙ sym (loan_headed s h it.3 e) ∙ parts.0)

      pub lent_is : (s : Sight) → at stores k s ≡ false → is_lent_in loans s
          ≡ list_any (made stores k s) (said stores k)
      lent_is s none =
          elim (headed s.head) [
            | inl h ↦ lent_headed s h.0 h.1 ∙ same_test _ _ (lent_made s h.0 h.1) (made_lent s h.0 h.1 none)
            | inr bare ↦ ap (λ o. option_map_or (λ x. contains (slice_cmp nat_cmp) loans (head_key x)) o false) bare
                ∙ sym (false_from_ne_true _ (λ g.
                let c : (c : Claim) × In c (said stores k) × (made stores k s c ≡ true) =
                any_at (made stores k s) (said stores k) g in
                true≢false (sym (and_parts (is_loan_of c.0 s) (is_open_claim (said stores k) c.0) c.2).0
                ∙ no_loan s c.0 bare)))
          ]

      -- how the stores stand a round later
      pub later : map (λ s. one_later (standing k stores s) (is_lent_in loans s)) stores
          ≡ map (standing (suc k) stores) stores
      later = map_same (λ s. one_later (standing k stores s) (is_lent_in loans s)) (standing (suc k) stores)
          (λ s. stands_later stores k s (is_lent_in loans s) (lent_is s)) stores

  -- ---- the splits of all rounds before

  pub none_listed : AreListed stores zero []
  none_listed = record {
    sound = λ split i. absurd (contained [] split i);
    whole = λ j s c h lt i found k «open» e. absurd (omega (arith, lt));
  }

  pub more_listed : (k : ℕ) (old new : List OpenSplit) → new ≡ old ++ splits_at k stores
      → AreListed stores k old
      → AreListed stores (suc k) new
  more_listed k old new all was = record {
    sound = λ split i. elim (In-of_append split old (splits_at k stores)
        (subst (In split) all (contained new split i))) [
          | inl j ↦ was.sound split (Contains-In split old j)
          | inr j ↦ here_sound k (is_open_claim (said stores k)) (λ c. refl) split j
        ];
    whole = λ j s c h lt i found m «open» e. Contains-In (split_made h c) new
        (subst (In (split_made h c)) (sym all) (In-append (split_made h c) old (splits_at k stores)
        (one j s c h i found m «open» e (later_or j lt))));
  }
    where
      later_or : (j : ℕ) → j < suc k → (j < k) ⊎ (j ≡ k)
      later_or j lt = elim (cases_lt j k) [ inl less ↦ inl less | inr le ↦ inr (omega (arith, lt, le)) ]

      one : (j : ℕ) (s : Sight) (c : Claim) (h : StoreHead) → Contains stores s → IsFoundIn j stores s
          → Contains (claims_seen s) c → is_open_claim (said stores j) c ≡ true → s.head ≡ Some h
          → (j < k) ⊎ (j ≡ k)
          → In (split_made h c) old ⊎ In (split_made h c) (splits_at k stores)
      one j s c h i found m «open» e past = elim past [
        | inl lt ↦ inl (contained old (split_made h c) (was.whole j s c h lt i found m «open» e))
        | inr same ↦ inr (here_whole k (is_open_claim (said stores k)) (λ x. refl) s c h (contained stores s i)
            (subst (λ n. IsFoundIn n stores s) same found) (contained (claims_seen s) c m)
            (subst (λ n. is_open_claim (said stores n) c ≡ true) same «open») e)
      ]

  pub all_listed : (splits : List OpenSplit) → AreListed stores (suc (length stores)) splits
      → AreOpenSplits stores splits
  all_listed splits all = record {
    sound = all.sound;
    whole = λ s c h i «open» e.
        let le : «open».0 ≤ length stores = round_within stores «open».0 s (contained stores s i) «open».1 in
        all.whole «open».0 s c h (omega (arith, le)) i «open».1 «open».2 «open».3 e;
  }

  -- the merges of this round are noted too
  pub noted_now : {Y : Type 0} (k : ℕ) (merges new : BTreeMap (String Y) ℤ)
      → HasMerges merges (said_before stores k)
      → ((source : List ℕ) (n : ℤ) → is_above new source n ≡
      (is_above merges source n || list_any (merges_after source n) (news stores k)))
      → HasMerges new (said stores k)
  noted_now k merges new was step = λ source n. step source n
      ∙ ap (λ b. b || list_any (merges_after source n) (news stores k)) (was source n)
      ∙ said_with stores k (merges_after source n)

  pub judged_by : {Y : Type 0} (k : ℕ) (merges : BTreeMap (String Y) ℤ) → HasMerges merges (said stores k)
      → (c : Claim) → is_open_by merges c ≡ is_open_claim (said stores k) c
  judged_by k merges noted c = ap (λ b. claims_split c && nat_lt 0 (length c.target) && not b) (noted c.target c.seq)

  -- so what is open by them is open
  pub opened_now : {Y : Type 0} (k : ℕ) (merges : BTreeMap (String Y) ℤ) → HasMerges merges (said stores k)
      → splits_among (is_open_by merges) (standing k stores) stores ≡ splits_at k stores
  opened_now k merges noted = ap (λ p. splits_among p (standing k stores) stores)
      (λ i. λ c. judged_by k merges noted c i)

  -- one round more
  pub turned : {Y : Type 0} (k : ℕ) (standings later : List Standing) (merges new : BTreeMap (String Y) ℤ)
      (old opened all : List OpenSplit) (loans : BTreeSet (List ℕ)) → IsTurn stores k standings merges old
      → HasMerges new (said stores k) → opened ≡ splits_at k stores
      → ((key : List ℕ) → contains (slice_cmp nat_cmp) loans key ≡ list_any (makes_key key) opened)
      → later ≡ map (λ s. one_later (standing k stores s) (is_lent_in loans s)) stores → all ≡ old ++ opened
      → IsTurn stores (suc k) later new all
  turned k standings then merges new old opened all loans was noted is keys stands joined = record {
    stands = stands ∙ later k (is_open_claim (said stores k)) (λ c. refl) loans
        (λ key. keys key ∙ ap (list_any (makes_key key)) is);
    merged = noted;
    listed = more_listed k old all (joined ∙ ap (λ xs. old ++ xs) is) was.listed;
  }

  -- the live stores
  pub live_are : (standings : List Standing) (live : List Bool)
      → standings ≡ map (standing (length stores) stores) stores → live ≡ map is_found standings
      → live ≡ map (is_live_store stores) stores
  live_are standings live stands is = is ∙ ap (map is_found) stands
      ∙ map_map (standing (length stores) stores) is_found stores
      ∙ map_same (λ s. is_found (standing (length stores) stores s)) (is_live_store stores)
      (found_is stores (length stores)) stores
