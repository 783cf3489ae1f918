-- The least of some UUIDs, and which UUIDs are looked for.
use Rattle.std.specs.Prelude.{◌≡◌, ◌⊎◌, ℕ, ℤ, pos, negsuc, zero, suc, Bool, true, false, cond}
use Rattle.std.specs.Prelude.{◌&&◌, ◌==◌, nat_le}
use Rattle.std.specs.Prelude.{bytes_eq, List, [], ◌∷◌, ◌++◌, Option, Some, None, count_by, Contains}
use Rattle.std.specs.Prelude.{option_map}
use Rattle.std.specs.Prelude.{IfSome, IfNone, refl}
use Rattle.std.proofs.Common.{sym, ap, subst, ◌∙◌, arith, inl, inr}
use Rattle.std.proofs.lemmas.Bool.{true≢false, false_from_ne_true}
use Rattle.std.proofs.lemmas.Bool.Decides.{nat_tests}
use Rattle.std.proofs.lemmas.Slice.Eq.{bytes_eq-Decides}
use Rattle.std.specs.Option.{option_map_or}
use Rattle.std.specs.Ordering.{nat_cmp}
use Rattle.std.specs.Cmp.Lexicographic.{slice_cmp}
use Rattle.std.specs.BTreeMap.{BTreeMap, get}
use Rattle.sheet_types.specs.Lines.{IsUuid}
use Rattle.sheet_types.specs.Ordered.{is_before}
use Rattle.sheet_types.specs.Texts.{uuid_text}
use Rattle.sheet_types.specs.Matrix.{is_within}
use Rattle.sheet_types.specs.Opening as model
use Rattle.sheet_types.specs.Opening.{Claim, IsLeast, IsNever}
use Rattle.sheet_types.proofs.Basics.{before_one_way, before_not_after, before_other_way, before_trans, bytes_eq_swap}
use Rattle.sheet_types.proofs.LineReading.{same_uuid}
use Rattle.sheet_types.proofs.Same.{In, In-append, In-of_append, Contains-In}
use Rattle.sheet_types.proofs.Sums.{count_none}
use Rattle.sheet_types.proofs.Every.{All-each}
use Rattle.opening_faults.specs.Sights.{head_said, Any, nothing_read, head_seen, claims_seen, frame_seen, is_loan_of}
use Rattle.opening_faults.specs.Copies.{told, copies_of}
use Rattle.opening_faults.specs.Least.{IsLeastOf, AreWanted, IsPushed, lesser, is_wanted}
use Rattle.opening_faults.specs.Splits.{AreOpenSplits, IsOpenSplit, split_made, claim_made, has_key, head_key}
use Rattle.opening_faults.specs.declared.copies.Copies.{Copies}
use Rattle.opening_faults.specs.declared.least.Wanted.{Wanted}
use Rattle.opening_faults.specs.declared.least.Wanted.TheVariants.{Missing, Doubled}
use Rattle.opening_faults.specs.declared.splits.OpenSplit.{OpenSplit}
use Rattle.opening_faults.specs.declared.sights.StoreHead.{StoreHead}
use Rattle.opening_faults.specs.declared.sights.Sight.{Sight}
use Rattle.opening_faults.proofs.Members.{contained}
use Rattle.opening_faults.proofs.Turning.{key_of, not_within, and_swap, found_headed}

-- ---- the least

pub itself : (k : List ℕ) → is_before k k ≡ false
itself k = false_from_ne_true (is_before k k) (λ h. before_one_way k k h h)

pub not_before : (other x id : List ℕ) → is_before other x ≡ false → is_before x id ≡ false
    → is_before other id ≡ false
not_before other x id a b = false_from_ne_true (is_before other id) (λ lt.
    elim (bytes_eq x id) as (λ v. bytes_eq x id ≡ v → ⊥) [
      | true ↦ λ e. true≢false (sym (ap (is_before other) ((bytes_eq-Decides x id).0 e) ∙ lt) ∙ a)
      | false ↦ λ e. true≢false (sym (before_trans other id x lt (before_other_way x id b e)) ∙ a)
    ] refl)

pub last_there : {X : Type 0} (xs more : List X) (x : X) → more ≡ xs ++ x ∷ [] → Contains more x
last_there xs more x is = Contains-In x more (subst (In x) (sym is) (In-append x xs (x ∷ []) (inr (inl refl))))

pub still_there : {X : Type 0} (xs more : List X) (x y : X) → more ≡ xs ++ x ∷ [] → Contains xs y
    → Contains more y
still_there xs more x y is h = Contains-In y more (subst (In y) (sym is)
    (In-append y xs (x ∷ []) (inl (contained xs y h))))

pub there_or_last : {X : Type 0} (xs more : List X) (x y : X) → more ≡ xs ++ x ∷ [] → Contains more y
    → Contains xs y
    ⊎ (x ≡ y)
there_or_last xs more x y is h = elim (In-of_append y xs (x ∷ []) (subst (In y) is (contained more y h))) [
  | inl i ↦ inl (Contains-In y xs i)
  | inr j ↦ elim j [ inl e ↦ inr e | inr none ↦ absurd none ]
]

pub least_more : (o : Option (List ℕ)) (xs more : List (List ℕ)) (id : List ℕ) → more ≡ xs ++ id ∷ []
    → IsLeastOf o xs
    → IsLeastOf (Some (lesser o id)) more
least_more None xs more id is none = (
  last_there xs more id is,
  λ other h. elim (there_or_last xs more id other is h) [
    | inl old ↦ absurd (none other old)
    | inr e ↦ subst (λ v. is_before v id ≡ false) e (itself id)
  ],
)
least_more (Some x) xs more id is h =
    elim (is_before x id) as (λ v. is_before x id ≡ v → IsLeastOf (Some (cond v x id)) more) [
      | true ↦ λ lt. (
        still_there xs more id x is h.0,
        λ other o. elim (there_or_last xs more id other is o) [
          | inl old ↦ h.1 other old
          | inr e ↦ subst (λ v. is_before v x ≡ false) e (before_not_after x id lt)
        ],
      )
      | false ↦ λ le. (
        last_there xs more id is,
        λ other o. elim (there_or_last xs more id other is o) [
          | inl old ↦ not_before other x id (h.1 other old) le
          | inr e ↦ subst (λ v. is_before v id ≡ false) e (itself id)
        ],
      )
    ] refl

-- the least of a list is the least of what the list has
pub least_by : (P : List ℕ → Type 0) (ids : List (List ℕ)) → ((id : List ℕ) → Contains ids id → P id)
    → ((id : List ℕ) → P id → Contains ids id) → (id : List ℕ) → IsLeastOf (Some id) ids → IsLeast P id
least_by P ids to fro id h = (to id h.0, λ other p. h.1 other (fro other p))

pub never_by : (P : List ℕ → Type 0) (ids : List (List ℕ)) → ((id : List ℕ) → P id → Contains ids id)
    → IsLeastOf None ids → IsNever P
never_by P ids fro h = λ id p. h id (fro id p)

-- ---- what is put behind the others

pub pushed_none : (wanted : Bool) (text : List ℕ) (ids : List (List ℕ)) → wanted ≡ false
    → IsPushed wanted text ids ids
pushed_none wanted text ids off = record {
  kept = λ id h. h;
  sound = λ id h. inl h;
  whole = λ id fit on is. absurd (true≢false (sym on ∙ off));
}

pub pushed_not : (wanted : Bool) (text : List ℕ) (ids : List (List ℕ))
    → ((id : List ℕ) → IsUuid id → text ≡ uuid_text id → ⊥) → IsPushed wanted text ids ids
pushed_not wanted text ids none = record {
  kept = λ id h. h;
  sound = λ id h. inl h;
  whole = λ id fit on is. absurd (none id fit is);
}

pub pushed_one : (wanted : Bool) (text : List ℕ) (old new : List (List ℕ)) (one : List ℕ)
    → new ≡ old ++ one ∷ []
    → wanted ≡ true → text ≡ uuid_text one → IsUuid one → IsPushed wanted text old new
pushed_one wanted text old new one all on is fit = record {
  kept = λ id h. still_there old new one id all h;
  sound = λ id h. elim (there_or_last old new one id all h) [
    | inl there ↦ inl there
    | inr e ↦ inr (subst IsUuid e fit, on, subst (λ v. text ≡ uuid_text v) e is)
  ];
  whole = λ id u w t. subst (Contains new) (same_uuid one id fit u (sym is ∙ t)) (last_there old new one all);
}

pub none_wanted : (test : OpenSplit → Bool) → AreWanted test [] []
none_wanted test = record {
  sound = λ id h. absurd (contained [] id h);
  whole = λ id split fit h. absurd (contained [] split h);
}

pub wanted_more : (test : OpenSplit → Bool) (xs more : List OpenSplit) (split : OpenSplit) (wanted : Bool)
    (old new : List (List ℕ)) → more ≡ xs ++ split ∷ [] → wanted ≡ test split
    → IsPushed wanted split.target old new
    → AreWanted test xs old → AreWanted test more new
wanted_more test xs more split wanted old new is same pushed was = record {
  sound = λ id h. elim (pushed.sound id h) [
    | inl there ↦ let w = was.sound id there in (w.0, (w.1.0, still_there xs more split w.1.0 is w.1.1, w.1.2, w.1.3))
    | inr now ↦ (now.0, (split, last_there xs more split is, sym same ∙ now.1, now.2))
  ];
  whole = λ id x fit h on t. elim (there_or_last xs more split x is h) [
    | inl old_one ↦ pushed.kept id (was.whole id x fit old_one on t)
    | inr e ↦ pushed.whole id fit (same ∙ ap test e ∙ on) (ap (λ v. v.target) e ∙ t)
  ];
}

-- ---- counts

-- what is told of the key of a split is how many stores are its loan
module _ (sights : List Sight) (counts : BTreeMap (List ℕ) Copies)
    (counted : (key : List ℕ) → get (slice_cmp nat_cmp) counts key ≡ told (count_by (has_key key) sights)) where
  key_is : (n : ℕ) (target : List ℕ) (o : Option StoreHead) → option_map_or
      (λ h. bytes_eq (head_key h) (n ∷ target))
      o false ≡ option_map_or (λ h. bytes_eq (uuid_text h.uuid) target && is_within (pos n) (pos n) (pos h.loan)) o
      false
  key_is n target None = refl
  key_is n target (Some h) = bytes_eq_swap (head_key h) (n ∷ target)
      ∙ key_of (uuid_text h.uuid) target h.loan (pos n)

  loan_is : (c : Claim) (o : Option StoreHead) → option_map_or
      (λ h. bytes_eq (uuid_text h.uuid) c.target && is_within c.seq c.seq (pos h.loan)) (option_map head_said o) false
      ≡ option_map_or (λ h. bytes_eq (uuid_text h.uuid) c.target && is_within c.seq c.seq (pos h.loan)) o false
  loan_is c None = refl
  loan_is c (Some h) = refl

  not_a_loan : (n : ℕ) (target : List ℕ) (o : Option StoreHead)
      → option_map_or (λ h. bytes_eq (uuid_text h.uuid) target && is_within (negsuc n) (negsuc n) (pos h.loan)) o
      false ≡ false
  not_a_loan n target None = refl
  not_a_loan n target (Some h) = ap (λ b. bytes_eq (uuid_text h.uuid) target && b) (not_within n h.loan)
      ∙ and_swap (bytes_eq (uuid_text h.uuid) target) false

  told_by : (above : StoreHead) (target : List ℕ) (seq : ℤ) → copies_of counts
      (record { above = above; target = target; seq = seq })
      ≡ told (count_by (is_loan_of (record { seq = seq; line = []; source = []; target = target })) sights)
  told_by above target (pos n) =
      counted (n ∷ target) ∙ ap (λ p. told (count_by p sights))
      (λ i. λ s. (key_is n target s.head ∙ sym (loan_is (record
      { seq = pos n; line = []; source = []; target = target }) s.head)) i)
  told_by above target (negsuc n) =
      ap told (sym (count_none (is_loan_of (record { seq = negsuc n; line = []; source = []; target = target })) sights
      (All-each (λ s. is_loan_of (record { seq = negsuc n; line = []; source = []; target = target }) s ≡ false)
      (λ s. loan_is (record { seq = negsuc n; line = []; source = []; target = target }) s.head
      ∙ not_a_loan n target s.head) sights)))

  pub copies_told : (split : OpenSplit) → copies_of counts split
      ≡ told (count_by (is_loan_of (claim_made split)) sights)
  copies_told split = told_by split.above split.target split.seq

  pub wanted_told : (w : Wanted) (splits : List OpenSplit) (ids : List (List ℕ))
      → AreWanted (λ split. is_wanted w (copies_of counts split)) splits ids
      → AreWanted (λ split. is_wanted w (told (count_by (is_loan_of (claim_made split)) sights))) splits ids
  wanted_told w splits ids h = subst (λ test. AreWanted test splits ids)
      (λ i. λ split. is_wanted w (copies_told split i)) h

-- ---- the two faults

pub told_doubled : (n : ℕ) → is_wanted Doubled (told n) ≡ nat_le 2 n
told_doubled zero = refl
told_doubled (suc zero) = refl
told_doubled (suc (suc n)) = many n
  where
    many : (k : ℕ) → true ≡ nat_le 2 (suc (suc k))
    many k = grind (arith, nat_tests)

pub told_missing : (n : ℕ) → is_wanted Missing (told n) ≡ (n == 0)
told_missing zero = refl
told_missing (suc zero) = refl
told_missing (suc (suc n)) = many n
  where
    many : (k : ℕ) → false ≡ (suc (suc k) == 0)
    many k = grind (arith, nat_tests)

module _ (sights : List Sight) (splits : List OpenSplit) (all : AreOpenSplits sights splits) (w : Wanted)
    (t : ℕ → Bool) (tells : (n : ℕ) → is_wanted w (told n) ≡ t n)
    (ids : List (List ℕ)) (wanted : AreWanted (λ split. is_wanted w
    (told (count_by (is_loan_of (claim_made split)) sights))) splits ids) where
  abbrev Counts : List ℕ → Type 0
  Counts id = model.Counted Sight head_seen claims_seen Any Any frame_seen nothing_read t sights id

  pub counted_to : (id : List ℕ) → Contains ids id → Counts id
  counted_to id h =
      let found = wanted.sound id h in
      let split = found.1.0 in
      let made : IsOpenSplit sights split = all.sound split found.1.1 in
      let c : Claim = made.1 in
      let is : split ≡ split_made split.above c = made.5 in (
        made.0,
        c,
        made.2,
        made.3,
        found.0,
        ap (λ x. x.target) (sym is) ∙ found.1.3,
        sym (tells (count_by (is_loan_of c) sights)) ∙ ap (λ x. is_wanted w
            (told (count_by (is_loan_of (claim_made x)) sights))) (sym is) ∙ found.1.2,
      )

  pub counted_fro : (id : List ℕ) → Counts id → Contains ids id
  counted_fro id (s, c, there, shown, fit, target, test) =
      let h : (h : StoreHead) × (s.head ≡ Some h) = found_headed sights shown.0 s shown.1.0 in
      wanted.whole id (split_made h.0 c) fit (all.whole s c h.0 there shown h.1)
      (tells (count_by (is_loan_of c) sights) ∙ test) target

-- ---- the least of what is listed, where there is any

pub some_least : (P : List ℕ → Type 0) (o : Option (List ℕ)) (ids : List (List ℕ))
    → ((id : List ℕ) → Contains ids id → P id) → ((id : List ℕ) → P id → Contains ids id)
    → IsLeastOf o ids
    → IfSome o (λ id. IsLeast P id)
some_least P None ids to fro h = tt
some_least P (Some id) ids to fro h = least_by P ids to fro id h

pub none_least : (P : List ℕ → Type 0) (o : Option (List ℕ)) (ids : List (List ℕ))
    → ((id : List ℕ) → P id → Contains ids id) → IsLeastOf o ids → IfNone o (IsNever P)
none_least P None ids fro h = never_by P ids fro h
none_least P (Some id) ids fro h = tt
