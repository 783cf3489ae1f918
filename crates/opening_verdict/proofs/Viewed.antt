-- What stores say of themselves is what is right of them: each word of opening at sights is that at views.
use Rattle.std.specs.Prelude.{◌≡◌, ◌⊎◌, ℕ, zero, suc, ◌+◌, ◌<◌, ◌≤◌, Bool, true, false}
use Rattle.std.specs.Prelude.{cond, ◌||◌, ◌&&◌, ◌==◌}
use Rattle.std.specs.Prelude.{nat_le, List, [], ◌∷◌, map, filter, find, length, refl, Option, Some, None}
use Rattle.std.specs.Prelude.{option_map}
use Rattle.std.specs.Prelude.{slice_get, count_by, Contains}
use Rattle.std.proofs.Common.{sym, ap, subst, ◌∙◌, arith, inl, inr}
use Rattle.std.proofs.lemmas.Bool.{true≢false, false≢true}
use Rattle.std.proofs.lemmas.Option.{slice_get-map}
use Rattle.std.specs.List.{list_any, AllZip, AllByRecursion}
use Rattle.std.specs.Option.{option_map_or}
use Rattle.sheet_types.specs.World.{Package}
use Rattle.sheet_types.specs.Opening as model
use Rattle.sheet_types.specs.Opening.{Head, Claim, IsNever, IsLeast, is_open_claim}
use Rattle.sheet_types.specs.declared.frame.Frame.{Frame}
use Rattle.sheet_types.proofs.Basics.{None≢Some, some_once, some_same}
use Rattle.sheet_types.proofs.Same.{In, In-filter, In-map, In-of_map, In-all, All-In, Contains-In}
use Rattle.sheet_types.proofs.Every.{All-taken, All-weaker}
use Rattle.sheet_laws.specs.Laws.{StoreSight}
use Rattle.opening_faults.specs.Passages.{passages}
use Rattle.opening_faults.specs.Sights as sights
use Rattle.opening_faults.specs.Sights.{Any, nothing_read, head_said, head_seen, claims_seen, frame_seen, is_live_store}
use Rattle.opening_faults.specs.Unfit.{IsUnfitIn, IsUnfit}
use Rattle.opening_faults.specs.declared.sights.Sight.{Sight}
use Rattle.opening_faults.specs.declared.sights.StoreHead.{StoreHead}
use Rattle.opening_faults.proofs.Carried as carried
use Rattle.opening_faults.proofs.Carried.{least_same, never_same}
use Rattle.opening_faults.proofs.Members.{contained}
use Rattle.opening_faults.proofs.Passages.{passages_again}
use Rattle.opening_verdict.specs.Checks.{flags_of, HasUnfit}
use Rattle.opening_verdict.specs.Views.{IsSeenAs, AreSeenAs, is_live_view, live_views}
use Rattle.opening_verdict.specs.declared.seen.StoreSeen.{StoreSeen}

-- ---- a store as it was seen, and what is right of it

pub record Pair : Type 0 where
  pub seen : StoreSeen
  pub view : StoreSight
  pub is : IsSeenAs seen view

pub paired : (xs : List StoreSeen) (vs : List StoreSight) → AreSeenAs xs vs → (ps : List Pair)
    × (map (λ p. p.seen) ps ≡ xs) × (map (λ p. p.view) ps ≡ vs)
paired [] [] h = ([], refl, refl)
paired [] (v ∷ vs) h = absurd h
paired (x ∷ xs) [] h = absurd h
paired (x ∷ xs) (v ∷ vs) h =
    let r : (ps : List Pair) × (map (λ p. p.seen) ps ≡ xs) × (map (λ p. p.view) ps ≡ vs) = paired xs vs h.1 in
    (record { seen = x; view = v; is = h.0 } ∷ r.0, ap (λ ys. x ∷ ys) r.1, ap (λ ys. v ∷ ys) r.2)

abbrev head_of_pair : Pair → Option Head
head_of_pair p = p.view.head

abbrev claims_of_pair : Pair → List Claim
claims_of_pair p = p.view.claims

-- what was seen has the passages of what is right
same_passages : (p : Pair) → passages (claims_seen p.seen.sight) ≡ passages p.view.claims
same_passages p = ap passages p.is.claims ∙ passages_again p.view.claims

abbrev frame_of_pair : Pair → Frame
frame_of_pair p = p.view.frame

abbrev FormedPair : Pair → Type 0
FormedPair p = p.view.is_formed ≡ true

abbrev TiedPair : Pair → Type 0
TiedPair p = p.view.is_tied ≡ true

abbrev read_of_pair : Pair → Package
read_of_pair p = p.view.reads_as

-- ---- lists

-- at some place
place_of : {X : Type 0} (x : X) (xs : List X) → In x xs → (k : ℕ) × (slice_get xs k ≡ Some x)
place_of x [] i = absurd i
place_of x (y ∷ ys) i = elim i [
  | inl e ↦ (0, ap Some e)
  | inr j ↦ let r : (k : ℕ) × (slice_get ys k ≡ Some x) =
      place_of x ys j in (suc r.0, r.1)
]

pub at_place : {X : Type 0} (xs : List X) (k : ℕ) (x : X) → slice_get xs k ≡ Some x → In x xs
at_place [] k x h = absurd (None≢Some h)
at_place (y ∷ ys) zero x h = inl (some_same h)
at_place (y ∷ ys) (suc k) x h = inr (at_place ys k x h)

option_from : {X Y : Type 0} (f : X → Y) (o : Option X) (y : Y) → option_map f o ≡ Some y → (x : X)
    × (o ≡ Some x)
    × (f x ≡ y)
option_from f None y h = absurd (None≢Some h)
option_from f (Some x) y h = (x, refl, some_same h)

pub mapped_at : {X Y : Type 0} (f : X → Y) (xs : List X) (k : ℕ) (x : X) → slice_get xs k ≡ Some x
    → slice_get (map f xs) k ≡ Some (f x)
mapped_at f xs k x h = slice_get-map f xs k ∙ ap (option_map f) h

pub mapped_from : {X Y : Type 0} (f : X → Y) (xs : List X) (k : ℕ) (y : Y) → slice_get (map f xs) k ≡ Some y
    → (x : X)
    × (slice_get xs k ≡ Some x) × (f x ≡ y)
mapped_from f xs k y h = option_from f (slice_get xs k) y (sym (slice_get-map f xs k) ∙ h)

-- what is taken is there, and passes
pub taken_from : {X : Type 0} (t : X → Bool) (xs : List X) (x : X) → In x (filter t xs) → In x xs
    × (t x ≡ true)
taken_from t xs x i = All-In (λ y. In y xs × (t y ≡ true)) x (filter t xs)
    (All-taken (λ y. In y xs × (t y ≡ true)) t xs (All-weaker (λ y. In y xs)
    (λ y. t y ≡ true → In y xs × (t y ≡ true)) (λ y j e. (j, e)) xs (In-all xs))) i

-- neither none nor two
one_left : (n : ℕ) → (n ≡ 0 → ⊥) → (2 ≤ n → ⊥) → n ≡ 1
one_left zero none more = absurd (none refl)
one_left (suc zero) none more = refl
one_left (suc (suc n)) none more = absurd (more (omega arith))

-- ---- a live store has a head

none_is : {X : Type 0} (q : X → Bool) (xs : List X) → ((x : X) → q x ≡ false) → list_any q xs ≡ false
none_is q [] f = refl
none_is q (x ∷ xs) f = ap (λ b. b || list_any q xs) (f x) ∙ none_is q xs f

headless_out : (k : ℕ) (views : List StoreSight) (v : StoreSight) → v.head ≡ None
    → model.is_reached StoreSight (λ v. v.head) (λ v. v.claims) (λ v. v.is_formed ≡ true)
    (λ v. v.is_tied ≡ true)
    (λ v. v.frame) (λ v. v.reads_as) k views v ≡ false
headless_out zero views v none = ap (λ o. option_map_or (λ h. h.depth == 0) o false) none
headless_out (suc k) views v none =
    ap (λ b. b || list_any (λ c. model.is_loan_of StoreSight (λ v. v.head) (λ v. v.claims)
    (λ v. v.is_formed ≡ true)
    (λ v. v.is_tied ≡ true) (λ v. v.frame) (λ v. v.reads_as) c v && is_open_claim
    (model.claims_at StoreSight (λ v. v.head) (λ v. v.claims) (λ v. v.is_formed ≡ true) (λ v. v.is_tied ≡ true)
    (λ v. v.frame) (λ v. v.reads_as) k views) c) (model.claims_at StoreSight (λ v. v.head) (λ v. v.claims)
    (λ v. v.is_formed ≡ true) (λ v. v.is_tied ≡ true) (λ v. v.frame) (λ v. v.reads_as) k views))
    (headless_out k views v none)
    ∙ none_is (λ c. model.is_loan_of StoreSight (λ v. v.head) (λ v. v.claims) (λ v. v.is_formed ≡ true)
    (λ v. v.is_tied ≡ true) (λ v. v.frame) (λ v. v.reads_as) c v && is_open_claim
    (model.claims_at StoreSight (λ v. v.head) (λ v. v.claims) (λ v. v.is_formed ≡ true) (λ v. v.is_tied ≡ true)
    (λ v. v.frame) (λ v. v.reads_as) k views) c) (model.claims_at StoreSight (λ v. v.head) (λ v. v.claims)
    (λ v. v.is_formed ≡ true) (λ v. v.is_tied ≡ true) (λ v. v.frame) (λ v. v.reads_as) k views)
    (λ c. ap (λ b. b && is_open_claim (model.claims_at StoreSight (λ v. v.head) (λ v. v.claims)
    (λ v. v.is_formed ≡ true) (λ v. v.is_tied ≡ true) (λ v. v.frame) (λ v. v.reads_as) k views) c) (loanless c))
  where
    loanless : (c : Claim) → model.is_loan_of StoreSight (λ v. v.head) (λ v. v.claims) (λ v. v.is_formed ≡ true)
        (λ v. v.is_tied ≡ true) (λ v. v.frame) (λ v. v.reads_as) c v ≡ false
    loanless c = ap (λ o. model.is_loan_of (Option Head) (λ x. x) (λ x. []) (λ x. Unit {0}) (λ x. Unit {0})
        (λ x. v.frame) (λ x. v.reads_as) c o) none

some_or_none : {X : Type 0} (o : Option X) → ((x : X) × (o ≡ Some x)) ⊎ (o ≡ None)
some_or_none None = inr refl
some_or_none (Some x) = inl (x, refl)

pub live_headed : (views : List StoreSight) (v : StoreSight) → is_live_view views v ≡ true → (h : Head)
    × (v.head ≡ Some h)
live_headed views v live = elim (some_or_none v.head) [
  | inl h ↦ h
  | inr none
      ↦ absurd (true≢false (sym live ∙ headless_out (length views) views v none))
]

-- the head of a sight
pub head_from : (p : Pair) (h : Head) → p.view.head ≡ Some h → (g : StoreHead) × (p.seen.sight.head ≡ Some g)
    × (head_said g ≡ h)
head_from p h e = option_from head_said p.seen.sight.head h (p.is.head ∙ e)

-- ---- the words

module _ (ps : List Pair) where
  abbrev pub sights_of : List Sight
  sights_of = map (λ p. p.seen.sight) ps

  abbrev pub views_of : List StoreSight
  views_of = map (λ p. p.view) ps

  pub no_archive_to : sights.NoArchive sights_of → model.NoArchive StoreSight (λ v. v.head) (λ v. v.claims)
      (λ v. v.is_formed ≡ true) (λ v. v.is_tied ≡ true) (λ v. v.frame) (λ v. v.reads_as) views_of
  no_archive_to h = carried.no_archive_to Pair StoreSight head_of_pair claims_of_pair FormedPair TiedPair
      frame_of_pair read_of_pair (λ v. v.head) (λ v. v.claims) (λ v. v.is_formed ≡ true) (λ v. v.is_tied ≡ true)
      (λ v. v.frame) (λ v. v.reads_as) (λ p. p.view) (λ p. refl) (λ p. refl) (λ p. refl) ps
      (carried.no_archive_fro Pair Sight head_of_pair claims_of_pair FormedPair TiedPair frame_of_pair read_of_pair
      head_seen claims_seen Any Any frame_seen nothing_read (λ p. p.seen.sight) (λ p. p.is.head) same_passages
      (λ p. p.is.frame) ps h)

  no_archive_fro : model.NoArchive StoreSight (λ v. v.head) (λ v. v.claims) (λ v. v.is_formed ≡ true)
      (λ v. v.is_tied ≡ true) (λ v. v.frame) (λ v. v.reads_as) views_of → sights.NoArchive sights_of
  no_archive_fro h = carried.no_archive_to Pair Sight head_of_pair claims_of_pair FormedPair TiedPair frame_of_pair
      read_of_pair head_seen claims_seen Any Any frame_seen nothing_read (λ p. p.seen.sight) (λ p. p.is.head)
      same_passages (λ p. p.is.frame) ps (carried.no_archive_fro Pair StoreSight head_of_pair claims_of_pair
      FormedPair TiedPair frame_of_pair read_of_pair (λ v. v.head) (λ v. v.claims) (λ v. v.is_formed ≡ true)
      (λ v. v.is_tied ≡ true) (λ v. v.frame) (λ v. v.reads_as) (λ p. p.view) (λ p. refl) (λ p. refl)
      (λ p. refl) ps h)

  pub two_archives_to : sights.TwoArchives sights_of → model.TwoArchives StoreSight (λ v. v.head) (λ v. v.claims)
      (λ v. v.is_formed ≡ true) (λ v. v.is_tied ≡ true) (λ v. v.frame) (λ v. v.reads_as) views_of
  two_archives_to h = carried.two_archives_to Pair StoreSight head_of_pair claims_of_pair FormedPair TiedPair
      frame_of_pair read_of_pair (λ v. v.head) (λ v. v.claims) (λ v. v.is_formed ≡ true) (λ v. v.is_tied ≡ true)
      (λ v. v.frame) (λ v. v.reads_as) (λ p. p.view) (λ p. refl) (λ p. refl) (λ p. refl) ps
      (carried.two_archives_fro Pair Sight head_of_pair claims_of_pair FormedPair TiedPair frame_of_pair read_of_pair
      head_seen claims_seen Any Any frame_seen nothing_read (λ p. p.seen.sight) (λ p. p.is.head) same_passages
      (λ p. p.is.frame) ps h)

  two_archives_fro : model.TwoArchives StoreSight (λ v. v.head) (λ v. v.claims) (λ v. v.is_formed ≡ true)
      (λ v. v.is_tied ≡ true) (λ v. v.frame) (λ v. v.reads_as) views_of → sights.TwoArchives sights_of
  two_archives_fro h = carried.two_archives_to Pair Sight head_of_pair claims_of_pair FormedPair TiedPair
      frame_of_pair read_of_pair head_seen claims_seen Any Any frame_seen nothing_read (λ p. p.seen.sight)
      (λ p. p.is.head) same_passages (λ p. p.is.frame) ps
      (carried.two_archives_fro Pair StoreSight head_of_pair claims_of_pair FormedPair TiedPair frame_of_pair
      read_of_pair (λ v. v.head) (λ v. v.claims) (λ v. v.is_formed ≡ true) (λ v. v.is_tied ≡ true)
      (λ v. v.frame)
      (λ v. v.reads_as) (λ p. p.view) (λ p. refl) (λ p. refl) (λ p. refl) ps h)

  pub one_to : sights.IsOne sights_of → model.IsOne StoreSight (λ v. v.head) (λ v. v.claims)
      (λ v. v.is_formed ≡ true)
      (λ v. v.is_tied ≡ true) (λ v. v.frame) (λ v. v.reads_as) views_of
  one_to h = one_left (count_by (model.is_root StoreSight (λ v. v.head) (λ v. v.claims) (λ v. v.is_formed ≡ true)
      (λ v. v.is_tied ≡ true) (λ v. v.frame) (λ v. v.reads_as)) views_of)
      (λ none. omega (arith, h, no_archive_fro none)) (λ more. omega (arith, h, two_archives_fro more))

  pub counted_to : (test : ℕ → Bool) (id : List ℕ) → model.Counted Sight head_seen claims_seen Any Any
      frame_seen
      nothing_read test sights_of id → model.Counted StoreSight (λ v. v.head) (λ v. v.claims)
      (λ v. v.is_formed ≡ true) (λ v. v.is_tied ≡ true) (λ v. v.frame) (λ v. v.reads_as) test views_of id
  counted_to test id h = carried.counted_to Pair StoreSight head_of_pair claims_of_pair FormedPair TiedPair
      frame_of_pair read_of_pair (λ v. v.head) (λ v. v.claims) (λ v. v.is_formed ≡ true) (λ v. v.is_tied ≡ true)
      (λ v. v.frame) (λ v. v.reads_as) (λ p. p.view) (λ p. refl) (λ p. refl) (λ p. refl) ps test id
      (carried.counted_fro Pair Sight head_of_pair claims_of_pair FormedPair TiedPair frame_of_pair read_of_pair
      head_seen claims_seen Any Any frame_seen nothing_read (λ p. p.seen.sight) (λ p. p.is.head) same_passages
      (λ p. p.is.frame) ps test id h)

  pub counted_fro : (test : ℕ → Bool) (id : List ℕ) → model.Counted StoreSight (λ v. v.head) (λ v. v.claims)
      (λ v. v.is_formed ≡ true) (λ v. v.is_tied ≡ true) (λ v. v.frame) (λ v. v.reads_as) test views_of id
      → model.Counted Sight head_seen claims_seen Any Any frame_seen nothing_read test sights_of id
  counted_fro test id h = carried.counted_to Pair Sight head_of_pair claims_of_pair FormedPair TiedPair frame_of_pair
      read_of_pair head_seen claims_seen Any Any frame_seen nothing_read (λ p. p.seen.sight) (λ p. p.is.head)
      same_passages (λ p. p.is.frame) ps test id (carried.counted_fro Pair StoreSight head_of_pair claims_of_pair
      FormedPair TiedPair frame_of_pair read_of_pair (λ v. v.head) (λ v. v.claims) (λ v. v.is_formed ≡ true)
      (λ v. v.is_tied ≡ true) (λ v. v.frame) (λ v. v.reads_as) (λ p. p.view) (λ p. refl) (λ p. refl)
      (λ p. refl) ps
      test id h)

  pub foreign_to : (id : List ℕ) → sights.ForeignFrame sights_of id
      → model.ForeignFrame StoreSight (λ v. v.head) (λ v. v.claims) (λ v. v.is_formed ≡ true)
      (λ v. v.is_tied ≡ true)
      (λ v. v.frame) (λ v. v.reads_as) views_of id
  foreign_to id h = carried.foreign_to Pair StoreSight head_of_pair claims_of_pair FormedPair TiedPair frame_of_pair
      read_of_pair (λ v. v.head) (λ v. v.claims) (λ v. v.is_formed ≡ true) (λ v. v.is_tied ≡ true)
      (λ v. v.frame)
      (λ v. v.reads_as) (λ p. p.view) (λ p. refl) (λ p. refl) (λ p. refl) ps id
      (carried.foreign_fro Pair Sight head_of_pair claims_of_pair FormedPair TiedPair frame_of_pair read_of_pair
      head_seen claims_seen Any Any frame_seen nothing_read (λ p. p.seen.sight) (λ p. p.is.head) same_passages
      (λ p. p.is.frame) ps id h)

  pub foreign_fro : (id : List ℕ) → model.ForeignFrame StoreSight (λ v. v.head) (λ v. v.claims)
      (λ v. v.is_formed ≡ true) (λ v. v.is_tied ≡ true) (λ v. v.frame) (λ v. v.reads_as) views_of id
      → sights.ForeignFrame sights_of id
  foreign_fro id h = carried.foreign_to Pair Sight head_of_pair claims_of_pair FormedPair TiedPair frame_of_pair
      read_of_pair head_seen claims_seen Any Any frame_seen nothing_read (λ p. p.seen.sight) (λ p. p.is.head)
      same_passages (λ p. p.is.frame) ps id (carried.foreign_fro Pair StoreSight head_of_pair claims_of_pair
      FormedPair TiedPair frame_of_pair read_of_pair (λ v. v.head) (λ v. v.claims) (λ v. v.is_formed ≡ true)
      (λ v. v.is_tied ≡ true) (λ v. v.frame) (λ v. v.reads_as) (λ p. p.view) (λ p. refl) (λ p. refl)
      (λ p. refl) ps id
      h)

  -- which are live
  pub live_same : (p : Pair) → is_live_store sights_of p.seen.sight ≡ is_live_view views_of p.view
  live_same p = carried.live_store_seen Pair Sight head_of_pair claims_of_pair FormedPair TiedPair frame_of_pair
      read_of_pair head_seen claims_seen Any Any frame_seen nothing_read (λ p. p.seen.sight) (λ p. p.is.head)
      same_passages (λ p. p.is.frame) ps p ∙ sym (carried.live_store_seen Pair StoreSight head_of_pair
      claims_of_pair FormedPair TiedPair frame_of_pair read_of_pair (λ v. v.head) (λ v. v.claims)
      (λ v. v.is_formed ≡ true) (λ v. v.is_tied ≡ true) (λ v. v.frame) (λ v. v.reads_as) (λ p. p.view)
      (λ p. refl)
      (λ p. refl) (λ p. refl) ps p)

  -- a live store that a test does not pass is one that its flag says is not fit
  module _ (flag : StoreSeen → Bool) (test : StoreSight → Bool)
      (same : (p : Pair) → flag p.seen ≡ test p.view) where
    pub unfit_to : (id : List ℕ) → HasUnfit sights_of (map (λ p. flag p.seen) ps) id → (v : StoreSight)
        × Contains (live_views views_of) v × (model.uuid_of StoreSight (λ v. v.head) (λ v. v.claims)
        (λ v. v.is_formed ≡ true) (λ v. v.is_tied ≡ true) (λ v. v.frame) (λ v. v.reads_as) v ≡ id)
        × (test v ≡ true → ⊥)
    unfit_to id (k, (lives, fails, (s, h, here, headed, named))) =
        let q : (t : Sight) × (slice_get sights_of k ≡ Some t) × (is_live_store sights_of t ≡ true) =
        mapped_from (is_live_store sights_of) sights_of k true lives in
        let p : (p : Pair) × (slice_get ps k ≡ Some p) × (p.seen.sight ≡ q.0) =
        mapped_from (λ p. p.seen.sight) ps k q.0 q.1 in
        let f : (r : Pair) × (slice_get ps k ≡ Some r) × (flag r.seen ≡ false) =
        mapped_from (λ r. flag r.seen) ps k false fails in
        let r_is : f.0 ≡ p.0 = some_once (slice_get ps k) f.0 p.0 f.1 p.1 in
        let live : is_live_view views_of p.0.view ≡ true = sym (live_same p.0) ∙ ap (is_live_store sights_of) p.2
        ∙ q.2 in
        let s_is : p.0.seen.sight ≡ s = p.2 ∙ some_once (slice_get sights_of k) q.0 s q.1 here in
        let head_is : p.0.view.head ≡ Some (head_said h) = sym p.0.is.head ∙ ap head_seen s_is
        ∙ ap (option_map head_said) headed in (
          p.0.view,
          Contains-In p.0.view (live_views views_of) (In-filter (is_live_view views_of) p.0.view views_of
              (In-map (λ p. p.view) p.0 ps (at_place ps k p.0 p.1)) live),
          ap (λ o. option_map_or (λ x. x.uuid) o []) head_is ∙ named,
          λ fits. true≢false (sym fits ∙ sym (same p.0) ∙ ap (λ r. flag r.seen) (sym r_is) ∙ f.2),
        )

    pub unfit_fro : (id : List ℕ) (v : StoreSight) → Contains (live_views views_of) v
        → model.uuid_of StoreSight (λ v. v.head) (λ v. v.claims) (λ v. v.is_formed ≡ true)
        (λ v. v.is_tied ≡ true)
        (λ v. v.frame) (λ v. v.reads_as) v ≡ id → (test v ≡ true → ⊥)
        → HasUnfit sights_of (map (λ p. flag p.seen) ps) id
    unfit_fro id v there named fails =
        let i : In v views_of × (is_live_view views_of v ≡ true) =
        taken_from (is_live_view views_of) views_of v (contained (live_views views_of) v there) in
        let p : (p : Pair) × In p ps × (p.view ≡ v) = In-of_map (λ p. p.view) v ps i.0 in
        let k : (k : ℕ) × (slice_get ps k ≡ Some p.0) = place_of p.0 ps p.1 in
        let live : is_live_store sights_of p.0.seen.sight ≡ true =
        live_same p.0 ∙ ap (is_live_view views_of) p.2 ∙ i.1 in
        let h : (h : Head) × (v.head ≡ Some h) = live_headed views_of v i.1 in
        let g : (g : StoreHead) × (p.0.seen.sight.head ≡ Some g) × (head_said g ≡ h.0) =
        head_from p.0 h.0 (ap (λ x. x.head) p.2 ∙ h.1) in
        let sight_at : slice_get sights_of k.0 ≡ Some p.0.seen.sight =
        mapped_at (λ p. p.seen.sight) ps k.0 p.0 k.1 in
        let down : flag p.0.seen ≡ false = is_false (flag p.0.seen)
        (λ up. fails (ap test (sym p.2) ∙ sym (same p.0) ∙ up)) in (
          k.0,
          (
            mapped_at (is_live_store sights_of) sights_of k.0 p.0.seen.sight sight_at ∙ ap Some live,
            mapped_at (λ p. flag p.seen) ps k.0 p.0 k.1 ∙ ap Some down,
            (
              p.0.seen.sight,
              g.0,
              sight_at,
              g.1,
              ap (λ x. x.uuid) g.2
                  ∙ sym (ap (λ o. option_map_or (λ x. x.uuid) o []) h.1) ∙ named,
            ),
          ),
        )
      where
        is_false : (b : Bool) → (b ≡ true → ⊥) → b ≡ false
        is_false true f = absurd (f refl)
        is_false false f = refl
