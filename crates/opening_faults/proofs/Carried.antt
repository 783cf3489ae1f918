-- The words of opening over stores that are seen as others with the same head, passages and frame: each word of the
-- seen stores is that of the stores.
use Rattle.std.specs.Prelude.{◌≡◌, ◌⊎◌, ℕ, zero, suc, ◌≤◌, Bool, true, false, cond, ◌&&◌}
use Rattle.std.specs.Prelude.{◌||◌, ◌==◌, List, [], ◌∷◌}
use Rattle.std.specs.Prelude.{◌++◌, map, filter, find, length, refl, Option, Some, None, option_map, count_by}
use Rattle.std.specs.Prelude.{flat_map, Contains}
use Rattle.std.proofs.Common.{sym, ap, subst, ◌∙◌, arith, inl, inr}
use Rattle.std.proofs.lemmas.List.{length-map}
use Rattle.std.specs.List.{list_any}
use Rattle.std.specs.Option.{option_map_or}
use Rattle.sheet_types.specs.World.{Package}
use Rattle.sheet_types.specs.Opening as model
use Rattle.sheet_types.specs.Opening.{Head, Claim, is_open_claim, IsBelow, IsNever, IsLeast}
use Rattle.sheet_types.specs.declared.frame.Frame.{Frame}
use Rattle.sheet_types.proofs.Sums.{count-cons}
use Rattle.sheet_types.proofs.Basics.{some_same, None≢Some}
use Rattle.sheet_types.proofs.Same.{In, In-map, In-of_map, Contains-In}
use Rattle.opening_faults.specs.Passages.{passages}
use Rattle.opening_faults.proofs.Members.{contained}
use Rattle.opening_faults.proofs.Passages.{any_same, open_passes, passages_flat, open_alike, any_open_alike, there_alike}

-- ---- lists

-- what passes among what is seen
pub filter_seen : {X Y : Type 0} (see : X → Y) (p : X → Bool) (q : Y → Bool) → ((x : X) → q (see x) ≡ p x)
    → (xs : List X) → filter q (map see xs) ≡ map see (filter p xs)
filter_seen see p q same [] = refl
filter_seen see p q same (x ∷ xs) =
    ap (λ b. cond b (see x ∷ filter q (map see xs)) (filter q (map see xs))) (same x)
    ∙ elim (p x) as (λ v. cond v (see x ∷ filter q (map see xs)) (filter q (map see xs))
    ≡ map see (cond v (x ∷ filter p xs) (filter p xs))) [
      | true ↦ ap (λ ys. see x ∷ ys) (filter_seen see p q same xs)
      | false ↦ filter_seen see p q same xs
    ]

flat_seen : {X Y Z : Type 0} (see : X → Y) (f : X → List Z) (g : Y → List Z) → ((x : X) → g (see x) ≡ f x)
    → (xs : List X) → flat_map g (map see xs) ≡ flat_map f xs
flat_seen see f g same [] = refl
flat_seen see f g same (x ∷ xs) = ap (λ ys. ys ++ flat_map g (map see xs)) (same x)
    ∙ ap (λ ys. f x ++ ys) (flat_seen see f g same xs)

count_seen : {X Y : Type 0} (see : X → Y) (p : X → Bool) (q : Y → Bool) → ((x : X) → q (see x) ≡ p x)
    → (xs : List X)
    → count_by q (map see xs) ≡ count_by p xs
count_seen see p q same [] = refl
count_seen see p q same (x ∷ xs) =
    elim (p x) as (λ v. p x ≡ v → count_by q (see x ∷ map see xs) ≡ count_by p (x ∷ xs)) [
      | true ↦ λ e. let ih : count_by q (map see xs) ≡ count_by p xs = count_seen see p q same xs in
          omega (arith, ih, count-cons p x xs true e, count-cons q (see x) (map see xs) true (same x ∙ e))
      | false ↦ λ e. let ih : count_by q (map see xs) ≡ count_by p xs = count_seen see p q same xs in
          omega (arith, ih, count-cons p x xs false e, count-cons q (see x) (map see xs) false (same x ∙ e))
    ] refl

find_seen : {X Y : Type 0} (see : X → Y) (p : X → Bool) (q : Y → Bool) → ((x : X) → q (see x) ≡ p x)
    → (xs : List X)
    → find q (map see xs) ≡ option_map see (find p xs)
find_seen see p q same [] = refl
find_seen see p q same (x ∷ xs) =
    ap (λ b. cond b (Some (see x)) (find q (map see xs))) (same x)
    ∙ elim (p x) as (λ v. cond v (Some (see x)) (find q (map see xs))
    ≡ option_map see (cond v (Some x) (find p xs))) [
      | true ↦ refl
      | false ↦ find_seen see p q same xs
    ]

-- what is seen and is there comes from one that is there
seen_from : {X Y : Type 0} (see : X → Y) (xs : List X) (y : Y) → Contains (map see xs) y → (x : X)
    × Contains xs x
    × (see x ≡ y)
seen_from see xs y h = let r : (x : _) × In x xs × (see x ≡ y) =
    In-of_map see y xs (contained (map see xs) y h) in (r.0, Contains-In r.0 xs r.1, r.2)

pub seen_there : {X Y : Type 0} (see : X → Y) (xs : List X) (x : X) → Contains xs x
    → Contains (map see xs) (see x)
seen_there see xs x h = Contains-In (see x) (map see xs) (In-map see x xs (contained xs x h))

option_from : {X Y : Type 0} (see : X → Y) (o : Option X) (y : Y) → option_map see o ≡ Some y → (x : X)
    × (o ≡ Some x)
    × (see x ≡ y)
option_from see None y h = absurd (None≢Some h)
option_from see (Some x) y h = (x, refl, some_same h)

-- what has the same examples is least and never at once
pub least_same : (P Q : List ℕ → Type 0) → ((id : List ℕ) → P id → Q id)
    → ((id : List ℕ) → Q id → P id)
    → (id : List ℕ) → IsLeast P id → IsLeast Q id
least_same P Q to fro id h = (to id h.0, λ other q. h.1 other (fro other q))

pub never_same : (P Q : List ℕ → Type 0) → ((id : List ℕ) → Q id → P id) → IsNever P → IsNever Q
never_same P Q fro h = λ id q. h id (fro id q)

-- ---- the words

module _ (Store Seen : Type 0)
    (head : Store → Option Head) (claims : Store → List Claim) (IsFormed : Store → Type 0)
    (IsTied : Store → Type 0)
    (frame_of : Store → Frame) (read : Store → Package)
    (head' : Seen → Option Head) (claims' : Seen → List Claim) (IsFormed' : Seen → Type 0)
    (IsTied' : Seen → Type 0)
    (frame_of' : Seen → Frame) (read' : Seen → Package)
    (see : Store → Seen) (same_head : (s : Store) → head' (see s) ≡ head s)
    (same_passages : (s : Store) → passages (claims' (see s)) ≡ passages (claims s))
    (same_frame : (s : Store) → frame_of' (see s) ≡ frame_of s) where
  pub root_seen : (s : Store) → model.is_root Seen head' claims' IsFormed' IsTied' frame_of' read' (see s)
      ≡ model.is_root Store head claims IsFormed IsTied frame_of read s
  root_seen s = ap (λ h. option_map_or (λ x. x.depth == 0) h false) (same_head s)

  pub loan_seen : (c : Claim) (s : Store) → model.is_loan_of Seen head' claims' IsFormed' IsTied' frame_of' read' c
      (see s) ≡ model.is_loan_of Store head claims IsFormed IsTied frame_of read c s
  loan_seen c s = ap (λ h. model.is_loan_of (Option Head) (λ x. x) (λ x. []) (λ x. Unit {0}) (λ x. Unit {0})
      (λ x. frame_of s) (λ x. read s) c h) (same_head s)

  module _ (stores : List Store) where
    abbrev at : ℕ → Store → Bool
    at k s = model.is_reached Store head claims IsFormed IsTied frame_of read k stores s

    abbrev at' : ℕ → Seen → Bool
    at' k s = model.is_reached Seen head' claims' IsFormed' IsTied' frame_of' read' k (map see stores) s

    abbrev said : ℕ → List Claim
    said k = model.claims_at Store head claims IsFormed IsTied frame_of read k stores

    abbrev said' : ℕ → List Claim
    said' k = model.claims_at Seen head' claims' IsFormed' IsTied' frame_of' read' k (map see stores)

    said_by : (k : ℕ) → ((s : Store) → at' k (see s) ≡ at k s) → passages (said' k) ≡ passages (said k)
    said_by k h = passages_flat claims' (filter (at' k) (map see stores))
        ∙ ap (flat_map (λ s. passages (claims' s))) (filter_seen see (at k) (at' k) h stores)
        ∙ flat_seen see (λ s. passages (claims s)) (λ s. passages (claims' s)) same_passages (filter (at k) stores)
        ∙ sym (passages_flat claims (filter (at k) stores))

    pub reached_seen : (k : ℕ) (s : Store) → at' k (see s) ≡ at k s
    reached_seen zero s = root_seen s
    reached_seen (suc k) s =
        ap (λ b. b || list_any (λ c. model.is_loan_of Seen head' claims' IsFormed' IsTied' frame_of' read' c (see s)
        && is_open_claim (said' k) c) (said' k)) (reached_seen k s)
        ∙ ap (λ b. at k s || b) (any_open_alike (said' k) (said k) (said_by k (reached_seen k))
        (λ c. model.is_loan_of Seen head' claims' IsFormed' IsTied' frame_of' read' c (see s)))
        ∙ ap (λ b. at k s || b) (any_same
        (λ c. model.is_loan_of Store head claims IsFormed IsTied frame_of read c s && is_open_claim (said k) c)
        (λ c. model.is_loan_of Seen head' claims' IsFormed' IsTied' frame_of' read' c (see s) && is_open_claim
        (said k) c)
        (λ c. ap (λ b. b && is_open_claim (said k) c) (loan_seen c s)) (said k))

    passages_seen : (k : ℕ) → passages (said' k) ≡ passages (said k)
    passages_seen k = said_by k (reached_seen k)

    pub live_store_seen : (s : Store) → model.is_live_store Seen head' claims' IsFormed' IsTied' frame_of' read'
        (map see stores) (see s) ≡ model.is_live_store Store head claims IsFormed IsTied frame_of read stores s
    live_store_seen s = ap (λ n. at' n (see s)) (length-map stores see) ∙ reached_seen (length stores) s

    pub live_seen : model.live Seen head' claims' IsFormed' IsTied' frame_of' read' (map see stores)
        ≡ map see (model.live Store head claims IsFormed IsTied frame_of read stores)
    live_seen = filter_seen see (model.is_live_store Store head claims IsFormed IsTied frame_of read stores)
        (model.is_live_store Seen head' claims' IsFormed' IsTied' frame_of' read' (map see stores)) live_store_seen
        stores

    found_to : (k : ℕ) (s : Store) → model.IsFoundIn Store head claims IsFormed IsTied frame_of read k stores s
        → model.IsFoundIn Seen head' claims' IsFormed' IsTied' frame_of' read' k (map see stores) (see s)
    found_to k s h = (reached_seen k s ∙ h.0, λ j lt. reached_seen j s ∙ h.1 j lt)

    found_fro : (k : ℕ) (s : Store) → model.IsFoundIn Seen head' claims' IsFormed' IsTied' frame_of' read' k
        (map see stores) (see s) → model.IsFoundIn Store head claims IsFormed IsTied frame_of read k stores s
    found_fro k s h = (sym (reached_seen k s) ∙ h.0, λ j lt. sym (reached_seen j s) ∙ h.1 j lt)

    pub open_to : (s : Store) (c : Claim) → model.IsOpenSplitOf Store head claims IsFormed IsTied frame_of read stores
        s c → model.IsOpenSplitOf Seen head' claims' IsFormed' IsTied' frame_of' read' (map see stores) (see s) c
    open_to s c h = (
      h.0,
      found_to h.0 s h.1,
      there_alike (claims s) (claims' (see s)) (sym (same_passages s)) c (open_passes (said h.0) c h.3) h.2,
      open_alike (said' h.0) (said h.0) (passages_seen h.0) c ∙ h.3,
    )

    pub open_fro : (s : Store) (c : Claim) → model.IsOpenSplitOf Seen head' claims' IsFormed' IsTied' frame_of' read'
        (map see stores) (see s) c → model.IsOpenSplitOf Store head claims IsFormed IsTied frame_of read stores s c
    open_fro s c h = (
      h.0,
      found_fro h.0 s h.1,
      there_alike (claims' (see s)) (claims s) (same_passages s) c (open_passes (said' h.0) c h.3) h.2,
      open_alike (said h.0) (said' h.0) (sym (passages_seen h.0)) c ∙ h.3,
    )

    roots_same : count_by (model.is_root Seen head' claims' IsFormed' IsTied' frame_of' read') (map see stores)
        ≡ count_by (model.is_root Store head claims IsFormed IsTied frame_of read) stores
    roots_same = count_seen see (model.is_root Store head claims IsFormed IsTied frame_of read)
        (model.is_root Seen head' claims' IsFormed' IsTied' frame_of' read') root_seen stores

    pub no_archive_to : model.NoArchive Store head claims IsFormed IsTied frame_of read stores
        → model.NoArchive Seen head' claims' IsFormed' IsTied' frame_of' read' (map see stores)
    no_archive_to h = roots_same ∙ h

    pub no_archive_fro : model.NoArchive Seen head' claims' IsFormed' IsTied' frame_of' read' (map see stores)
        → model.NoArchive Store head claims IsFormed IsTied frame_of read stores
    no_archive_fro h = sym roots_same ∙ h

    pub two_archives_to : model.TwoArchives Store head claims IsFormed IsTied frame_of read stores
        → model.TwoArchives Seen head' claims' IsFormed' IsTied' frame_of' read' (map see stores)
    two_archives_to h = subst (λ n. 2 ≤ n) (sym roots_same) h

    pub two_archives_fro : model.TwoArchives Seen head' claims' IsFormed' IsTied' frame_of' read' (map see stores)
        → model.TwoArchives Store head claims IsFormed IsTied frame_of read stores
    two_archives_fro h = subst (λ n. 2 ≤ n) roots_same h

    pub archive_seen : find (model.is_root Seen head' claims' IsFormed' IsTied' frame_of' read') (map see stores)
        ≡ option_map see (find (model.is_root Store head claims IsFormed IsTied frame_of read) stores)
    archive_seen = find_seen see (model.is_root Store head claims IsFormed IsTied frame_of read)
        (model.is_root Seen head' claims' IsFormed' IsTied' frame_of' read') root_seen stores

    loans_same : (c : Claim) → count_by (model.is_loan_of Seen head' claims' IsFormed' IsTied' frame_of' read' c)
        (map see stores) ≡ count_by (model.is_loan_of Store head claims IsFormed IsTied frame_of read c) stores
    loans_same c = count_seen see (model.is_loan_of Store head claims IsFormed IsTied frame_of read c)
        (model.is_loan_of Seen head' claims' IsFormed' IsTied' frame_of' read' c) (loan_seen c) stores

    pub counted_to : (test : ℕ → Bool) (id : List ℕ) → model.Counted Store head claims IsFormed IsTied
        frame_of read
        test stores id → model.Counted Seen head' claims' IsFormed' IsTied' frame_of' read' test (map see stores) id
    counted_to test id h = (
      see h.0,
      h.1,
      seen_there see stores h.0 h.2,
      open_to h.0 h.1 h.3,
      h.4,
      h.5,
      ap test
          (loans_same h.1) ∙ h.6,
    )

    pub counted_fro : (test : ℕ → Bool) (id : List ℕ) → model.Counted Seen head' claims' IsFormed' IsTied'
        frame_of'
        read' test (map see stores) id → model.Counted Store head claims IsFormed IsTied frame_of read test stores id
    counted_fro test id h =
        let from : (s : Store) × Contains stores s × (see s ≡ h.0) = seen_from see stores h.0 h.2 in (
          from.0,
          h.1,
          from.1,
          open_fro from.0 h.1 (subst (λ s. model.IsOpenSplitOf Seen head' claims' IsFormed'
              IsTied' frame_of' read' (map see stores) s h.1) (sym from.2) h.3),
          h.4,
          h.5,
          ap test
              (sym (loans_same h.1)) ∙ h.6,
        )

    pub foreign_to : (id : List ℕ) → model.ForeignFrame Store head claims IsFormed IsTied frame_of read stores id
        → model.ForeignFrame Seen head' claims' IsFormed' IsTied' frame_of' read' (map see stores) id
    foreign_to id (root, s, c, loan, is, there, «open», here, made, named, apart) = (
      see root,
      see s,
      c,
      see loan,
      archive_seen ∙ ap (option_map see) is,
      seen_there see stores s there,
      open_to s c «open»,
      seen_there see stores loan here,
      loan_seen c loan ∙ made,
      ap (λ h. option_map_or (λ x. x.uuid) h []) (same_head loan) ∙ named,
      elim apart [
        | inl frames ↦ inl (λ e. frames (sym (same_frame loan) ∙ e ∙ same_frame root))
        | inr below ↦ inr (λ b. below (subst (λ h. IsBelow h (head loan)) (same_head s)
            (subst (λ h. IsBelow (head' (see s)) h) (same_head loan) b)))
      ],
    )

    foreign_of : (root s loan : Store) (c : Claim) (id : List ℕ)
        → find (model.is_root Store head claims IsFormed IsTied frame_of read) stores ≡ Some root
        → Contains stores s
        → model.IsOpenSplitOf Seen head' claims' IsFormed' IsTied' frame_of' read' (map see stores) (see s) c
        → Contains stores loan → model.is_loan_of Seen head' claims' IsFormed' IsTied' frame_of' read' c
        (see loan) ≡ true
        → model.uuid_of Seen head' claims' IsFormed' IsTied' frame_of' read' (see loan) ≡ id
        → ((frame_of' (see loan) ≡ frame_of' (see root) → ⊥)
        ⊎ (IsBelow (head' (see s)) (head' (see loan)) → ⊥))
        → model.ForeignFrame Store head claims IsFormed IsTied frame_of read stores id
    foreign_of root s loan c id is there o here made named apart = (
      root,
      s,
      c,
      loan,
      is,
      there,
      open_fro s c o,
      here,
      sym (loan_seen c loan) ∙ made,
      sym (ap (λ h. option_map_or (λ x. x.uuid) h []) (same_head loan)) ∙ named,
      elim apart [
        | inl frames ↦ inl (λ e. frames (same_frame loan ∙ e ∙ sym (same_frame root)))
        | inr below ↦ inr (λ b. below (subst (λ h. IsBelow h (head' (see loan))) (sym (same_head s))
            (subst (λ h. IsBelow (head s) h) (sym (same_head loan)) b)))
      ],
    )

    pub foreign_fro : (id : List ℕ) → model.ForeignFrame Seen head' claims' IsFormed' IsTied' frame_of' read'
        (map see stores) id → model.ForeignFrame Store head claims IsFormed IsTied frame_of read stores id
    foreign_fro id (root, s, c, loan, is, there, o, here, made, named, apart) =
        let root_from : (r : Store) × (find (model.is_root Store head claims IsFormed IsTied frame_of read) stores
        ≡ Some r) × (see r ≡ root) = option_from see
        (find (model.is_root Store head claims IsFormed IsTied frame_of read) stores) root
        (sym archive_seen ∙ is) in
        let s_from : (r : Store) × Contains stores r × (see r ≡ s) = seen_from see stores s there in
        let loan_from : (r : Store) × Contains stores r × (see r ≡ loan) = seen_from see stores loan here in
        foreign_of root_from.0 s_from.0 loan_from.0 c id root_from.1 s_from.1
        (subst (λ x. model.IsOpenSplitOf Seen head' claims' IsFormed' IsTied' frame_of' read' (map see stores) x c)
        (sym s_from.2) o) loan_from.1
        (ap (λ x. model.is_loan_of Seen head' claims' IsFormed' IsTied' frame_of' read' c x) loan_from.2 ∙ made)
        (ap (λ x. model.uuid_of Seen head' claims' IsFormed' IsTied' frame_of' read' x) loan_from.2 ∙ named)
        (subst (λ x. (frame_of' (see loan_from.0) ≡ frame_of' x → ⊥)
        ⊎ (IsBelow (head' (see s_from.0)) (head' (see loan_from.0)) → ⊥)) (sym root_from.2)
        (subst (λ x. (frame_of' (see loan_from.0) ≡ frame_of' root → ⊥)
        ⊎ (IsBelow (head' x) (head' (see loan_from.0)) → ⊥)) (sym s_from.2)
        (subst (λ x. (frame_of' x ≡ frame_of' root → ⊥) ⊎ (IsBelow (head' s) (head' x) → ⊥))
        (sym loan_from.2) apart)))
