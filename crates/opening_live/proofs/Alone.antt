-- The words of opening over stores, and over those of them alone that live: each word is the same.
use Rattle.std.specs.Prelude.{◌≡◌, ℕ, zero, suc, ◌≤◌, Bool, true, false, ◌&&◌, ◌||◌, ◌==◌}
use Rattle.std.specs.Prelude.{nat_le, List, map, filter}
use Rattle.std.specs.Prelude.{find, length, refl, Option, count_by, flat_map, Contains}
use Rattle.std.proofs.Common.{sym, ap, subst, ◌∙◌, arith, inl, inr}
use Rattle.std.proofs.lemmas.Bool.{and_from, cases_lt}
use Rattle.std.specs.List.{list_any, AllByRecursion}
use Rattle.sheet_types.specs.World.{World, Package, package_key}
use Rattle.sheet_types.specs.Balance.{Balanced, altered}
use Rattle.sheet_types.specs.Ordered.{arranged, least}
use Rattle.sheet_types.specs.Opening as model
use Rattle.sheet_types.specs.Opening.{Head, Claim, is_open_claim}
use Rattle.sheet_types.specs.declared.frame.Frame.{Frame}
use Rattle.sheet_types.proofs.Basics.{or-true}
use Rattle.sheet_types.proofs.Every.{All-each, All-weaker}
use Rattle.sheet_types.proofs.Found.{filter_same}
use Rattle.sheet_types.proofs.Same.{In, In-all, All-In, In-filter, In-flat_map, any_in, Contains-In}
use Rattle.sheet_laws.proofs.Rounds as rounds
use Rattle.opening_live.proofs.Taken.{contained, of_filter, taken_again, taken_all, counted_again, found_again}

-- ---- what is found in any round lives

module _ (Store : Type 0) (head : Store → Option Head) (claims : Store → List Claim) (IsFormed : Store → Type 0)
    (IsTied : Store → Type 0) (frame_of : Store → Frame) (read : Store → Package) (stores : List Store) where
  abbrev here : ℕ → Store → Bool
  here k s = model.is_reached Store head claims IsFormed IsTied frame_of read k stores s

  abbrev told : ℕ → List Claim
  told k = model.claims_at Store head claims IsFormed IsTied frame_of read k stores

  abbrev made_by : ℕ → Store → Claim → Bool
  made_by k s c = model.is_loan_of Store head claims IsFormed IsTied frame_of read c s && is_open_claim (told k) c

  abbrev Still : ℕ → Type 0
  Still k = AllByRecursion (λ s. here (suc k) s ≡ here k s) stores

  twice : (a x : Bool) → ((a || x) || x) ≡ (a || x)
  twice true x = refl
  twice false true = refl
  twice false false = refl

  still_on : (k : ℕ) → Still k → Still (suc k)
  still_on k h = All-each (λ s. here (suc (suc k)) s ≡ here (suc k) s) (λ s.
      let same : told (suc k) ≡ told k = ap (flat_map claims) (filter_same (here (suc k)) (here k) stores h) in
      ap (λ cs. here (suc k) s || list_any (λ c. model.is_loan_of Store head claims IsFormed IsTied frame_of read c s
      && is_open_claim cs c) cs) same ∙ twice (here k s) (list_any (made_by k s) (told k))) stores

  still : (k : ℕ) → length stores ≤ k → Still k
  still zero le = subst Still (let e : length stores ≡ zero = omega (arith, le) in e)
      (rounds.all_found Store head claims IsFormed IsTied frame_of read stores)
  still (suc k) le =
      elim (cases_lt k (length stores)) [
        | inl lt ↦ subst Still (let e : length stores ≡ suc k = omega (arith, lt, le) in e)
            (rounds.all_found Store head claims IsFormed IsTied frame_of read stores)
        | inr under ↦ still_on k (still k under)
      ]

  pub found_is_live : (k : ℕ) (s : Store) → In s stores → here k s ≡ true → here (length stores) s ≡ true
  found_is_live zero s i h = rounds.grows Store head claims IsFormed IsTied frame_of read stores zero (length stores)
      s (omega arith) h
  found_is_live (suc k) s i h =
      elim (cases_lt k (length stores)) [
        | inl lt ↦ rounds.grows Store head claims IsFormed IsTied frame_of read stores (suc k) (length stores) s
            (omega (arith, lt)) h
        | inr le ↦ found_is_live k s i (sym (All-In (λ x. here (suc k) x ≡ here k x) s stores (still k le) i)
            ∙ h)
      ]

-- ---- those that live, alone

module _ (Store : Type 0) (head : Store → Option Head) (claims : Store → List Claim) (IsFormed : Store → Type 0)
    (IsTied : Store → Type 0) (frame_of : Store → Frame) (read : Store → Package) (stores : List Store) where
  abbrev pub alone : List Store
  alone = model.live Store head claims IsFormed IsTied frame_of read stores

  abbrev at : ℕ → Store → Bool
  at k s = model.is_reached Store head claims IsFormed IsTied frame_of read k stores s

  abbrev at' : ℕ → Store → Bool
  at' k s = model.is_reached Store head claims IsFormed IsTied frame_of read k alone s

  abbrev said : ℕ → List Claim
  said k = model.claims_at Store head claims IsFormed IsTied frame_of read k stores

  abbrev said' : ℕ → List Claim
  said' k = model.claims_at Store head claims IsFormed IsTied frame_of read k alone

  abbrev lives : Store → Bool
  lives s = model.is_live_store Store head claims IsFormed IsTied frame_of read stores s

  abbrev loan_of : Claim → Store → Bool
  loan_of c s = model.is_loan_of Store head claims IsFormed IsTied frame_of read c s

  abbrev root : Store → Bool
  root s = model.is_root Store head claims IsFormed IsTied frame_of read s

  grows : (j k : ℕ) (s : Store) → j ≤ k → at j s ≡ true → at k s ≡ true
  grows = rounds.grows Store head claims IsFormed IsTied frame_of read stores

  found_lives : (k : ℕ) (s : Store) → In s stores → at k s ≡ true → lives s ≡ true
  found_lives = found_is_live Store head claims IsFormed IsTied frame_of read stores

  -- ---- each round finds the same

  taken : (k : ℕ) → filter (at k) alone ≡ filter (at k) stores
  taken k = taken_again (at k) lives stores (All-weaker (λ s. In s stores) (λ s. at k s ≡ true → lives s ≡ true)
      (λ s i. found_lives k s i) stores (In-all stores))

  said_by : (k : ℕ) → ((s : Store) → at' k s ≡ at k s) → said' k ≡ said k
  said_by k same = ap (flat_map claims) (filter_same (at' k) (at k) alone
      (All-each (λ s. at' k s ≡ at k s) same alone) ∙ taken k)

  pub reached_same : (k : ℕ) (s : Store) → at' k s ≡ at k s
  reached_same zero s = refl
  reached_same (suc k) s =
      ap (λ b. b || list_any (λ c. loan_of c s && is_open_claim (said' k) c) (said' k)) (reached_same k s)
      ∙ ap (λ cs. at k s || list_any (λ c. loan_of c s && is_open_claim cs c) cs) (said_by k (reached_same k))

  pub said_same : (k : ℕ) → said' k ≡ said k
  said_same k = said_by k (reached_same k)

  -- ---- who is there

  pub kept : (s : Store) → Contains stores s → lives s ≡ true → Contains alone s
  kept s i h = Contains-In s alone (In-filter lives s stores (contained stores s i) h)

  pub there : (s : Store) → Contains alone s → Contains stores s
  there s i = Contains-In s stores (of_filter lives s stores (contained alone s i)).0

  live_again : model.live Store head claims IsFormed IsTied frame_of read alone ≡ alone
  live_again = taken_all (model.is_live_store Store head claims IsFormed IsTied frame_of read alone) alone
      (All-weaker (λ s. In s alone) (λ s. at' (length alone) s ≡ true) lives_alone alone (In-all alone))
    where
      lives_alone : (s : Store) → In s alone → at' (length alone) s ≡ true
      lives_alone s i = found_is_live Store head claims IsFormed IsTied frame_of read alone (length stores) s i
          (reached_same (length stores) s ∙ (of_filter lives s stores i).1)

  -- ---- single words

  abbrev Found : ℕ → Store → Type 0
  Found k s = model.IsFoundIn Store head claims IsFormed IsTied frame_of read k stores s

  abbrev Found' : ℕ → Store → Type 0
  Found' k s = model.IsFoundIn Store head claims IsFormed IsTied frame_of read k alone s

  abbrev Open : Store → Claim → Type 0
  Open s c = model.IsOpenSplitOf Store head claims IsFormed IsTied frame_of read stores s c

  abbrev Open' : Store → Claim → Type 0
  Open' s c = model.IsOpenSplitOf Store head claims IsFormed IsTied frame_of read alone s c

  open_to : (s : Store) (c : Claim) → Open' s c → Open s c
  open_to s c h = (
    h.0,
    (sym (reached_same h.0 s) ∙ h.1.0, λ j lt. sym (reached_same j s) ∙ h.1.1 j lt),
    h.2,
    ap
        (λ cs. is_open_claim cs c) (sym (said_same h.0)) ∙ h.3,
  )

  open_fro : (s : Store) (c : Claim) → Open s c → Open' s c
  open_fro s c h = (
    h.0,
    (reached_same h.0 s ∙ h.1.0, λ j lt. reached_same j s ∙ h.1.1 j lt),
    h.2,
    ap
        (λ cs. is_open_claim cs c) (said_same h.0) ∙ h.3,
  )

  -- the store of an open split lives, and so do all its loans
  splits_live : (s : Store) (c : Claim) → Contains stores s → Open s c → lives s ≡ true
  splits_live s c i h = found_lives h.0 s (contained stores s i) h.1.0

  loans_live : (s : Store) (c : Claim) → Contains stores s → Open s c → (loan : Store) → In loan stores
      → loan_of c loan ≡ true → lives loan ≡ true
  loans_live s c i h loan j is =
      let told : In c (said h.0) = In-flat_map claims s c (filter (at h.0) stores)
      (In-filter (at h.0) s stores (contained stores s i) h.1.0) (contained (claims s) c h.2) in
      let made : list_any (λ x. loan_of x loan && is_open_claim (said h.0) x) (said h.0) ≡ true =
      any_in (λ x. loan_of x loan && is_open_claim (said h.0) x) c (said h.0) told
      (and_from (loan_of c loan) (is_open_claim (said h.0) c) is h.3) in
      found_lives (suc h.0) loan j (ap (λ b. at h.0 loan || b) made ∙ or-true (at h.0 loan))

  loans_same : (s : Store) (c : Claim) → Contains stores s → Open s c
      → count_by (loan_of c) alone ≡ count_by (loan_of c) stores
  loans_same s c i h = counted_again (loan_of c) lives stores
      (All-weaker (λ x. In x stores) (λ x. loan_of c x ≡ true → lives x ≡ true)
      (λ x j is. loans_live s c i h x j is)
      stores (In-all stores))

  root_lives : (s : Store) → root s ≡ true → lives s ≡ true
  root_lives s h = grows zero (length stores) s (omega arith) h

  roots_same : count_by root alone ≡ count_by root stores
  roots_same = counted_again root lives stores (All-each (λ s. root s ≡ true → lives s ≡ true) root_lives stores)

  archive_same : find root alone ≡ find root stores
  archive_same = found_again root lives stores (All-each (λ s. root s ≡ true → lives s ≡ true) root_lives stores)

  -- ---- the conditions of the faults, one way and the other

  pub no_archive_to : model.NoArchive Store head claims IsFormed IsTied frame_of read alone
      → model.NoArchive Store head claims IsFormed IsTied frame_of read stores
  no_archive_to h = sym roots_same ∙ h

  pub no_archive_fro : model.NoArchive Store head claims IsFormed IsTied frame_of read stores
      → model.NoArchive Store head claims IsFormed IsTied frame_of read alone
  no_archive_fro h = roots_same ∙ h

  pub two_archives_to : model.TwoArchives Store head claims IsFormed IsTied frame_of read alone
      → model.TwoArchives Store head claims IsFormed IsTied frame_of read stores
  two_archives_to h = subst (λ n. 2 ≤ n) roots_same h

  pub two_archives_fro : model.TwoArchives Store head claims IsFormed IsTied frame_of read stores
      → model.TwoArchives Store head claims IsFormed IsTied frame_of read alone
  two_archives_fro h = subst (λ n. 2 ≤ n) (sym roots_same) h

  pub one_to : model.IsOne Store head claims IsFormed IsTied frame_of read alone
      → model.IsOne Store head claims IsFormed IsTied frame_of read stores
  one_to h = sym roots_same ∙ h

  pub one_fro : model.IsOne Store head claims IsFormed IsTied frame_of read stores
      → model.IsOne Store head claims IsFormed IsTied frame_of read alone
  one_fro h = roots_same ∙ h

  pub unformed_to : (id : List ℕ) → model.NotAPackage Store head claims IsFormed IsTied frame_of read alone id
      → model.NotAPackage Store head claims IsFormed IsTied frame_of read stores id
  unformed_to id h = (h.0, subst (λ ls. Contains ls h.0) live_again h.1, h.2, h.3)

  pub unformed_fro : (id : List ℕ) → model.NotAPackage Store head claims IsFormed IsTied frame_of read stores id
      → model.NotAPackage Store head claims IsFormed IsTied frame_of read alone id
  unformed_fro id h = (h.0, subst (λ ls. Contains ls h.0) (sym live_again) h.1, h.2, h.3)

  pub dangling_to : (id : List ℕ) → model.Dangling Store head claims IsFormed IsTied frame_of read alone id
      → model.Dangling Store head claims IsFormed IsTied frame_of read stores id
  dangling_to id h = (h.0, subst (λ ls. Contains ls h.0) live_again h.1, h.2, h.3)

  pub dangling_fro : (id : List ℕ) → model.Dangling Store head claims IsFormed IsTied frame_of read stores id
      → model.Dangling Store head claims IsFormed IsTied frame_of read alone id
  dangling_fro id h = (h.0, subst (λ ls. Contains ls h.0) (sym live_again) h.1, h.2, h.3)

  pub counted_to : (test : ℕ → Bool) (id : List ℕ) → model.Counted Store head claims IsFormed IsTied frame_of
      read
      test alone id → model.Counted Store head claims IsFormed IsTied frame_of read test stores id
  counted_to test id h =
      let here : Contains stores h.0 = there h.0 h.2 in
      let is_open : Open h.0 h.1 = open_to h.0 h.1 h.3 in
      (h.0, h.1, here, is_open, h.4, h.5, ap test (sym (loans_same h.0 h.1 here is_open)) ∙ h.6)

  pub counted_fro : (test : ℕ → Bool) (id : List ℕ) → model.Counted Store head claims IsFormed IsTied frame_of
      read
      test stores id → model.Counted Store head claims IsFormed IsTied frame_of read test alone id
  counted_fro test id h = (
    h.0,
    h.1,
    kept h.0 h.2 (splits_live h.0 h.1 h.2 h.3),
    open_fro h.0 h.1 h.3,
    h.4,
    h.5,
    ap test
        (loans_same h.0 h.1 h.2 h.3) ∙ h.6,
  )

  pub foreign_to : (id : List ℕ) → model.ForeignFrame Store head claims IsFormed IsTied frame_of read alone id
      → model.ForeignFrame Store head claims IsFormed IsTied frame_of read stores id
  foreign_to id (archive, s, c, loan, is, i, h, j, made, named, apart) =
      (archive, s, c, loan, sym archive_same ∙ is, there s i, open_to s c h, there loan j, made, named, apart)

  pub foreign_fro : (id : List ℕ) → model.ForeignFrame Store head claims IsFormed IsTied frame_of read stores id
      → model.ForeignFrame Store head claims IsFormed IsTied frame_of read alone id
  foreign_fro id (archive, s, c, loan, is, i, h, j, made, named, apart) = (
    archive,
    s,
    c,
    loan,
    archive_same ∙ is,
    kept s i (splits_live s c i h),
    open_fro s c h,
    kept loan j
        (loans_live s c i h loan (contained stores loan j) made),
    made,
    named,
    apart,
  )

  -- what is read is the same
  abbrev World_of : Store → World
  World_of archive = model.world_read Store head claims IsFormed IsTied frame_of read stores archive

  abbrev World_of' : Store → World
  World_of' archive = model.world_read Store head claims IsFormed IsTied frame_of read alone archive

  read_same : (archive : Store) → World_of' archive ≡ World_of archive
  read_same archive = ap (λ ls. record { frame = frame_of archive; packages = arranged package_key (map read ls) })
      live_again

  pub account_to : model.OutOfAccount Store head claims IsFormed IsTied frame_of read alone
      → model.OutOfAccount Store head claims IsFormed IsTied frame_of read stores
  account_to h = (h.0, sym archive_same ∙ h.1, λ b. h.2 (subst Balanced (sym (read_same h.0)) b))

  pub account_fro : model.OutOfAccount Store head claims IsFormed IsTied frame_of read stores
      → model.OutOfAccount Store head claims IsFormed IsTied frame_of read alone
  account_fro h = (h.0, archive_same ∙ h.1, λ b. h.2 (subst Balanced (read_same h.0) b))

  pub altered_to : (id : List ℕ) → model.Altered Store head claims IsFormed IsTied frame_of read alone id
      → model.Altered Store head claims IsFormed IsTied frame_of read stores id
  altered_to id h = (h.0, sym archive_same ∙ h.1, ap (λ w. least (altered w)) (sym (read_same h.0)) ∙ h.2)

  pub altered_fro : (id : List ℕ) → model.Altered Store head claims IsFormed IsTied frame_of read stores id
      → model.Altered Store head claims IsFormed IsTied frame_of read alone id
  altered_fro id h = (h.0, archive_same ∙ h.1, ap (λ w. least (altered w)) (read_same h.0) ∙ h.2)

  -- ---- all together

  pub order_to : model.InOrder Store head claims IsFormed IsTied frame_of read alone
      → model.InOrder Store head claims IsFormed IsTied frame_of read stores
  order_to h = record {
    one_archive = one_to h.one_archive;
    formed = subst (AllByRecursion IsFormed) live_again h.formed;
    no_copies = λ id q. h.no_copies id (counted_fro (nat_le 2) id q);
    none_missing = λ id q. h.none_missing id (counted_fro (λ n. n == 0) id q);
    at_home = λ s c loan archive is i o j made.
        h.at_home s c loan archive (archive_same ∙ is) (kept s i (splits_live s c i o)) (open_fro s c o)
        (kept loan j (loans_live s c i o loan (contained stores loan j) made)) made;
    tied = subst (AllByRecursion IsTied) live_again h.tied;
  }

  pub order_fro : model.InOrder Store head claims IsFormed IsTied frame_of read stores
      → model.InOrder Store head claims IsFormed IsTied frame_of read alone
  order_fro h = record {
    one_archive = one_fro h.one_archive;
    formed = subst (AllByRecursion IsFormed) (sym live_again) h.formed;
    no_copies = λ id q. h.no_copies id (counted_to (nat_le 2) id q);
    none_missing = λ id q. h.none_missing id (counted_to (λ n. n == 0) id q);
    at_home = λ s c loan archive is i o j made.
        h.at_home s c loan archive (sym archive_same ∙ is) (there s i) (open_to s c o) (there loan j) made;
    tied = subst (AllByRecursion IsTied) (sym live_again) h.tied;
  }

  pub stand_to : (w : World) → model.Stands Store head claims IsFormed IsTied frame_of read alone w
      → model.Stands Store head claims IsFormed IsTied frame_of read stores w
  stand_to w h = record {
    in_order = order_to h.in_order;
    read_as = (h.read_as.0, sym archive_same ∙ h.read_as.1, h.read_as.2 ∙ read_same h.read_as.0);
    balanced = h.balanced;
    unaltered = h.unaltered;
  }

  pub stand_fro : (w : World) → model.Stands Store head claims IsFormed IsTied frame_of read stores w
      → model.Stands Store head claims IsFormed IsTied frame_of read alone w
  stand_fro w h = record {
    in_order = order_fro h.in_order;
    read_as = (h.read_as.0, archive_same ∙ h.read_as.1, h.read_as.2 ∙ sym (read_same h.read_as.0));
    balanced = h.balanced;
    unaltered = h.unaltered;
  }

  -- a live store of which something is so
  pub large_to : (IsLarge : Store → Type 0) → (s : Store) × Contains
      (model.live Store head claims IsFormed IsTied frame_of read alone) s × IsLarge s → (s : Store)
      × Contains alone s × IsLarge s
  large_to IsLarge h = (h.0, subst (λ ls. Contains ls h.0) live_again h.1, h.2)

  pub large_fro : (IsLarge : Store → Type 0) → (s : Store) × Contains alone s × IsLarge s → (s : Store)
      × Contains (model.live Store head claims IsFormed IsTied frame_of read alone) s × IsLarge s
  large_fro IsLarge h = (h.0, subst (λ ls. Contains ls h.0) (sym live_again) h.1, h.2)
