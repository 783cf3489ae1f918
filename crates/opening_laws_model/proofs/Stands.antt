-- Views of a register's stores stand for it.
use Rattle.std.specs.Prelude.{◌≡◌, ℕ, ◌+◌, ◌≤◌, Bool, true, false, cond, ◌&&◌, ◌==◌, nat_le}
use Rattle.std.specs.Prelude.{List, [], ◌∷◌, map}
use Rattle.std.specs.Prelude.{filter, find, length, refl, Option, Some, None, is_none, MatchOption, pos, bytes_eq}
use Rattle.std.specs.Prelude.{count_by, Contains}
use Rattle.std.proofs.Common.{sym, ap, subst, ◌∙◌, arith, inl, inr}
use Rattle.std.proofs.lemmas.Bool.{true≢false, and_parts, true_from_ne_false}
use Rattle.std.proofs.lemmas.Bool.Decides.{nat_tests}
use Rattle.std.proofs.lemmas.List.Elements.{All-contains, All-from_recursion}
use Rattle.std.proofs.lemmas.Slice.Eq.{bytes_eq-Decides}
use Rattle.std.proofs.lemmas.List.Sums.{sum_by-append}
use Rattle.std.proofs.lemmas.List.Sorted.{sum_by-IsPermutation}
use Rattle.std.specs.List.{list_any, AllByRecursion, AllZip}
use Rattle.std.specs.Option.{option_map_or}
use Rattle.sheet_types.specs.Matrix.{is_within}
use Rattle.sheet_types.specs.Ordered.{arranged}
use Rattle.sheet_types.specs.Texts.{uuid_text}
use Rattle.sheet_types.specs.Lines.{is_uuid}
use Rattle.sheet_types.specs.World.{World, Package, package_key, receipts_of, holdings}
use Rattle.sheet_types.specs.Custody.{is_open_among}
use Rattle.sheet_types.specs.Refuse.{is_archive}
use Rattle.sheet_types.specs.Register.{IsRegister, HasParent}
use Rattle.sheet_types.specs.Opening as model
use Rattle.sheet_types.specs.Opening.{Head, Claim, head_of, claim_of, is_open_claim, IsBelow}
use Rattle.sheet_types.specs.declared.receipt.Receipt.{Receipt}
use Rattle.sheet_types.proofs.Basics.{bytes_eq_itself}
use Rattle.sheet_types.proofs.Every.{All-weaker}
use Rattle.sheet_types.proofs.Found.{found, All-found}
use Rattle.sheet_types.proofs.Order.{All-arranged, All-of_arranged, arranged_counts, counts_arranged, with_key}
use Rattle.sheet_types.proofs.Same.{In, In-all, All-In, In-filter, In-map, In-of_map, any_in, same_list}
use Rattle.sheet_types.proofs.Sums.{count-cons, count_none, sum_by-map, sum_by-filter, any_none, any_some, sum_by-same}
use Rattle.sheet_types.proofs.LineReading.{same_uuid}
use Rattle.sheet_laws.specs.Laws.{StoreSight, StoresStandFor, HasNoFault}
use Rattle.sheet_laws.proofs.Faults.{no_fault}
use Rattle.opening_laws_model.specs.Beside.{is_root, is_loan_of, is_live as is_live_view, IsViewOfPackage}
use Rattle.opening_laws_model.specs.Beside.{IsStrayView, AreViewsOfWorld}
use Rattle.opening_laws_model.proofs.Loans.{In-of_filter, in_ledger, same_package, kept, Lends, lends}
use Rattle.opening_laws_model.proofs.Seen.{Seen, role, view_of, seen_member, from_members, from_others, count_views}
use Rattle.opening_laws_model.proofs.Found.{said, claimed, open_here, stray_not_found, found_seen, member_found}
use Rattle.opening_laws_model.proofs.Found.{loan_by, is_its_loan}

-- what is contained is an element
contained : {X : Type 0} (x : X) (xs : List X) → Contains xs x → In x xs
contained x xs h = All-contains (λ z. In z xs) xs x (All-from_recursion (λ z. In z xs) xs (In-all xs)) h

-- an element that an arranged list has, the list has
In-arranged : {X : Type 0} (key : X → List ℕ) (x : X) (xs : List X) → In x (arranged key xs) → In x xs
In-arranged key x xs i = All-In (λ z. In z xs) x (arranged key xs) (All-arranged key (λ z. In z xs) xs (In-all xs)) i

In-to_arranged : {X : Type 0} (key : X → List ℕ) (x : X) (xs : List X) → In x xs → In x (arranged key xs)
In-to_arranged key x xs i = All-In (λ z. In z (arranged key xs)) x xs
    (All-of_arranged key (λ z. In z (arranged key xs)) xs (In-all (arranged key xs))) i

module _ (w : World) (register : IsRegister w) (views : List StoreSight) (of : AreViewsOfWorld views w) where
  abbrev ledger : List Receipt
  ledger = receipts_of w

  -- found in the end
  abbrev lives : StoreSight → Bool
  lives v = is_live_view views v

  abbrev live_views : List StoreSight
  live_views = filter lives views

  pub members_live : AllByRecursion (λ v. lives v ≡ true) of.members
  members_live = All-weaker (λ v. In v of.members) (λ v. lives v ≡ true) (λ v i.
      let s : Seen w views of v = seen_member w views of v i in
      member_found w register views of s.package v s.live (from_members w views of v i) s.is) of.members
      (In-all of.members)

  pub others_apart : AllByRecursion (λ v. lives v ≡ false) of.others
  others_apart = All-weaker (λ v. In v of.others) (λ v. lives v ≡ false) (λ v i.
      stray_not_found w register views of (length views) v (from_others w views of v i)
      (All-In (IsStrayView w) v of.others of.beside i)) of.others (In-all of.others)

  -- a live view is that of a package
  live_seen : (v : StoreSight) → In v live_views → In v views × Seen w views of v
  live_seen v i = let l = In-of_filter lives v views i in (l.0, found_seen w register views of (length views) v l.0 l.1)

  -- ---- the archive

  root_archive : (v : StoreSight) (p : Package) → In p w.packages → IsViewOfPackage w v p
      → is_root v ≡ is_archive p
  root_archive v p i is = ap (λ o. option_map_or (λ h. h.depth == 0) o false) is.head
      ∙ level p (kept w register p i).parent
    where
      by_parent : (o : Option (List ℕ)) (depth loan : ℕ) (P : List ℕ → Type 0)
          → MatchOption o ((depth ≡ 0) × (loan ≡ 0)) P → ((u : List ℕ) → P u → (depth == 0) ≡ false)
          → (depth == 0) ≡ is_none o
      by_parent None depth loan P h f = ap (λ n. n == 0) h.0
      by_parent (Some u) depth loan P h f = f u h

      above : (n : ℕ) → (n + 1 == 0) ≡ false
      above n = grind (arith, nat_tests)

      level : (q : Package) → HasParent w q → (q.depth == 0) ≡ is_archive q
      level q h = by_parent q.parent q.depth q.loan _ h (λ u has. ap (λ n. n == 0) has.1
          ∙ above (holdings w u).depth)

  none_rooted : AllByRecursion (λ v. is_root v ≡ false) of.others
  none_rooted = All-weaker (IsStrayView w) (λ v. is_root v ≡ false) (λ v s. s.no_root) of.others of.beside

  one_archive : count_by is_root views ≡ 1
  one_archive = omega (
    arith,
    sum_by-IsPermutation (λ v. cond (is_root v) 1 0) views _ of.all,
    sum_by-append (λ v. cond (is_root v) 1 0) of.members of.others,
    count_none is_root of.others none_rooted,
    same of.members w.packages of.each (In-all w.packages),
    register.archive,
  )
    where
      same : (vs : List StoreSight) (ps : List Package) → AllZip (IsViewOfPackage w) vs ps
          → AllByRecursion (λ p. In p w.packages) ps → count_by is_root vs ≡ count_by is_archive ps
      same [] [] h i = refl
      same [] (p ∷ ps) h i = absurd h
      same (v ∷ vs) [] h i = absurd h
      same (v ∷ vs) (p ∷ ps) h i = omega (
        arith,
        count-cons is_root v vs (is_archive p) (root_archive v p i.0 h.0),
        count-cons is_archive p ps (is_archive p) refl,
        same vs ps h.1 i.1,
      )

  -- ---- what an open split lent

  -- an open split of a found view is one of a package, and lent a package of the world
  record Open (s : StoreSight) (c : Claim) : Type 0 where
    seen : Seen w views of s
    receipt : Receipt
    stands : In receipt seen.package.receipts
    says : claim_of receipt ≡ c
    is_open : is_open_among ledger receipt ≡ true
    lent : Lends w register seen.package receipt

  abbrev IsOpenSplitOf : StoreSight → Claim → Type 0
  IsOpenSplitOf s c = model.IsOpenSplitOf StoreSight (λ v. v.head) (λ v. v.claims) (λ v. v.is_formed ≡ true)
      (λ v. v.is_tied ≡ true) (λ v. v.frame) (λ v. v.reads_as) views s c

  open_of : (s : StoreSight) (c : Claim) → In s views → IsOpenSplitOf s c → Open s c
  open_of s c i o =
      let seen : Seen w views of s = found_seen w register views of o.0 s i o.1.0 in
      let r : (r : Receipt) × In r seen.package.receipts × (claim_of r ≡ c) =
      claimed w register views of s seen c (contained c s.claims o.2) in
      let is_open : is_open_among ledger r.0 ≡ true = open_here w register views of o.0 s seen.package r.0 i o.1.0
      seen.live seen.is r.1 (subst (λ x. is_open_claim (said w register views of o.0) x ≡ true) (sym r.2)
      o.3) in
      record {
        seen = seen;
        receipt = r.0;
        stands = r.1;
        says = r.2;
        is_open = is_open;
        lent = lends w register seen.package r.0 seen.live r.1 is_open;
      }

  target_of : (s : StoreSight) (c : Claim) (o : Open s c) → c.target ≡ uuid_text o.lent.loan.uuid
  target_of s c o = ap (λ x. x.target) (sym o.says) ∙ ap (λ x. option_map_or uuid_text x []) o.lent.target

  uuid_at : (p : Package) → In p w.packages → is_uuid p.uuid ≡ true
  uuid_at p i = (kept w register p i).uuid

  -- the loan of an open split is the view of the package that it lent
  loan_is : (s v : StoreSight) (c : Claim) (o : Open s c) (p : Package) → In p w.packages → IsViewOfPackage w v p
      → is_loan_of c v ≡ true → p ≡ o.lent.loan
  loan_is s v c o p i is h =
      let both : (bytes_eq (uuid_text p.uuid) c.target ≡ true) × (is_within c.seq c.seq (pos p.loan) ≡ true) =
      and_parts (bytes_eq (uuid_text p.uuid) c.target) (is_within c.seq c.seq (pos p.loan))
      (sym (loan_by w v p c is) ∙ h) in
      let text : uuid_text p.uuid ≡ uuid_text o.lent.loan.uuid =
      (bytes_eq-Decides (uuid_text p.uuid) c.target).0 both.0 ∙ target_of s c o in
      same_package w register p o.lent.loan i o.lent.live (same_uuid p.uuid o.lent.loan.uuid (uuid_at p i)
      (uuid_at o.lent.loan o.lent.live) text)

  -- no stray is
  no_stray : (s : StoreSight) (c : Claim) (o : Open s c) (v : StoreSight) → IsStrayView w v
      → is_loan_of c v ≡ false
  no_stray s c o v stray = ap (λ x. is_loan_of x v) (sym o.says)
      ∙ All-In (λ r. is_open_among ledger r ≡ true → is_loan_of (claim_of r) v ≡ false) o.receipt ledger
      stray.unnamed
      (in_ledger w register o.seen.package o.receipt o.seen.live o.stands) o.is_open

  once : (s : StoreSight) (c : Claim) → Open s c → count_by (is_loan_of c) views ≤ 1
  once s c o =
      let no : AllByRecursion (λ v. is_loan_of c v ≡ false) of.others =
      All-weaker (IsStrayView w) (λ v. is_loan_of c v ≡ false) (no_stray s c o) of.others of.beside in
      let k : List ℕ = o.lent.loan.uuid in
      let less : count_by (is_loan_of c) views ≤ count_by (with_key package_key k) w.packages =
      count_views w views of (is_loan_of c) (with_key package_key k) no
      (λ v p i is h. subst (λ x. bytes_eq x.uuid k ≡ true) (sym (loan_is s v c o p i is h)) (bytes_eq_itself k)) in
      omega (arith, less, counts_arranged package_key k w.packages register.arranged)

  there : (s : StoreSight) (c : Claim) → Open s c → 1 ≤ count_by (is_loan_of c) views
  there s c o =
      let v : (v : StoreSight) × In v views × IsViewOfPackage w v o.lent.loan =
      view_of w views of o.lent.loan o.lent.live in
      any_some (is_loan_of c) views (any_in (is_loan_of c) v.0 views v.1
      (ap (λ x. is_loan_of x v.0) (sym o.says) ∙ is_its_loan w v.0 o.lent.loan o.receipt v.2 o.lent.target
      o.lent.number))

  -- ---- none of the first seven faults

  -- all have the frame of the world
  root_frame : (root : StoreSight) → find is_root views ≡ Some root → root.frame ≡ w.frame
  root_frame root is =
      let it : In root views × (is_root root ≡ true) = All-found (λ v. In v views) is_root root views is
      (In-all views) in
      (found_seen w register views of 0 root it.0 it.1).is.frame

  at_home : (s : StoreSight) (c : Claim) (loan : StoreSight)
      → model.IsAtHome StoreSight (λ v. v.head) (λ v. v.claims) (λ v. v.is_formed ≡ true)
      (λ v. v.is_tied ≡ true)
      (λ v. v.frame) (λ v. v.reads_as) views s c loan
  at_home s c loan root is there opens there' makes =
      let o : Open s c = open_of s c (contained s views there) opens in
      elim (role w views of loan (contained loan views there')) [
        | inr stray ↦ absurd (true≢false (sym makes ∙ no_stray s c o loan stray))
        | inl seen ↦
            let same : seen.package ≡ o.lent.loan = loan_is s loan c o seen.package seen.live seen.is makes in
            let below : IsBelow (Some (head_of o.seen.package)) (Some (head_of seen.package)) =
            subst (λ p. IsBelow (Some (head_of o.seen.package)) (Some (head_of p))) (sym same)
            (o.lent.above, o.lent.depth) in (
              seen.is.frame ∙ sym (root_frame root is),
              subst (λ h. IsBelow h loan.head) (sym o.seen.is.head)
                  (subst (λ h. IsBelow (Some (head_of o.seen.package)) h) (sym seen.is.head) below),
            )
      ]

  order : model.InOrder StoreSight (λ v. v.head) (λ v. v.claims) (λ v. v.is_formed ≡ true)
      (λ v. v.is_tied ≡ true)
      (λ v. v.frame) (λ v. v.reads_as) views
  order = record {
    one_archive = one_archive;
    formed = All-weaker (λ v. In v live_views) (λ v. v.is_formed ≡ true) (λ v i. (live_seen v i).1.is.formed)
        live_views (In-all live_views);
    no_copies = λ id f. absurd (twice (count_by (is_loan_of f.1) views)
        (once f.0 f.1 (open_of f.0 f.1 (contained f.0 views f.2) f.3)) f.6);
    none_missing = λ id f. absurd (zero_times (count_by (is_loan_of f.1) views)
        (there f.0 f.1 (open_of f.0 f.1 (contained f.0 views f.2) f.3)) f.6);
    at_home = at_home;
    tied = All-weaker (λ v. In v live_views) (λ v. v.is_tied ≡ true) (λ v i. (live_seen v i).1.is.tied) live_views
        (In-all live_views);
  }
    where
      twice : (n : ℕ) → n ≤ 1 → nat_le 2 n ≡ true → ⊥
      twice n le two = grind (arith, nat_tests)

      zero_times : (n : ℕ) → 1 ≤ n → (n == 0) ≡ true → ⊥
      zero_times n le none = grind (arith, nat_tests)

  -- ---- the world that is read

  abbrev read : List Package
  read = map (λ v. v.reads_as) live_views

  read_once : (k : List ℕ) → count_by (with_key package_key k) read ≤ 1
  read_once k =
      let named : StoreSight → Bool = λ v. lives v && bytes_eq v.reads_as.uuid k in
      let no : AllByRecursion (λ v. named v ≡ false) of.others =
      All-weaker (λ v. lives v ≡ false) (λ v. named v ≡ false)
      (λ v dead. ap (λ b. b && bytes_eq v.reads_as.uuid k) dead) of.others others_apart in
      let less : count_by named views ≤ count_by (with_key package_key k) w.packages =
      count_views w views of named (with_key package_key k) no
      (λ v p i is h. subst (λ x. bytes_eq x.uuid k ≡ true) is.reads
      (and_parts (lives v) (bytes_eq v.reads_as.uuid k) h).1) in
      omega (
        arith,
        sum_by-map (λ x. cond (with_key package_key k x) 1 0) (λ v. v.reads_as) live_views,
        sum_by-filter (λ v. cond (bytes_eq v.reads_as.uuid k) 1 0) lives views,
        sum_by-same (λ v. cond (lives v) (cond (bytes_eq v.reads_as.uuid k) 1 0) 0) (λ v. cond (named v) 1 0)
            (λ v. both 1 (lives v) (bytes_eq v.reads_as.uuid k)) views,
        less,
        counts_arranged package_key k w.packages register.arranged,
      )
    where
      both : (n : ℕ) (a b : Bool) → cond a (cond b n 0) 0 ≡ cond (a && b) n 0
      both n true b = refl
      both n false b = refl

  packages_are : w.packages ≡ arranged package_key read
  packages_are = same_list package_key w.packages (arranged package_key read) register.arranged
      (arranged_counts package_key read read_once)
      (λ p i.
      let v : (v : StoreSight) × In v views × IsViewOfPackage w v p = view_of w views of p i in
      let live : In v.0 live_views = In-filter lives v.0 views v.1 (member_found w register views of p v.0 i v.1 v.2) in
      In-to_arranged package_key p read (subst (λ x. In x read) v.2.reads
      (In-map (λ x. x.reads_as) v.0 live_views live)))
      (λ p i.
      let v : (v : StoreSight) × In v live_views × (v.reads_as ≡ p) =
      In-of_map (λ x. x.reads_as) p live_views (In-arranged package_key p read i) in
      let s : Seen w views of v.0 = (live_seen v.0 v.1).1 in
      subst (λ x. In x w.packages) (sym s.is.reads ∙ v.2) s.live)

  root_there : (root : StoreSight) × (find is_root views ≡ Some root)
  root_there = found is_root views (true_from_ne_false (list_any is_root views)
      (λ none. omega (arith, any_none is_root views none, one_archive)))

  pub stands : StoresStandFor views w
  stands = record {
    in_order = order;
    read_as = (
      root_there.0,
      root_there.1,
      λ n. record {
        frame = sym (root_frame root_there.0 root_there.1) n;
        packages = packages_are n;
      },
    );
    balanced = register.balanced;
    unaltered = register.unaltered;
  }

  pub no_faults : HasNoFault views
  no_faults = no_fault StoreSight (λ v. v.head) (λ v. v.claims) (λ v. v.is_formed ≡ true)
      (λ v. v.is_tied ≡ true)
      (λ v. v.frame) (λ v. v.reads_as) views w stands
