-- Tables that are read a part at a time, by the numbers of the receipts.
use Rattle.std.proofs.Common.{◌≡◌, ◌∙◌, ℤ, ◌<ℤ◌, List, [], ◌∷◌, ◌++◌, map, Bool, true, false}
use Rattle.std.proofs.Common.{Option, None, Some, Result, Ok, IfSome, IfNone, refl, sym, ap, subst, arith}
use Rattle.std.specs.Prelude.{filter, flat_map, cond, ◌||◌, int_le, IsPermutation, MatchOption}
use Rattle.std.specs.List.{AllByRecursion, list_any}
use Rattle.std.specs.Ordering.{int_eq}
use Rattle.std.proofs.lemmas.Bool.{false≢true}
use Rattle.std.proofs.lemmas.Int.{ints}
use Rattle.std.proofs.lemmas.List.{append-nil, map-append}
use Rattle.std.proofs.lemmas.List.Concat.{flat_map-append}
use Rattle.std.proofs.lemmas.List.Sorted.{IsPermutation-refl, IsPermutation-sym, IsPermutation-trans}
use Rattle.std.proofs.lemmas.List.Sorted.{IsPermutation-middle, IsPermutation-cons}
use Rattle.std.proofs.lemmas.List.Sorted.{IsPermutation-append_left, IsPermutation-append_right}
use Rattle.sqlite_trees.specs.Tree.{IsAscending}
use Rattle.sqlite_trees.proofs.ListLemmas.{filter_none, filter_all, filter-filter, all-filter, all-permutation}
use Rattle.sqlite_trees.proofs.ListLemmas.{ascending-append}
use Rattle.sheet_types.specs.declared.receipt.Receipt.{Receipt}
use Rattle.sheet_types.proofs.Basics.{or-true}
use Rattle.sheet_types.proofs.Every.{All-weaker, All-both, All-append, All-taken, All-each}
use Rattle.sqlite.specs.Effect.{Database}
use Rattle.sqlite.specs.State.{State}
use Rattle.store_sql.specs.Transactions.{Looks}
use Rattle.identity_register.proofs.Looking.{Looked, looked_then}
use Rattle.package_tables.specs.Calls.{Answers}
use Rattle.package_tables.specs.Package.{Tables, tables_of}
use Rattle.package_tables.specs.declared.rows.MovedRow.{MovedRow}
use Rattle.package_tables.specs.declared.rows.ReceiptRow.{ReceiptRow}
use Rattle.identity_register.specs.Reads.{IsFitReceipt, receipt_row, moved_rows}
use Rattle.package_receipts.specs.Ranges.{IsMovedInRange, IsReceiptInRange, AreReceiptsInRange, HavePlaces}
use Rattle.package_receipts.specs.Ranges.{moved_under}
use Rattle.package_receipts.specs.Read.{IsEarlier, AreReadAs, AreSaid, AreSaidUnder, AreSaidTo}
use Rattle.package_receipts.specs.Read.{AreSaidUntil, GoesOn, is_past, is_between}
use Rattle.package_receipts.proofs.Lists.{filter-append, int_eq_at, int_eq_apart}
use Rattle.package_receipts.proofs.Saying.{range_moved, said}

-- ---- a part of tables in their ranges is in its ranges

-- the rows that a filter takes pass its test
taken_pass : {X : Type 0} (p : X → Bool) (xs : List X) → AllByRecursion (λ x. p x ≡ true) (filter p xs)
taken_pass p xs = All-taken (λ x. p x ≡ true) p xs (All-each (λ x. p x ≡ true → p x ≡ true) (λ x h. h) xs)

-- what the receipt of a number that passes moved is all among the rows that pass
taken_under : (p : ℤ → Bool) (seq : ℤ) (moved : List MovedRow) → p seq ≡ true
    → moved_under seq (filter (λ m. p m.seq) moved) ≡ moved_under seq moved
taken_under p seq moved h = filter-filter (λ m. int_eq m.seq seq) (λ m. p m.seq)
    (λ m e. ap p (int_eq_at m.seq seq e) ∙ h) moved

-- the owner of a row that passes does
owner_taken : (p : ℤ → Bool) (m : MovedRow) (receipts : List ReceiptRow) → p m.seq ≡ true
    → list_any (λ r. int_eq r.seq m.seq) receipts ≡ true
    → list_any (λ r. int_eq r.seq m.seq) (filter (λ r. p r.seq) receipts) ≡ true
owner_taken p m [] passes h = absurd (false≢true h)
owner_taken p m (r ∷ rs) passes h =
    elim (int_eq r.seq m.seq) as (λ v. int_eq r.seq m.seq ≡ v
    → (v || list_any (λ x. int_eq x.seq m.seq) rs) ≡ true
    → list_any (λ x. int_eq x.seq m.seq) (filter (λ x. p x.seq) (r ∷ rs)) ≡ true) [
      | true ↦ λ e _. own e
      | false ↦ λ _ more. later (owner_taken p m rs passes more)
    ] refl h
  where
    own : int_eq r.seq m.seq ≡ true
        → list_any (λ x. int_eq x.seq m.seq) (filter (λ x. p x.seq) (r ∷ rs)) ≡ true
    own e = let here : p r.seq ≡ true = ap p (int_eq_at r.seq m.seq e) ∙ passes in
        rw (here, e) refl

    later : list_any (λ x. int_eq x.seq m.seq) (filter (λ x. p x.seq) rs) ≡ true
        → list_any (λ x. int_eq x.seq m.seq) (filter (λ x. p x.seq) (r ∷ rs)) ≡ true
    later more = elim (p r.seq) as (λ b. list_any (λ x. int_eq x.seq m.seq)
        (cond b (r ∷ filter (λ x. p x.seq) rs) (filter (λ x. p x.seq) rs)) ≡ true) [
          | true ↦ ap (λ b. int_eq r.seq m.seq || b) more ∙ or-true (int_eq r.seq m.seq)
          | false ↦ more
        ]

pub part_in_range : (p : ℤ → Bool) (receipts : List ReceiptRow) (moved : List MovedRow)
    → AreReceiptsInRange receipts moved
    → AreReceiptsInRange (filter (λ r. p r.seq) receipts) (filter (λ m. p m.seq) moved)
part_in_range p receipts moved it = record {
  rows = all-filter IsReceiptInRange (λ r. p r.seq) receipts it.rows;
  things = all-filter IsMovedInRange (λ m. p m.seq) moved it.things;
  positions = All-taken (λ r. HavePlaces (moved_under r.seq (filter (λ m. p m.seq) moved))) (λ r. p r.seq) receipts
      (All-weaker (λ r. HavePlaces (moved_under r.seq moved))
      (λ r. p r.seq ≡ true → HavePlaces (moved_under r.seq (filter (λ m. p m.seq) moved)))
      (λ r have passes. subst HavePlaces (sym (taken_under p r.seq moved passes)) have) receipts it.positions);
  owners = All-taken (λ m. list_any (λ r. int_eq r.seq m.seq) (filter (λ r. p r.seq) receipts) ≡ true)
      (λ m. p m.seq) moved (All-weaker (λ m. list_any (λ r. int_eq r.seq m.seq) receipts ≡ true)
      (λ m. p m.seq ≡ true → list_any (λ r. int_eq r.seq m.seq) (filter (λ r. p r.seq) receipts) ≡ true)
      (λ m h passes. owner_taken p m receipts passes h) moved it.owners);
}

-- ---- two parts together

-- numbers of which each of the first is below each of the second
pub Apart : (ℤ → Bool) → (ℤ → Bool) → Type 0
Apart p q = (a b : ℤ) → p a ≡ true → q b ≡ true → a <ℤ b

-- the numbers of either
pub IsEither : (ℤ → Bool) → (ℤ → Bool) → (ℤ → Bool) → Type 0
IsEither p q both = (z : ℤ) → both z ≡ (p z || q z)

-- no row of the one part is under a number of the other
none_under : (p q : ℤ → Bool) (seq : ℤ) (moved : List MovedRow)
    → ((a b : ℤ) → p a ≡ true → q b ≡ true → a ≡ b → ⊥) → p seq ≡ true
    → AllByRecursion (λ m. q m.seq ≡ true) moved → moved_under seq moved ≡ []
none_under p q seq moved differ passes others = filter_none (λ m. int_eq m.seq seq) moved
    (All-weaker (λ m. q m.seq ≡ true) (λ m. int_eq m.seq seq ≡ false)
    (λ m other. int_eq_apart m.seq seq (λ e. differ seq m.seq passes other (sym e))) moved others)

any_left : {X : Type 0} (t : X → Bool) (xs ys : List X) → list_any t xs ≡ true → list_any t (xs ++ ys) ≡ true
any_left t [] ys h = absurd (false≢true h)
any_left t (x ∷ xs) ys h = elim (t x) as (λ b. (b || list_any t xs) ≡ true → (b || list_any t (xs ++ ys)) ≡ true)
    [ true ↦ λ _. refl | false ↦ λ more. any_left t xs ys more ] h

any_right : {X : Type 0} (t : X → Bool) (xs ys : List X) → list_any t ys ≡ true → list_any t (xs ++ ys) ≡ true
any_right t [] ys h = h
any_right t (x ∷ xs) ys h = ap (λ b. t x || b) (any_right t xs ys h) ∙ or-true (t x)

pub parts_in_range : (p q : ℤ → Bool) → Apart p q → (first second : List ReceiptRow) (own others : List MovedRow)
    → AllByRecursion (λ r. p r.seq ≡ true) first → AllByRecursion (λ r. q r.seq ≡ true) second
    → AllByRecursion (λ m. p m.seq ≡ true) own → AllByRecursion (λ m. q m.seq ≡ true) others
    → AreReceiptsInRange first own → AreReceiptsInRange second others
    → AreReceiptsInRange (first ++ second) (own ++ others)
unfolding Apart
parts_in_range p q apart first second own others low high own_low others_high it more = record {
  rows = All-append IsReceiptInRange first second it.rows more.rows;
  things = All-append IsMovedInRange own others it.things more.things;
  positions = All-append (λ r. HavePlaces (moved_under r.seq (own ++ others))) first second
      (All-both (λ r. p r.seq ≡ true) (λ r. HavePlaces (moved_under r.seq own))
      (λ r. HavePlaces (moved_under r.seq (own ++ others)))
      (λ r passes have. subst HavePlaces (sym (filter-append (λ m. int_eq m.seq r.seq) own others
      ∙ ap (λ l. moved_under r.seq own ++ l) (none_under p q r.seq others
      (λ a b h g e. absurd (let less = apart a b h g in omega (arith, ints, less, e))) passes others_high)
      ∙ append-nil (moved_under r.seq own))) have) first low it.positions)
      (All-both (λ r. q r.seq ≡ true) (λ r. HavePlaces (moved_under r.seq others))
      (λ r. HavePlaces (moved_under r.seq (own ++ others)))
      (λ r passes have. subst HavePlaces (sym (filter-append (λ m. int_eq m.seq r.seq) own others
      ∙ ap (λ l. l ++ moved_under r.seq others) (none_under q p r.seq own
      (λ a b h g e. absurd (let less = apart b a g h in omega (arith, ints, less, e))) passes own_low))) have)
      second high more.positions);
  owners = All-append (λ m. list_any (λ r. int_eq r.seq m.seq) (first ++ second) ≡ true) own others
      (All-weaker (λ m. list_any (λ r. int_eq r.seq m.seq) first ≡ true)
      (λ m. list_any (λ r. int_eq r.seq m.seq) (first ++ second) ≡ true)
      (λ m h. any_left (λ r. int_eq r.seq m.seq) first second h) own it.owners)
      (All-weaker (λ m. list_any (λ r. int_eq r.seq m.seq) second ≡ true)
      (λ m. list_any (λ r. int_eq r.seq m.seq) (first ++ second) ≡ true)
      (λ m h. any_right (λ r. int_eq r.seq m.seq) first second h) others more.owners);
}

-- the elements that pass either test, in any order; none passes both
either : {X : Type 0} (p q both : X → Bool) → ((x : X) → both x ≡ (p x || q x))
    → ((x : X) → p x ≡ true → q x ≡ true → ⊥) → (xs : List X)
    → IsPermutation (filter both xs) (filter p xs ++ filter q xs)
either p q both is apart [] = IsPermutation-refl []
either {X} p q both is apart (x ∷ xs) = one (p x) (q x) (both x) (is x) (apart x) (either p q both is apart xs)
  where
    one : (a b c : Bool) → c ≡ (a || b) → (a ≡ true → b ≡ true → ⊥)
        → IsPermutation (filter both xs) (filter p xs ++ filter q xs)
        → IsPermutation (cond c (x ∷ filter both xs) (filter both xs))
        (cond a (x ∷ filter p xs) (filter p xs) ++ cond b (x ∷ filter q xs) (filter q xs))
    one true true c e none all = absurd (none refl refl)
    one true false c e none all = subst (λ v. IsPermutation (cond v (x ∷ filter both xs) (filter both xs))
        (x ∷ filter p xs ++ filter q xs)) (sym e) (IsPermutation-cons x (filter both xs)
        (filter p xs ++ filter q xs) all)
    one false true c e none all = subst (λ v. IsPermutation (cond v (x ∷ filter both xs) (filter both xs))
        (filter p xs ++ x ∷ filter q xs)) (sym e) (IsPermutation-trans (x ∷ filter both xs)
        (x ∷ filter p xs ++ filter q xs) (filter p xs ++ x ∷ filter q xs)
        (IsPermutation-cons x (filter both xs) (filter p xs ++ filter q xs) all)
        (IsPermutation-sym (filter p xs ++ x ∷ filter q xs) (x ∷ filter p xs ++ filter q xs)
        (IsPermutation-middle (filter p xs) x (filter q xs))))
    one false false c e none all = subst (λ v. IsPermutation (cond v (x ∷ filter both xs) (filter both xs))
        (filter p xs ++ filter q xs)) (sym e) all

-- two permutations, one after the other
both_permuted : {X : Type 0} (xs ys us vs : List X) → IsPermutation xs us → IsPermutation ys vs
    → IsPermutation (xs ++ ys) (us ++ vs)
both_permuted xs ys us vs h g = IsPermutation-trans (xs ++ ys) (us ++ ys) (us ++ vs)
    (IsPermutation-append_left ys xs us h) (IsPermutation-append_right us ys vs g)

both_found : {X : Type 0} (p q both : X → Bool) → ((x : X) → both x ≡ (p x || q x))
    → ((x : X) → p x ≡ true → q x ≡ true → ⊥) → (rows us vs : List X) → IsPermutation (filter p rows) us
    → IsPermutation (filter q rows) vs → IsPermutation (filter both rows) (us ++ vs)
both_found p q both is apart rows us vs h g = IsPermutation-trans (filter both rows) (filter p rows ++ filter q rows)
    (us ++ vs) (either p q both is apart rows) (both_permuted (filter p rows) (filter q rows) us vs h g)

-- what was found passes
found_pass : {X : Type 0} (p : X → Bool) (rows us : List X) → IsPermutation (filter p rows) us
    → AllByRecursion (λ x. p x ≡ true) us
found_pass p rows us h = all-permutation (λ x. p x ≡ true) (filter p rows) us h (taken_pass p rows)

-- the receipts of lower numbers, and those of higher ones
pub joined : (p q both : ℤ → Bool) (t : Tables) (first second : List Receipt) → Apart p q → IsEither p q both
    → AreSaidUnder p t first → AreSaidUnder q t second → AreSaidUnder both t (first ++ second)
unfolding Apart IsEither
joined p q both t first second apart is it more =
    let rows = map receipt_row first in
    let others = map receipt_row second in
    let own = flat_map moved_rows first in
    let things = flat_map moved_rows second in
    let append = map-append receipt_row first second in
    let append' = flat_map-append moved_rows first second in
    let differ : (z : ℤ) → p z ≡ true → q z ≡ true → ⊥ =
    λ z h g. let less = apart z z h g in omega (arith, ints, less) in
    let low = found_pass (λ r. p r.seq) t.receipts rows it.rows in
    let high = found_pass (λ r. q r.seq) t.receipts others more.rows in
    record {
      rows = subst (IsPermutation (filter (λ r. both r.seq) t.receipts)) (sym append)
          (both_found (λ r. p r.seq) (λ r. q r.seq) (λ r. both r.seq) (λ r. is r.seq) (λ r. differ r.seq) t.receipts
          rows others it.rows more.rows);
      things = subst (IsPermutation (filter (λ m. both m.seq) t.moved)) (sym append')
          (both_found (λ m. p m.seq) (λ m. q m.seq) (λ m. both m.seq) (λ m. is m.seq) (λ m. differ m.seq) t.moved
          own things it.things more.things);
      rising = subst (IsAscending IsEarlier) (sym append) (ascending-append IsEarlier rows others it.rising
          more.rising (All-weaker (λ r. p r.seq ≡ true) (λ r. AllByRecursion (IsEarlier r) others)
          (λ r passes. All-weaker (λ s. q s.seq ≡ true) (IsEarlier r) (λ s other. apart r.seq s.seq passes other)
          others high) rows low));
      range = subst (λ l. AreReceiptsInRange l (flat_map moved_rows (first ++ second))) (sym append)
          (subst (AreReceiptsInRange (rows ++ others)) (sym append')
          (parts_in_range p q apart rows others own things low high
          (found_pass (λ m. p m.seq) t.moved own it.things) (found_pass (λ m. q m.seq) t.moved things more.things)
          it.range more.range));
      fit = All-append IsFitReceipt first second it.fit more.fit;
    }

-- ---- one part

-- what was read of a part says its receipts
pub part_said : (p : ℤ → Bool) (t : Tables) (rows : List ReceiptRow) (things : List MovedRow)
    (entered : List Receipt)
    → IsPermutation (filter (λ r. p r.seq) t.receipts) rows → IsPermutation (filter (λ m. p m.seq) t.moved) things
    → AreReadAs rows things entered → AreSaidUnder p t entered
part_said p t rows things entered same other it = record {
  rows = subst (IsPermutation (filter (λ r. p r.seq) t.receipts)) it.are.rows same;
  things = subst (IsPermutation (filter (λ m. p m.seq) t.moved)) it.are.things
      (IsPermutation-trans (filter (λ m. p m.seq) t.moved) things it.sorted other it.same);
  rising = subst (IsAscending IsEarlier) it.are.rows it.rising;
  range = subst (λ l. AreReceiptsInRange l (flat_map moved_rows entered)) it.are.rows
      (subst (AreReceiptsInRange rows) it.are.things it.are.range);
  fit = it.are.fit;
}

pub part_refused : (p : ℤ → Bool) (t : Tables) (rows : List ReceiptRow) (things : List MovedRow)
    → IsPermutation (filter (λ r. p r.seq) t.receipts) rows → IsPermutation (filter (λ m. p m.seq) t.moved) things
    → (AreReceiptsInRange rows things → ⊥) → AreReceiptsInRange t.receipts t.moved → ⊥
part_refused p t rows things same other none h = none (range_moved (filter (λ r. p r.seq) t.receipts) rows
    (filter (λ m. p m.seq) t.moved) things same other (part_in_range p t.receipts t.moved h))

pub part_answered : {V : Type 0} (p : ℤ → Bool) (t : Tables) (rows : List ReceiptRow) (things : List MovedRow)
    (items : V → List Receipt) (answer : Option V)
    → IsPermutation (filter (λ r. p r.seq) t.receipts) rows → IsPermutation (filter (λ m. p m.seq) t.moved) things
    → IfSome answer (λ v. AreReadAs rows things (items v)) → IfNone answer (AreReceiptsInRange rows things → ⊥)
    → MatchOption answer (AreReceiptsInRange t.receipts t.moved → ⊥) (λ v. AreSaidUnder p t (items v))
part_answered p t rows things items None same other some none = part_refused p t rows things same other none
part_answered p t rows things items (Some v) same other some none = part_said p t rows things (items v) same other some

-- ---- part after part

last_apart : (before : ℤ) (end : Option ℤ) → Apart (λ z. int_le z before) (is_between (Some before) end)
unfolding Apart
last_apart before None a b low high = grind (arith, ints, low, high)
last_apart before (Some last) a b low high = grind (arith, ints, low, high)

last_either : (before : ℤ) (end : Option ℤ) → IfSome end (λ last. is_past (Some before) last ≡ true)
    → IsEither (λ z. int_le z before) (is_between (Some before) end) (is_between None end)
unfolding IsEither
last_either before None less z = grind (arith, ints)
last_either before (Some last) less z = grind (arith, ints, less)

-- the receipts so far and those of the next part
pub gone_on : (after end : Option ℤ) (t : Tables) (old part : List Receipt)
    → IfSome end (λ last. is_past after last ≡ true)
    → AreSaidUnder (is_between after end) t part → AreSaidTo after t old → AreSaidUntil end t (old ++ part)
gone_on None end t old part less it so = subst (λ l. AreSaidUntil end t (l ++ part)) (sym so) it
gone_on (Some before) end t old part less it so = joined (λ z. int_le z before) (is_between (Some before) end)
    (is_between None end) t old part (last_apart before end) (last_either before end less) so it

-- all are those of the tables
pub all_said : (db : Database) (entered : List Receipt) → AreSaidUntil None (tables_of db) entered
    → AreSaid (tables_of db) entered
all_said db entered it =
    let t = tables_of db in
    said db (map receipt_row entered) (flat_map moved_rows entered) entered
    (subst (λ l. IsPermutation l (map receipt_row entered))
    (filter_all (λ x. true) t.receipts (All-each (λ x. true ≡ true) (λ x. refl) t.receipts)) it.rows)
    (subst (λ l. IsPermutation l (flat_map moved_rows entered))
    (filter_all (λ x. true) t.moved (All-each (λ x. true ≡ true) (λ x. refl) t.moved)) it.things)
    (record {
      rising = it.rising;
      sorted = flat_map moved_rows entered;
      same = IsPermutation-refl (flat_map moved_rows entered);
      are = record { range = it.range; rows = refl; things = refl; fit = it.fit };
    })

-- ---- the calls

-- what was looked at says what follows from it
pub looked_so : {Fact Other : Tables → Type 0} {old new : State} → Looked Fact old new
    → ((t : Tables) → Fact t → Other t) → Looked Other old new
looked_so {old} it so = record {
  stays = it.stays;
  told = λ clean. let d = it.told clean in (d.0, d.1, λ formed. so (tables_of old.now) (d.2 formed));
}

pub went : {E : Type 0} (after end : Option ℤ) (old new : List Receipt) {a b d : State} {r : Result Bool E}
    → Looked (λ t. AreSaidTo after t old) a b → r ≡ Ok true
    → Looks {X = Bool} {E = E} (Answers (λ t w. GoesOn after end t old new w)) b d r
    → Looked (λ t. AreSaidUntil end t new) a d
went after end old new so is it = looked_so (looked_then (λ t w. GoesOn after end t old new w) so is it)
    (λ t h. h.1 h.0)

pub stopped : {E : Type 0} (after end : Option ℤ) (old new : List Receipt) {a b d : State} {r : Result Bool E}
    → Looked (λ t. AreSaidTo after t old) a b → r ≡ Ok false
    → Looks {X = Bool} {E = E} (Answers (λ t w. GoesOn after end t old new w)) b d r
    → Looked (λ t. AreReceiptsInRange t.receipts t.moved → ⊥) a d
stopped after end old new so is it = looked_so (looked_then (λ t w. GoesOn after end t old new w) so is it)
    (λ t h. h.1)

-- what a turn leaves, by the names of what it leaves
pub moved_on : {V C : Type 0} (items : V → List Receipt) (held : C → State) {a : State} {k l : Option ℤ}
    {v w : V} {s u : C} → l ≡ k → w ≡ v → u ≡ s → Looked (λ t. AreSaidTo k t (items v)) a (held s)
    → Looked (λ t. AreSaidTo l t (items w)) a (held u)
moved_on items held {a} {k} {l} {v} {w} {s} {u} e f h it =
    subst (λ x. Looked (λ t. AreSaidTo x t (items w)) a (held u)) (sym e)
    (subst (λ x. Looked (λ t. AreSaidTo k t (items x)) a (held u)) (sym f)
    (subst (λ x. Looked (λ t. AreSaidTo k t (items v)) a (held x)) (sym h) it))

-- what was found answers a question of the tables of the database
pub tells_all : {X E : Type 0} {Fact : Tables → Type 0} (Answer : Tables → X → Type 0) {old new : State} {x : X}
    → Looked Fact old new → ((db : Database) → Fact (tables_of db) → Answer (tables_of db) x)
    → Looks {X = X} {E = E} (Answers Answer) old new (Ok x)
tells_all Answer {old} it says = record {
  rests = it.stays.rests;
  done = λ clean. let d = it.told clean in (d.0, (d.1, λ formed. says old.now (d.2 formed)));
  was_open = it.stays.was_open;
  holds = it.stays.holds;
  survives = it.stays.survives;
}
