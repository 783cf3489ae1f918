-- Why a walk over all rows in order finds the receipts that they say, where they are in their ranges.
use Rattle.std.proofs.Common.{◌≡◌, ◌∙◌, ℕ, suc, zero, ℤ, pos, ◌+◌, ◌<◌, ◌≤◌}
use Rattle.std.proofs.Common.{◌≤ℤ◌, ◌<ℤ◌, List, [], ◌∷◌, ◌++◌, map}
use Rattle.std.proofs.Common.{length, take, drop, get_or, Option, Some, None, IfSome, IfNone, true, false, refl, sym}
use Rattle.std.proofs.Common.{ap, subst, inl, inr, arith, append_assoc}
use Rattle.std.specs.Prelude.{filter, flat_map, cond, not, ◌||◌, ◌==◌}
use Rattle.std.specs.List.{AllByRecursion, enumerate_from, list_any}
use Rattle.std.specs.Ordering.{int_eq}
use Rattle.std.proofs.lemmas.Bool.{false≢true, true≢false}
use borrow.Author.Tests.{eqb-true}
use Rattle.std.proofs.lemmas.Int.{ints}
use Rattle.std.proofs.lemmas.List.{append-nil, take_more, take_all, length-take, length_push, map-append}
use Rattle.std.proofs.lemmas.List.Concat.{flat_map-append}
use Rattle.sqlite_trees.specs.Tree.{IsAscending}
use Rattle.sqlite_trees.proofs.ListLemmas.{filter_all, filter_none, filter-filter, all-filter, ascending-filter}
use Rattle.sqlite_trees.proofs.ListLemmas.{IsPermutation-same}
use Rattle.sheet_types.specs.declared.receipt.Moved.{Moved}
use Rattle.sheet_types.specs.declared.receipt.Receipt.{Receipt}
use Rattle.sheet_types.proofs.Basics.{or-true}
use Rattle.sheet_types.proofs.Every.{All-weaker, All-both, All-append, All-snoc, All-taken}
use Rattle.package_tables.specs.declared.rows.MovedRow.{MovedRow}
use Rattle.package_tables.specs.declared.rows.ReceiptRow.{ReceiptRow}
use Rattle.identity_register.specs.Reads.{IsFitReceipt, is_fit_moved, receipt_row, moved_rows}
use Rattle.package_receipts.specs.Ranges.{IsMovedInRange, IsReceiptInRange, AreReceiptsInRange, HavePlaces}
use Rattle.package_receipts.specs.Ranges.{moved_under, places}
use Rattle.package_receipts.specs.Read.{thing_row, IsThingOf, StandFrom, things_rows, AreThingsOf, IsReceiptAt}
use Rattle.package_receipts.specs.Read.{IsEarlier, InTurn, AreReceipts}
use Rattle.package_receipts.proofs.Ranges.{thing_there, end_there, count_there, seq_counted}
use Rattle.package_receipts.proofs.Lists.{ascending-right, filter-append, int_eq_at, int_eq_itself, int_eq_apart}
use Rattle.package_receipts.proofs.Lists.{same_sorted}

-- ---- the things of one receipt

stand_more : (seq : ℤ) (n : ℕ) (rows : List MovedRow) (row : MovedRow) → StandFrom seq n rows
    → IsMovedInRange row
    → row.seq ≡ seq → row.position ≡ pos (n + length rows) → StandFrom seq n (rows ++ row ∷ [])
stand_more seq n [] row h r s p = let e : n + 0 ≡ n = omega arith in (r, s, p ∙ ap pos e, tt)
stand_more seq n (x ∷ xs) row h r s p = let e : n + suc (length xs) ≡ n + 1 + length xs =
    omega arith in (h.0, h.1, h.2, stand_more seq (n + 1) xs row h.3 r s (p ∙ ap pos e))

stand_at : (seq : ℤ) (n : ℕ) (rows : List MovedRow) (i : ℕ) (d : MovedRow) → StandFrom seq n rows
    → i < length rows
    → IsMovedInRange (get_or rows i d) × ((get_or rows i d).seq ≡ seq)
    × ((get_or rows i d).position ≡ pos (n + i))
stand_at seq n [] i d h less = absurd (omega (arith, less))
stand_at seq n (x ∷ xs) zero d h less = let e : n ≡ n + 0 = omega arith in (h.0, h.1, h.2 ∙ ap pos e)
stand_at seq n (x ∷ xs) (suc i) d h less = let e : n + 1 + i ≡ n + suc i = omega arith in let it =
    stand_at seq (n + 1) xs i d h.3 (omega (arith, less)) in (it.0, it.1, it.2 ∙ ap pos e)

-- a row that stands among them
pub standing : (seq : ℤ) (rows : List MovedRow) (i : ℕ) (row : MovedRow) → row ≡ get_or rows i row
    → i < length rows
    → StandFrom seq 0 rows → IsMovedInRange row × (row.seq ≡ seq) × (row.position ≡ pos i)
standing seq rows i row is less h =
    let e : 0 + i ≡ i = omega arith in
    let it = stand_at seq 0 rows i row h less in
    subst (λ x. IsMovedInRange x × (x.seq ≡ seq) × (x.position ≡ pos i)) (sym is) (it.0, it.1, it.2 ∙ ap pos e)

rows_more : (seq : ℤ) (n : ℕ) (things : List Moved) (x : Moved)
    → things_rows seq n (things ++ x ∷ []) ≡ things_rows seq n things ++ thing_row seq (pos (n + length things)) x
    ∷ []
rows_more seq n [] x = let e : n ≡ n + 0 = omega arith in ap (λ k. thing_row seq (pos k) x ∷ []) e
rows_more seq n (y ∷ ys) x =
    let e : n + 1 + length ys ≡ n + suc (length ys) = omega arith in
    ap (λ rows. thing_row seq (pos n) y ∷ rows) (rows_more seq (n + 1) ys x
    ∙ ap (λ k. things_rows seq (n + 1) ys ++ thing_row seq (pos k) x ∷ []) e)

pub no_things : (seq : ℤ) (rows : List MovedRow) → AreThingsOf seq (take 0 rows) []
no_things seq rows = record { stand = tt; are = refl; fit = tt }

pub one_thing : (seq : ℤ) (rows : List MovedRow) (things : List Moved) (i : ℕ) (row : MovedRow) (x : Moved)
    → i < length rows → row ≡ get_or rows i row → length things ≡ i → AreThingsOf seq (take i rows) things
    → row.seq ≡ seq → row.position ≡ pos i → IsThingOf row x
    → AreThingsOf seq (take (i + 1) rows) (things ++ x ∷ [])
one_thing seq rows things i row x less is long so_far s p it =
    let cut : take (i + 1) rows ≡ take i rows ++ row ∷ [] = take_more rows i row less
    ∙ ap (λ r. take i rows ++ r ∷ []) (sym is) in
    let front : length (take i rows) ≡ i = omega (arith, less, length-take i rows) in
    let on : i ≡ 0 + length (take i rows) = omega (arith, front) in
    let at : i ≡ 0 + length things = omega (arith, long) in
    let row_is : row ≡ thing_row seq (pos (0 + length things)) x =
    it.is ∙ ap (λ z. thing_row z row.position x) s ∙ ap (λ z. thing_row seq z x) (p ∙ ap pos at) in
    record {
      stand = subst (StandFrom seq 0) (sym cut) (stand_more seq 0 (take i rows) row so_far.stand it.range s
          (p ∙ ap pos on));
      are = cut ∙ ap (λ r. take i rows ++ r ∷ []) row_is ∙ ap
          (λ l. l ++ thing_row seq (pos (0 + length things)) x ∷ []) so_far.are ∙ sym (rows_more seq 0 things x);
      fit = All-snoc (λ m. is_fit_moved m ≡ true) things x so_far.fit it.fit;
    }

-- one thing more
pub pushed : (things : List Moved) (x : Moved) (i : ℕ) → length things ≡ i
    → length (things ++ x ∷ []) ≡ i + 1
pushed things x i long = grind (arith, length_push things x, long)

pub all_things : (seq : ℤ) (rows : List MovedRow) (things : List Moved) (i : ℕ) → length rows ≤ i
    → AreThingsOf seq (take i rows) things → AreThingsOf seq rows things
all_things seq rows things i long it = subst (λ r. AreThingsOf seq r things) (take_all i rows long) it

-- the row of a receipt with these things
pub receipt_here : (row : ReceiptRow) (rows : List MovedRow) (things : List Moved) (r : Receipt)
    → AreThingsOf row.seq rows things → receipt_row r ≡ row → IsFitReceipt r → r.items ≡ things
    → IsReceiptInRange row
    → IsReceiptAt row rows r
receipt_here row rows things r it is fit items range = record {
  range = range;
  stand = it.stand;
  is = is;
  moved = it.are ∙ ap (λ l. things_rows row.seq 0 l) (sym items)
      ∙ ap (λ z. things_rows z 0 r.items) (sym (ap (λ x. x.seq) is));
  fit = fit;
}

-- ---- where the rows of a number end

abbrev pub HeadAbove : ℤ → List MovedRow → Type 0
HeadAbove s [] = Unit {0}
HeadAbove s (x ∷ xs) = s <ℤ x.seq

same_cut : (s : ℤ) (front back own others : List MovedRow) → AllByRecursion (λ m. m.seq ≤ℤ s) front
    → HeadAbove s back
    → AllByRecursion (λ m. m.seq ≡ s) own → AllByRecursion (λ m. s <ℤ m.seq) others
    → front ++ back ≡ own ++ others
    → (front ≡ own) × (back ≡ others)
same_cut s [] back [] others f h o b e = (refl, e)
same_cut s [] [] (y ∷ own) others f h o b e = absurd (cc)
same_cut s [] (x ∷ back) (y ∷ own) others f h o b e =
    let same : x ≡ y = cc in
    absurd (omega (arith, ints, h, ap (λ m. m.seq) same, o.0))
same_cut s (x ∷ front) back [] [] f h o b e = absurd (cc)
same_cut s (x ∷ front) back [] (y ∷ others) f h o b e =
    let same : x ≡ y = cc in
    absurd (omega (arith, ints, f.0, ap (λ m. m.seq) same, b.0))
same_cut s (x ∷ front) back (y ∷ own) others f h o b e =
    let same : x ≡ y = cc in
    let tail : front ++ back ≡ own ++ others = cc in
    let rest = same_cut s front back own others f.1 h o.1 b tail in
    ((λ n. same n ∷ rest.0 n), rest.1)

-- ---- one receipt less

own_of : ℤ → List MovedRow → List MovedRow
own_of s ms = filter (λ m. int_eq m.seq s) ms

others_of : ℤ → List MovedRow → List MovedRow
others_of s ms = filter (λ m. not (int_eq m.seq s)) ms

-- a row whose receipt is among some of higher numbers has a higher one
above_owner : (s : ℤ) (left : List ReceiptRow) (m : MovedRow) → AllByRecursion (λ r. s <ℤ r.seq) left
    → list_any (λ r. int_eq r.seq m.seq) left ≡ true → s <ℤ m.seq
above_owner s [] m up h = absurd (false≢true h)
above_owner s (r ∷ rs) m up h =
    elim (int_eq r.seq m.seq) as (λ v. int_eq r.seq m.seq ≡ v
    → (v || list_any (λ x. int_eq x.seq m.seq) rs) ≡ true
    → s <ℤ m.seq) [
      | true ↦ λ e _. let same = int_eq_at r.seq m.seq e in let less : s <ℤ r.seq =
          up.0 in omega (arith, ints, same, less)
      | false ↦ λ _ more. above_owner s rs m up.1 more
    ] refl h

-- no row is of a lower number than the first receipt
not_lower : (row : ReceiptRow) (left : List ReceiptRow) (m : MovedRow) → AllByRecursion (IsEarlier row) left
    → list_any (λ r. int_eq r.seq m.seq) (row ∷ left) ≡ true → row.seq ≤ℤ m.seq
not_lower row left m up h =
    elim (int_eq row.seq m.seq) as (λ v. int_eq row.seq m.seq ≡ v
    → (v || list_any (λ r. int_eq r.seq m.seq) left) ≡ true → row.seq ≤ℤ m.seq) [
      | true ↦ λ e _. let same = int_eq_at row.seq m.seq e in omega (arith, ints, same)
      | false ↦ λ _ more. let less = above_owner row.seq left m up more in omega (arith, ints, less)
    ] refl h

after : (s : ℤ) (x y : MovedRow) → s <ℤ x.seq → InTurn x y → s <ℤ y.seq
after s x y less h = elim h [
  | inl up ↦ omega (arith, ints, less, up)
  | inr same ↦ let e : x.seq ≡ y.seq =
      same.0 in omega (arith, ints, less, e)
]

cut_here : (s : ℤ) (ms : List MovedRow) → IsAscending InTurn ms → AllByRecursion (λ m. s ≤ℤ m.seq) ms
    → ms ≡ own_of s ms ++ others_of s ms
unfolding own_of others_of
cut_here s [] up low = refl
cut_here s (x ∷ xs) up low =
    elim (int_eq x.seq s) as (λ v. int_eq x.seq s ≡ v → x ∷ xs ≡ cond v (x ∷ own_of s xs) (own_of s xs)
    ++ cond (not v) (x ∷ others_of s xs) (others_of s xs)) [
      | true ↦ λ e. ap (λ l. x ∷ l) (cut_here s xs up.1 low.1)
      | false ↦ λ e.
          let less : s <ℤ x.seq = grind (arith, ints, low.0, above e) in
          let later : AllByRecursion (λ m. s <ℤ m.seq) xs = All-weaker (InTurn x) (λ m. s <ℤ m.seq)
          (λ y h. after s x y less h) xs up.0 in
          let none : own_of s xs ≡ [] = filter_none (λ m. int_eq m.seq s) xs
          (All-weaker (λ m. s <ℤ m.seq) (λ m. int_eq m.seq s ≡ false)
          (λ y h. int_eq_apart y.seq s (λ g. absurd (omega (arith, ints, h, g)))) xs later) in
          let all : others_of s xs ≡ xs = filter_all (λ m. not (int_eq m.seq s)) xs
          (All-weaker (λ m. s <ℤ m.seq) (λ m. not (int_eq m.seq s) ≡ true)
          (λ y h. ap not (int_eq_apart y.seq s (λ g. absurd (omega (arith, ints, h, g))))) xs later) in
          ap (λ l. x ∷ l) (sym all) ∙ ap (λ l. l ++ x ∷ others_of s xs) (sym none)
    ] refl
  where
    above : int_eq x.seq s ≡ false → x.seq ≡ s → ⊥
    above e g = true≢false (sym (int_eq_itself s) ∙ ap (λ z. int_eq z s) (sym g) ∙ e)

-- a list from which some are taken, by two tests at once
taken_under : (s r : ℤ) (ms : List MovedRow) → s <ℤ r → moved_under r (others_of s ms) ≡ moved_under r ms
unfolding others_of
taken_under s r ms less = filter-filter (λ m. int_eq m.seq r) (λ m. not (int_eq m.seq s))
    (λ m e. let same = int_eq_at m.seq r e in ap not (int_eq_apart m.seq s
    (λ g. absurd (omega (arith, ints, less, same, g))))) ms

-- ---- the rows of one number, in turn

up_places : {X : Type 0} (n : ℕ) (xs : List X) → AllByRecursion (λ z. pos n ≤ℤ z)
    (map (λ x. pos x.0) (enumerate_from n xs))
up_places n [] = tt
up_places n (x ∷ xs) = (
  omega (arith, ints),
  All-weaker (λ z. pos (n + 1) ≤ℤ z) (λ z. pos n ≤ℤ z)
      (λ z h. omega (arith, ints, h)) (map (λ y. pos y.0) (enumerate_from (n + 1) xs)) (up_places (n + 1) xs),
)

places_rise : {X : Type 0} (n : ℕ) (xs : List X) → IsAscending (λ a b. a ≤ℤ b)
    (map (λ x. pos x.0) (enumerate_from n xs))
places_rise n [] = tt
places_rise n (x ∷ xs) = (
  All-weaker (λ z. pos (n + 1) ≤ℤ z) (λ z. pos n ≤ℤ z) (λ z h. omega (arith, ints, h))
      (map (λ y. pos y.0) (enumerate_from (n + 1) xs)) (up_places (n + 1) xs),
  places_rise (n + 1) xs,
)

positions_rise : (s : ℤ) (ms : List MovedRow) → IsAscending InTurn ms → AllByRecursion (λ m. m.seq ≡ s) ms
    → IsAscending (λ a b. a ≤ℤ b) (map (λ m. m.position) ms)
positions_rise s [] up same = tt
positions_rise s (x ∷ xs) up same = (behind xs up.0 same.1, positions_rise s xs up.1 same.1)
  where
    behind : (ys : List MovedRow) → AllByRecursion (InTurn x) ys → AllByRecursion (λ m. m.seq ≡ s) ys
        → AllByRecursion (λ z. x.position ≤ℤ z) (map (λ m. m.position) ys)
    behind [] h e = tt
    behind (y ∷ ys) h e = (
      elim h.0 [
        | inl less ↦ absurd (let a : x.seq ≡ s = same.0 in let b : y.seq ≡ s =
            e.0 in omega (arith, ints, less, a, b))
        | inr both ↦ both.1
      ],
      behind ys h.1 e.1,
    )

stand_up : (s : ℤ) (n : ℕ) (ms : List MovedRow) → AllByRecursion IsMovedInRange ms
    → AllByRecursion (λ m. m.seq ≡ s) ms → map (λ m. m.position) ms
    ≡ map (λ x. pos x.0) (enumerate_from n ms)
    → StandFrom s n ms
stand_up s n [] r e p = tt
stand_up s n (x ∷ xs) r e p =
    let here : x.position ≡ pos n = cc in
    let rest : map (λ m. m.position) xs ≡ map (λ y. pos y.0) (enumerate_from (n + 1) xs) = cc in
    (r.0, e.0, here, stand_up s (n + 1) xs r.1 e.1 rest)

stand_down : (s : ℤ) (n : ℕ) (ms : List MovedRow) → StandFrom s n ms
    → map (λ m. m.position) ms ≡ map (λ x. pos x.0) (enumerate_from n ms)
stand_down s n [] h = refl
stand_down s n (x ∷ xs) h = let rest = stand_down s (n + 1) xs h.3 in λ k. h.2 k ∷ rest k

stand_range : (s : ℤ) (n : ℕ) (ms : List MovedRow) → StandFrom s n ms → AllByRecursion IsMovedInRange ms
stand_range s n [] h = tt
stand_range s n (x ∷ xs) h = (h.0, stand_range s (n + 1) xs h.3)

stand_under : (s : ℤ) (n : ℕ) (ms : List MovedRow) → StandFrom s n ms → AllByRecursion (λ m. m.seq ≡ s) ms
stand_under s n [] h = tt
stand_under s n (x ∷ xs) h = (h.1, stand_under s (n + 1) xs h.3)

-- what tables in their ranges and in order begin with
pub record Begins (row : ReceiptRow) (left : List ReceiptRow) (ms : List MovedRow) : Type 0 where
  pub range : IsReceiptInRange row
  pub own : List MovedRow
  pub others : List MovedRow
  pub cut : ms ≡ own ++ others
  pub stand : StandFrom row.seq 0 own
  pub higher : AllByRecursion (λ m. row.seq <ℤ m.seq) others
  pub rest : AreReceiptsInRange left others

pub one_less : (row : ReceiptRow) (left : List ReceiptRow) (ms : List MovedRow) → IsAscending IsEarlier (row ∷ left)
    → IsAscending InTurn ms → AreReceiptsInRange (row ∷ left) ms → Begins row left ms
unfolding own_of others_of
one_less row left ms up turn it =
    let s = row.seq in
    let own = own_of s ms in
    let low : AllByRecursion (λ m. s ≤ℤ m.seq) ms = All-weaker
    (λ m. list_any (λ r. int_eq r.seq m.seq) (row ∷ left) ≡ true) (λ m. s ≤ℤ m.seq)
    (λ m h. not_lower row left m up.0 h) ms it.owners in
    let same : AllByRecursion (λ m. m.seq ≡ s) own = All-taken (λ m. m.seq ≡ s) (λ m. int_eq m.seq s) ms
    (every (λ m e. int_eq_at m.seq s e) ms) in
    let turned : IsAscending InTurn own = ascending-filter InTurn (λ m. int_eq m.seq s) ms turn in
    let at : map (λ m. m.position) own ≡ places own = same_sorted (map (λ m. m.position) own) (places own)
    (positions_rise s own turned same) (places_rise 0 own) it.positions.0 in
    let strict : (m : MovedRow) → s ≤ℤ m.seq → not (int_eq m.seq s) ≡ true → s <ℤ m.seq =
    λ m least other. grind (arith, ints, least, differs m other) in
    record {
      range = it.rows.0;
      own = own;
      others = others_of s ms;
      cut = cut_here s ms turn low;
      stand = stand_up s 0 own (all-filter IsMovedInRange (λ m. int_eq m.seq s) ms it.things) same at;
      higher = All-taken (λ m. s <ℤ m.seq) (λ m. not (int_eq m.seq s)) ms
          (All-weaker (λ m. s ≤ℤ m.seq) (λ m. not (int_eq m.seq s) ≡ true → s <ℤ m.seq) strict ms low);
      rest = record {
        rows = it.rows.1;
        things = all-filter IsMovedInRange (λ m. not (int_eq m.seq s)) ms it.things;
        positions = All-both (IsEarlier row) (λ r. HavePlaces (moved_under r.seq ms))
            (λ r. HavePlaces (moved_under r.seq (others_of s ms)))
            (λ r less have. subst HavePlaces (sym (taken_under s r.seq ms less)) have) left up.0 it.positions.1;
        owners = All-taken (λ m. list_any (λ r. int_eq r.seq m.seq) left ≡ true) (λ m. not (int_eq m.seq s)) ms
            (All-weaker (λ m. list_any (λ r. int_eq r.seq m.seq) (row ∷ left) ≡ true)
            (λ m. not (int_eq m.seq s) ≡ true → list_any (λ r. int_eq r.seq m.seq) left ≡ true)
            (λ m h other. other_owner m other h) ms it.owners);
      };
    }
  where
    every : {P : MovedRow → Type 0} → ((m : MovedRow) → P m) → (l : List MovedRow) → AllByRecursion P l
    every h [] = tt
    every h (x ∷ xs) = (h x, every h xs)

    differs : (m : MovedRow) → not (int_eq m.seq row.seq) ≡ true → m.seq ≡ row.seq → ⊥
    differs m other e = true≢false (sym other ∙ ap not (ap (λ z. int_eq z row.seq) e ∙ int_eq_itself row.seq))

    other_owner : (m : MovedRow) → not (int_eq m.seq row.seq) ≡ true
        → list_any (λ r. int_eq r.seq m.seq) (row ∷ left) ≡ true
        → list_any (λ r. int_eq r.seq m.seq) left ≡ true
    other_owner m other h = subst (λ b. (b || list_any (λ r. int_eq r.seq m.seq) left) ≡ true)
        (int_eq_apart row.seq m.seq (λ e. differs m other (sym e))) h

-- ---- one receipt more

pub one_more : (row : ReceiptRow) (left : List ReceiptRow) (own others : List MovedRow)
    → IsAscending IsEarlier (row ∷ left) → IsReceiptInRange row → StandFrom row.seq 0 own
    → AreReceiptsInRange left others → AreReceiptsInRange (row ∷ left) (own ++ others)
one_more row left own others up range stand rest =
    let s = row.seq in
    let under : AllByRecursion (λ m. m.seq ≡ s) own = stand_under s 0 own stand in
    let higher : AllByRecursion (λ m. s <ℤ m.seq) others = All-weaker
    (λ m. list_any (λ r. int_eq r.seq m.seq) left ≡ true) (λ m. s <ℤ m.seq)
    (λ m h. above_owner s left m up.0 h) others rest.owners in
    let all : moved_under s own ≡ own = filter_all (λ m. int_eq m.seq s) own
    (All-weaker (λ m. m.seq ≡ s) (λ m. int_eq m.seq s ≡ true)
    (λ m e. ap (λ z. int_eq z s) e ∙ int_eq_itself s) own under) in
    let none : moved_under s others ≡ [] = filter_none (λ m. int_eq m.seq s) others
    (All-weaker (λ m. s <ℤ m.seq) (λ m. int_eq m.seq s ≡ false)
    (λ m h. int_eq_apart m.seq s (λ g. absurd (omega (arith, ints, h, g)))) others higher) in
    let here : moved_under s (own ++ others) ≡ own = filter-append (λ m. int_eq m.seq s) own others
    ∙ ap (λ l. l ++ moved_under s others) all ∙ ap (λ l. own ++ l) none ∙ append-nil own in
    let later : (r : ReceiptRow) → s <ℤ r.seq → moved_under r.seq (own ++ others) ≡ moved_under r.seq others =
    λ r less.
    filter-append (λ m. int_eq m.seq r.seq) own others
    ∙ ap (λ l. l ++ moved_under r.seq others) (filter_none (λ m. int_eq m.seq r.seq) own
    (All-weaker (λ m. m.seq ≡ s) (λ m. int_eq m.seq r.seq ≡ false)
    (λ m e. int_eq_apart m.seq r.seq (λ g. absurd (omega (arith, ints, less, e, g)))) own under)) in
    record {
      rows = (range, rest.rows);
      things = All-append IsMovedInRange own others (stand_range s 0 own stand) rest.things;
      positions = (
        subst HavePlaces (sym here) (IsPermutation-same (map (λ m. m.position) own) (places own)
            (stand_down s 0 own stand)),
        All-both (IsEarlier row) (λ r. HavePlaces (moved_under r.seq others))
            (λ r. HavePlaces (moved_under r.seq (own ++ others)))
            (λ r less have. subst HavePlaces (sym (later r less)) have) left up.0 rest.positions,
      );
      owners = All-append (λ m. list_any (λ r. int_eq r.seq m.seq) (row ∷ left) ≡ true) own others
          (All-weaker (λ m. m.seq ≡ s) (λ m. list_any (λ r. int_eq r.seq m.seq) (row ∷ left) ≡ true)
          (λ m e. ap (λ b. b || list_any (λ r. int_eq r.seq m.seq) left) (ap (int_eq s) e ∙ int_eq_itself s)) own
          under)
          (All-weaker (λ m. list_any (λ r. int_eq r.seq m.seq) left ≡ true)
          (λ m. list_any (λ r. int_eq r.seq m.seq) (row ∷ left) ≡ true)
          (λ m h. ap (λ b. int_eq s m.seq || b) h ∙ or-true (int_eq s m.seq)) others rest.owners);
    }

-- ---- the walk

head_above : (s : ℤ) (n : ℕ) (ms : List MovedRow) → ((d : MovedRow) → n < length ms
    → s <ℤ (get_or ms n d).seq)
    → HeadAbove s (drop n ms)
head_above s zero [] h = tt
head_above s (suc n) [] h = tt
head_above s zero (x ∷ xs) h = h x (omega arith)
head_above s (suc n) (x ∷ xs) h = head_above s n xs (λ d less. h d (omega (arith, less)))

-- the rows of a list that is cut where those of greater numbers begin
pub record IsCut (s : ℤ) (ms own others : List MovedRow) : Type 0 where
  pub cut : ms ≡ own ++ others
  pub before : AllByRecursion (λ m. m.seq ≤ℤ s) own
  pub after : HeadAbove s others

pub cut_at : (s : ℤ) (n : ℕ) (ms own others : List MovedRow) → ms ≡ own ++ others → own ≡ take n ms
    → others ≡ drop n ms → AllByRecursion (λ m. m.seq ≤ℤ s) (take n ms)
    → ((d : MovedRow) → n < length ms → s <ℤ (get_or ms n d).seq) → IsCut s ms own others
cut_at s n ms own others cut front back low high = record {
  cut = cut;
  before = subst (AllByRecursion (λ m. m.seq ≤ℤ s)) (sym front) low;
  after = subst (HeadAbove s) (sym back) (head_above s n ms high);
}

-- as far as a loop has come: the receipts that were entered, and what is left of the rows
pub record SoFar (receipts : List ReceiptRow) (moved : List MovedRow) (entered : List Receipt)
    (left : List ReceiptRow) (rest : List MovedRow) : Type 0 where
  pub rows : receipts ≡ map receipt_row entered ++ left
  pub things : moved ≡ flat_map moved_rows entered ++ rest
  pub fit : AllByRecursion IsFitReceipt entered
  pub fore : AreReceiptsInRange left rest → AreReceiptsInRange receipts moved
  pub back : AreReceiptsInRange receipts moved → AreReceiptsInRange left rest
  pub rising : IsAscending IsEarlier left
  pub turn : IsAscending InTurn rest

pub begun : (receipts : List ReceiptRow) (moved : List MovedRow) → IsAscending IsEarlier receipts
    → IsAscending InTurn moved → SoFar receipts moved [] receipts moved
begun receipts moved up turn = record {
  rows = refl;
  things = refl;
  fit = tt;
  fore = λ h. h;
  back = λ h. h;
  rising = up;
  turn = turn;
}

-- the rows that the first receipt moved, where the rows are in their ranges
own_is : (row : ReceiptRow) (left : List ReceiptRow) (rest own others : List MovedRow)
    → IsAscending IsEarlier (row ∷ left) → IsAscending InTurn rest → IsCut row.seq rest own others
    → AreReceiptsInRange (row ∷ left) rest → IsReceiptInRange row × StandFrom row.seq 0 own
    × AreReceiptsInRange left others
own_is row left rest own others up turn cut it =
    let b = one_less row left rest up turn it in
    let same = same_cut row.seq own others b.own b.others cut.before cut.after (stand_under row.seq 0 b.own b.stand)
    b.higher (sym cut.cut ∙ b.cut) in
    (b.range, subst (StandFrom row.seq 0) (sym same.0) b.stand, subst (AreReceiptsInRange left) (sym same.1) b.rest)

pub went_on : (receipts : List ReceiptRow) (moved : List MovedRow) (entered : List Receipt) (row : ReceiptRow)
    (left : List ReceiptRow) (rest own others : List MovedRow) (r : Receipt)
    → SoFar receipts moved entered (row ∷ left) rest → IsCut row.seq rest own others → IsReceiptAt row own r
    → SoFar receipts moved (entered ++ r ∷ []) left others
went_on receipts moved entered row left rest own others r so cut it = record {
  rows = so.rows ∙ ap (λ x. map receipt_row entered ++ x ∷ left) (sym it.is)
      ∙ sym (ap (λ l. l ++ left) (map-append receipt_row entered (r ∷ []))
      ∙ append_assoc (map receipt_row entered) (receipt_row r ∷ []) left);
  things =
      so.things ∙ ap (λ l. flat_map moved_rows entered ++ l)
      (cut.cut ∙ ap (λ l. l ++ others) (it.moved ∙ sym (append-nil (moved_rows r))))
      ∙ sym (append_assoc (flat_map moved_rows entered) (moved_rows r ++ []) others)
      ∙ ap (λ l. l ++ others) (sym (flat_map-append moved_rows entered (r ∷ [])));
  fit = All-snoc IsFitReceipt entered r so.fit it.fit;
  fore = λ h. so.fore (subst (AreReceiptsInRange (row ∷ left)) (sym cut.cut)
      (one_more row left own others so.rising it.range it.stand h));
  back = λ h. (own_is row left rest own others so.rising so.turn cut (so.back h)).2;
  rising = so.rising.1;
  turn = ascending-right InTurn own others (subst (IsAscending InTurn) cut.cut so.turn);
}

pub refused : (receipts : List ReceiptRow) (moved : List MovedRow) (entered : List Receipt) (row : ReceiptRow)
    (left : List ReceiptRow) (rest own others : List MovedRow) → SoFar receipts moved entered (row ∷ left) rest
    → IsCut row.seq rest own others → (IsReceiptInRange row → StandFrom row.seq 0 own → ⊥)
    → AreReceiptsInRange receipts moved → ⊥
refused receipts moved entered row left rest own others so cut none h = let it =
    own_is row left rest own others so.rising so.turn cut (so.back h) in none it.0 it.1

pub ended : (receipts : List ReceiptRow) (moved : List MovedRow) (entered : List Receipt) (left : List ReceiptRow)
    (rest : List MovedRow) → left ≡ [] → rest ≡ [] → SoFar receipts moved entered left rest
    → AreReceipts receipts moved entered
ended receipts moved entered left rest no_left no_rest so = record {
  range = so.fore (subst (λ l. AreReceiptsInRange l rest) (sym no_left)
      (subst (AreReceiptsInRange []) (sym no_rest) (record { rows = tt; things = tt; positions = tt; owners = tt })));
  rows = so.rows ∙ ap (λ l. map receipt_row entered ++ l) no_left ∙ append-nil (map receipt_row entered);
  things = so.things ∙ ap (λ l. flat_map moved_rows entered ++ l) no_rest
      ∙ append-nil (flat_map moved_rows entered);
  fit = so.fit;
}

pub left_over : (receipts : List ReceiptRow) (moved : List MovedRow) (entered : List Receipt) (left : List ReceiptRow)
    (rest : List MovedRow) → left ≡ [] → (length rest == 0) ≡ false → SoFar receipts moved entered left rest
    → AreReceiptsInRange receipts moved → ⊥
left_over receipts moved entered left [] no_left some so h = true≢false some
left_over receipts moved entered left (m ∷ rest) no_left some so h =
    false≢true (subst (λ l. AreReceiptsInRange l (m ∷ rest)) no_left (so.back h)).owners.0

-- a list without length, by the count or by a test
pub none_long : {X : Type 0} (n : ℕ) (l : List X) → n ≡ length l → n ≡ 0 → l ≡ []
none_long n [] long none = refl
none_long n (x ∷ xs) long none = absurd (omega (arith, long, none))

pub none_there : {X : Type 0} (l : List X) → (length l == 0) ≡ true → l ≡ []
none_there [] h = refl
none_there (x ∷ xs) h = absurd (let e : length (x ∷ xs) ≡ 0 =
    eqb-true (length (x ∷ xs)) 0 h in omega (arith, e))

-- ---- what was read of one receipt

pub receipt_if : (row : ReceiptRow) (rows : List MovedRow) (things : List Moved) (r : Option Receipt)
    → AreThingsOf row.seq rows things → IfSome r (λ x. receipt_row x ≡ row) → IfSome r IsFitReceipt
    → IfSome r (λ x. x.items ≡ things) → IfSome r (λ _. IsReceiptInRange row)
    → IfSome r (IsReceiptAt row rows)
receipt_if row rows things None it is fit items range = tt
receipt_if row rows things (Some r) it is fit items range = receipt_here row rows things r it is fit items range

pub receipt_none : (row : ReceiptRow) (rows : List MovedRow) (r : Option Receipt)
    → IfNone r (IsReceiptInRange row → ⊥) → IfNone r (IsReceiptInRange row → StandFrom row.seq 0 rows → ⊥)
receipt_none row rows None none = λ range _. none range
receipt_none row rows (Some r) none = tt

-- ---- there are receipts that rows in their ranges say

things_there : (s : ℤ) (n : ℕ) (rows : List MovedRow) → StandFrom s n rows → (things : List Moved)
    × (rows ≡ things_rows s n things) × AllByRecursion (λ m. is_fit_moved m ≡ true) things
things_there s n [] h = ([], refl, tt)
things_there s n (x ∷ xs) h =
    let m = thing_there x h.0 in
    let rest = things_there s (n + 1) xs h.3 in
    let here : x ≡ thing_row s (pos n) m.0 = m.1 ∙ ap (λ z. thing_row z x.position m.0) h.1
    ∙ ap (λ z. thing_row s z m.0) h.2 in
    (m.0 ∷ rest.0, (λ k. here k ∷ rest.1 k), (m.2, rest.2))

receipt_there : (row : ReceiptRow) (rows : List MovedRow) → IsReceiptInRange row → StandFrom row.seq 0 rows
    → (r : Receipt) × IsReceiptAt row rows r
receipt_there row rows range stand =
    let things = things_there row.seq 0 rows stand in
    let seq = count_there row.seq (seq_counted row.seq range.seq) in
    let source = end_there row.source range.source in
    let target = end_there row.target range.target in
    let tiles = count_there row.n_tiles range.counts.n_tiles in
    let media = count_there row.n_media range.counts.n_media in
    let marks = count_there row.n_rows range.counts.n_rows in
    let links = count_there row.n_links range.counts.n_links in
    let bytes = count_there row.n_bytes range.counts.n_bytes in
    let r : Receipt = record {
      seq = seq.0;
      request = range.request.id;
      at = row.at;
      line = row.line;
      source = source.0;
      target = target.0;
      items = things.0;
      tiles = tiles.0;
      media = media.0;
      rows = marks.0;
      links = links.0;
      bytes = bytes.0;
    } in
    let is : receipt_row r ≡ row = sym {A = ReceiptRow} (λ n. record {
      seq = seq.1 n;
      request = range.request.is n;
      at = row.at;
      line = row.line;
      source = source.1 n;
      target = target.1 n;
      n_tiles = tiles.1 n;
      n_media = media.1 n;
      n_rows = marks.1 n;
      n_links = links.1 n;
      n_bytes = bytes.1 n;
    }) in
    let fit : IsFitReceipt r = record {
      request = range.request.uuid;
      source = source.2;
      target = target.2;
      items = things.2;
    } in
    (r, receipt_here row rows things.0 r (record { stand = stand; are = things.1; fit = things.2 }) is fit refl range)

-- of all rows of both tables, in order
pub receipts_there : (receipts : List ReceiptRow) (moved : List MovedRow) → IsAscending IsEarlier receipts
    → IsAscending InTurn moved → AreReceiptsInRange receipts moved → (entered : List Receipt)
    × AreReceipts receipts moved entered
receipts_there [] [] up turn it = ([], record { range = it; rows = refl; things = refl; fit = tt })
receipts_there [] (m ∷ moved) up turn it = absurd (false≢true it.owners.0)
receipts_there (row ∷ left) moved up turn it =
    let b = one_less row left moved up turn it in
    let rest = receipts_there left b.others up.1 (ascending-right InTurn b.own b.others
    (subst (IsAscending InTurn) b.cut turn)) b.rest in
    let first = receipt_there row b.own b.range b.stand in (
      first.0 ∷ rest.0,
      record {
        range = it;
        rows = (λ n. sym first.1.is n ∷ rest.1.rows n);
        things = b.cut ∙ ap (λ l. l ++ b.others) first.1.moved ∙ ap (λ l. moved_rows first.0 ++ l) rest.1.things;
        fit = (first.1.fit, rest.1.fit);
      },
    )
