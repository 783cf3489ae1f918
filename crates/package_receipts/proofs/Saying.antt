-- Tables whose rows are in their ranges say receipts.
use Rattle.std.proofs.Common.{◌≡◌, ◌∙◌, ℕ, suc, zero, ℤ, pos, negsuc, ◌+◌, ◌-◌, ◌<◌}
use Rattle.std.proofs.Common.{◌≤◌, ◌≤ℤ◌, ◌<ℤ◌, List, [], ◌∷◌}
use Rattle.std.proofs.Common.{◌++◌, map, length, get_or, Bool, true, false, refl, sym, ap, subst, inl, inr, Result}
use Rattle.std.proofs.Common.{Ok, Err, Option, Some, None, IfOk, IfSome, IfNone, IsTrue, is_some, ◌↔◌, arith}
use Rattle.std.specs.Prelude.{flat_map, IsPermutation, bytes_eq, ◌==◌, MatchOption}
use Rattle.std.specs.List.{AllByRecursion, enumerate_from, list_any, IsDistinct}
use Rattle.std.specs.Ordering.{int_cmp, int_eq, on, is_lt, ordering_then, nat_cmp}
use Rattle.std.specs.declared.cmp.Ordering.TheVariants.{Less, Equal, Greater}
use Rattle.std.proofs.lemmas.Bool.{false≢true, true≢false, ltb-true, lt-ltb}
use Rattle.std.proofs.lemmas.Cmp.{int_ranked}
use borrow.Author.Tests.{eqb-true}
use Rattle.std.proofs.lemmas.Int.{ints}
use Rattle.std.proofs.lemmas.Map.Keys.{IsDistinct-IsPermutation}
use Rattle.sheet_types.proofs.Basics.{bytes_eq_swap}
use Rattle.std.proofs.lemmas.List.Sorted.{IsPermutation-sym, IsPermutation-trans, IsPermutation-map, length_permutation}
use Rattle.sqlite_trees.specs.Tree.{IsAscending}
use Rattle.sqlite_trees.proofs.ListLemmas.{all-permutation, IsPermutation-filter}
use Rattle.sqlite.specs.Effect.{Database}
use Rattle.sqlite.specs.State.{State}
use Rattle.store_sql.specs.Transactions.{Looks}
use Rattle.identity_register.proofs.Looking.{Looked, fails}
use Rattle.sheet_types.specs.Ordered.{arranged, is_before, IsArranged}
use Rattle.sheet_types.specs.World.{receipt_key}
use Rattle.sheet_types.specs.declared.receipt.Moved.{Moved}
use Rattle.sheet_types.specs.declared.receipt.Receipt.{Receipt}
use Rattle.sheet_types.proofs.Distinct.{counts_distinct}
use Rattle.sheet_types.proofs.Every.{All-weaker, All-append, All-of_map}
use Rattle.sheet_types.proofs.Order.{counts_arranged, before_numbers}
use Rattle.sheet_types.proofs.Same.{any_at, any_in, same_list}
use Rattle.package_tables.proofs.Reading.{arranged_permutation}
use Rattle.package_tables.specs.Calls.{Answers}
use Rattle.package_tables.specs.Package.{Tables, tables_of}
use Rattle.package_tables.specs.Shape.{stored_rows}
use Rattle.package_tables.specs.Shapes.{receipt_shape, moved_shape, number_key}
use Rattle.package_tables.specs.declared.rows.MovedRow.{MovedRow}
use Rattle.package_tables.specs.declared.rows.ReceiptRow.{ReceiptRow}
use Rattle.identity_register.specs.Reads.{receipt_row, moved_row, moved_rows}
use Rattle.identity_register.proofs.Finding.{moved, in_arranged}
use Rattle.identity_register.proofs.OnePackage.{to_arranged, distinct_arranged}
use Rattle.package_receipts.specs.Ranges.{IsMovedInRange, IsReceiptInRange, AreReceiptsInRange, HavePlaces}
use Rattle.package_receipts.specs.Ranges.{moved_under, places}
use Rattle.package_receipts.specs.Read.{IsEarlier, InTurn, AreReadAs, AreSaid}
use Rattle.package_receipts.proofs.Ranges.{seq_counted}

-- ---- arranged lists

apart : {X : Type 0} (key : X → List ℕ) (xs : List X) → IsArranged key xs → IsDistinct bytes_eq (map key xs)
apart key xs order = counts_distinct key xs (λ k. counts_arranged key k xs order)

-- the arranged list of some elements is that of the same in order
pub arranged_same : {X : Type 0} (key : X → List ℕ) (raw found : List X) → IsPermutation (arranged key raw) found
    → IsArranged key found → arranged key raw ≡ arranged key found
arranged_same key raw found same order =
    let whole = IsPermutation-trans raw (arranged key raw) found (arranged_permutation key raw) same in
    let back = IsPermutation-sym raw found whole in
    same_list key (arranged key raw) (arranged key found) (distinct_arranged key raw
    (IsDistinct-IsPermutation bytes_eq bytes_eq_swap (map key found) (map key raw)
    (IsPermutation-map key found raw back) (apart key found order)))
    (distinct_arranged key found (apart key found order))
    (λ x i. to_arranged key x found (moved x (arranged key raw) found same i))
    (λ x i. moved x found (arranged key raw) (IsPermutation-sym (arranged key raw) found same)
    (in_arranged key found x i))

pub arranged_already : {X : Type 0} (key : X → List ℕ) (xs : List X) → IsArranged key xs
    → arranged key xs ≡ xs
arranged_already key xs order = same_list key (arranged key xs) xs (distinct_arranged key xs (apart key xs order))
    order (λ x i. in_arranged key xs x i) (λ x i. to_arranged key x xs i)

arranged_append : {X : Type 0} (key : X → List ℕ) (xs ys : List X) → IsArranged key xs → IsArranged key ys
    → AllByRecursion (λ x. AllByRecursion (λ y. is_before (key x) (key y) ≡ true) ys) xs
    → IsArranged key (xs ++ ys)
arranged_append key [] ys h g across = g
arranged_append key (x ∷ xs) ys h g across = (
  All-append (λ y. is_before (key x) (key y) ≡ true) xs ys h.0 across.0,
  arranged_append key xs ys h.1 g across.1,
)

arranged_of_map : {X Y : Type 0} (key : Y → List ℕ) (f : X → Y) (xs : List X) → IsArranged key (map f xs)
    → IsArranged (λ x. key (f x)) xs
arranged_of_map key f [] h = tt
arranged_of_map key f (x ∷ xs) h = (
  All-of_map (λ y. is_before (key (f x)) (key y) ≡ true) f xs h.0,
  arranged_of_map
      key f xs h.1,
)

-- ---- numbers as keys

number_before : (a b : ℤ) → pos 0 ≤ℤ a → a <ℤ b → is_before (number_key a) (number_key b) ≡ true
number_before (pos m) (pos n) low less = before_numbers m n ∙ lt-ltb m n (omega (arith, ints, less))
number_before (pos m) (negsuc n) low less = absurd (omega (arith, ints, less))
number_before (negsuc m) b low less = absurd (omega (arith, ints, low))

pub rows_keyed : (rows : List ReceiptRow) → IsAscending IsEarlier rows → AllByRecursion IsReceiptInRange rows
    → IsArranged receipt_shape.key rows
rows_keyed [] up range = tt
rows_keyed (r ∷ rs) up range = (
  All-weaker (IsEarlier r) (λ y. is_before (number_key r.seq) (number_key y.seq) ≡ true)
      (λ y less. number_before r.seq y.seq (seq_counted r.seq range.0.seq) less) rs up.0,
  rows_keyed rs up.1 range.1,
)

first_before : (a b c d : ℕ) → a < c → is_before (a ∷ b ∷ []) (c ∷ d ∷ []) ≡ true
first_before a b c d less = rw (lt-ltb a c less) refl

next_before : (s a b : ℕ) → a < b → is_before (s ∷ a ∷ []) (s ∷ b ∷ []) ≡ true
next_before s a b less = rw (nat_cmp_itself s, lt-ltb a b less) refl
  where
    nat_cmp_itself : (n : ℕ) → nat_cmp n n ≡ Equal
    nat_cmp_itself n = grind arith

-- ---- the rows of what was moved

rows_under : (s n : ℕ) (things : List Moved) → List MovedRow
rows_under s n things = map (λ m. moved_row s m.0 m.1) (enumerate_from n things)

later_places : (s n k : ℕ) (things : List Moved) → k < n → AllByRecursion
    (λ y. is_before (s ∷ k ∷ []) (moved_shape.key y) ≡ true) (rows_under s n things)
unfolding rows_under
later_places s n k [] less = tt
later_places s n k (x ∷ xs) less = (next_before s k n less, later_places s (n + 1) k xs (omega (arith, less)))

places_keyed : (s n : ℕ) (things : List Moved) → IsArranged moved_shape.key (rows_under s n things)
unfolding rows_under
places_keyed s n [] = tt
places_keyed s n (x ∷ xs) = (later_places s (n + 1) n xs (omega arith), places_keyed s (n + 1) xs)

higher_rows : (s k t n : ℕ) (things : List Moved) → s < t → AllByRecursion
    (λ y. is_before (s ∷ k ∷ []) (moved_shape.key y) ≡ true) (rows_under t n things)
unfolding rows_under
higher_rows s k t n [] less = tt
higher_rows s k t n (x ∷ xs) less = (first_before s k t n less, higher_rows s k t (n + 1) xs less)

later_rows : (s k : ℕ) (rs : List Receipt) → AllByRecursion (λ r. s < r.seq) rs
    → AllByRecursion (λ y. is_before (s ∷ k ∷ []) (moved_shape.key y) ≡ true) (flat_map moved_rows rs)
unfolding rows_under
later_rows s k [] up = tt
later_rows s k (r ∷ rs) up = All-append (λ y. is_before (s ∷ k ∷ []) (moved_shape.key y) ≡ true) (moved_rows r)
    (flat_map moved_rows rs) (higher_rows s k r.seq 0 r.items up.0) (later_rows s k rs up.1)

across : (s n : ℕ) (things : List Moved) (rs : List Receipt) → AllByRecursion (λ r. s < r.seq) rs
    → AllByRecursion (λ x. AllByRecursion (λ y. is_before (moved_shape.key x) (moved_shape.key y) ≡ true)
    (flat_map moved_rows rs)) (rows_under s n things)
unfolding rows_under
across s n [] rs up = tt
across s n (x ∷ xs) rs up = (later_rows s n rs up, across s (n + 1) xs rs up)

pub things_keyed : (rs : List Receipt) → IsArranged receipt_key rs
    → IsArranged moved_shape.key (flat_map moved_rows rs)
unfolding rows_under
things_keyed [] h = tt
things_keyed (r ∷ rs) h =
    let up : AllByRecursion (λ x. r.seq < x.seq) rs = All-weaker
    (λ y. is_before (receipt_key r) (receipt_key y) ≡ true) (λ x. r.seq < x.seq)
    (λ y e. ltb-true r.seq y.seq (sym (before_numbers r.seq y.seq) ∙ e)) rs h.0 in
    arranged_append moved_shape.key (moved_rows r) (flat_map moved_rows rs) (places_keyed r.seq 0 r.items)
    (things_keyed rs h.1) (across r.seq 0 r.items rs up)

-- ---- the ranges do not look at an order

same_places : {X : Type 0} (n : ℕ) (xs ys : List X) → length xs ≡ length ys
    → map (λ x. pos x.0) (enumerate_from n xs) ≡ map (λ x. pos x.0) (enumerate_from n ys)
same_places n [] [] e = refl
same_places n [] (y ∷ ys) e = absurd (omega (arith, e))
same_places n (x ∷ xs) [] e = absurd (omega (arith, e))
same_places n (x ∷ xs) (y ∷ ys) e = ap (λ l. pos n ∷ l) (same_places (n + 1) xs ys (omega (arith, e)))

moved_places : (xs ys : List MovedRow) → IsPermutation xs ys → HavePlaces xs → HavePlaces ys
moved_places xs ys same have =
    let long : length xs ≡ length ys = sym (length_permutation xs ys same) in
    IsPermutation-trans (map (λ m. m.position) ys) (map (λ m. m.position) xs) (places ys)
    (IsPermutation-map (λ m. m.position) ys xs (IsPermutation-sym xs ys same))
    (subst (IsPermutation (map (λ m. m.position) xs)) (same_places 0 xs ys long) have)

any_moved : {X : Type 0} (p : X → Bool) (xs ys : List X) → IsPermutation xs ys → list_any p xs ≡ true
    → list_any p ys ≡ true
any_moved p xs ys same h = let it = any_at p xs h in any_in p it.0 ys (moved it.0 xs ys same it.1) it.2

pub range_moved : (receipts found : List ReceiptRow) (things rows : List MovedRow) → IsPermutation receipts found
    → IsPermutation things rows → AreReceiptsInRange receipts things → AreReceiptsInRange found rows
range_moved receipts found things rows same other it = record {
  rows = all-permutation IsReceiptInRange receipts found same it.rows;
  things = all-permutation IsMovedInRange things rows other it.things;
  positions = all-permutation (λ r. HavePlaces (moved_under r.seq rows)) receipts found same
      (All-weaker (λ r. HavePlaces (moved_under r.seq things)) (λ r. HavePlaces (moved_under r.seq rows))
      (λ r have. moved_places (moved_under r.seq things) (moved_under r.seq rows)
      (IsPermutation-filter (λ m. int_eq m.seq r.seq) things rows other) have) receipts it.positions);
  owners = all-permutation (λ m. list_any (λ r. int_eq r.seq m.seq) found ≡ true) things rows other
      (All-weaker (λ m. list_any (λ r. int_eq r.seq m.seq) receipts ≡ true)
      (λ m. list_any (λ r. int_eq r.seq m.seq) found ≡ true)
      (λ m h. any_moved (λ r. int_eq r.seq m.seq) receipts found same h) things it.owners);
}

-- ---- what the tables say

pub said : (db : Database) (found : List ReceiptRow) (rows : List MovedRow) (entered : List Receipt)
    → IsPermutation (tables_of db).receipts found → IsPermutation (tables_of db).moved rows
    → AreReadAs found rows entered → AreSaid (tables_of db) entered
said db found rows entered same other it =
    let t = tables_of db in
    let sorted = IsPermutation-trans t.moved rows it.sorted other it.same in
    let keyed : IsArranged receipt_shape.key (map receipt_row entered) =
    subst (IsArranged receipt_shape.key) it.are.rows (rows_keyed found it.rising it.are.range.rows) in
    let order : IsArranged receipt_key entered = arranged_of_map receipt_shape.key receipt_row entered keyed in
    record {
      range = range_moved found t.receipts it.sorted t.moved (IsPermutation-sym t.receipts found same)
          (IsPermutation-sym t.moved it.sorted sorted) it.are.range;
      order = order;
      says = record {
        distinct_receipts = apart receipt_key entered order;
        fit = it.are.fit;
        kept = sym (arranged_already receipt_key entered order);
        receipts = arranged_same receipt_shape.key (map receipt_shape.typed (stored_rows receipt_shape db))
            (map receipt_row entered) (subst (IsPermutation t.receipts) it.are.rows same) keyed;
        moved = arranged_same moved_shape.key (map moved_shape.typed (stored_rows moved_shape db))
            (flat_map moved_rows entered) (subst (IsPermutation t.moved) it.are.things sorted)
            (things_keyed entered order);
      };
    }

-- ---- rows in order

-- the numbers of the first so many receipts rise from each to the next
pub Risen : ℕ → List ReceiptRow → Type 0
Risen n rows = (k : ℕ) (d : ReceiptRow) → k + 1 < n → k + 1 < length rows
    → (get_or rows k d).seq <ℤ (get_or rows (k + 1) d).seq

pub one_risen : (rows : List ReceiptRow) → Risen 1 rows
unfolding Risen
one_risen rows k d less long = absurd (omega (arith, less))

pub more_risen : (n : ℕ) (rows : List ReceiptRow) (a b : ReceiptRow) → 1 ≤ n → a ≡ get_or rows (n - 1) a
    → b ≡ get_or rows n b → a.seq <ℤ b.seq → n < length rows → Risen n rows → Risen (n + 1) rows
unfolding Risen
more_risen n rows a b some first next less long so k d below inside =
    elim (k + 1 == n) as (λ v. (k + 1 == n) ≡ v → (get_or rows k d).seq <ℤ (get_or rows (k + 1) d).seq) [
      | true ↦ λ e.
          let at : k + 1 ≡ n = eqb-true (k + 1) n e in
          let before : k ≡ n - 1 = omega (arith, at) in
          let here : get_or rows k d ≡ a = ap (λ i. get_or rows i d) before
          ∙ any_default rows (n - 1) d a (omega (arith, long)) ∙ sym first in
          let there : get_or rows (k + 1) d ≡ b = ap (λ i. get_or rows i d) at ∙ any_default rows n d b long
          ∙ sym next in
          subst (λ x. x.seq <ℤ (get_or rows (k + 1) d).seq) (sym here)
          (subst (λ x. a.seq <ℤ x.seq) (sym there) less)
      | false ↦ λ e. so k d (grind (arith, e, below)) inside
    ] refl
  where
    any_default : (l : List ReceiptRow) (i : ℕ) (d e : ReceiptRow) → i < length l → get_or l i d ≡ get_or l i e
    any_default [] i d e less = absurd (omega (arith, less))
    any_default (x ∷ xs) zero d e less = refl
    any_default (x ∷ xs) (suc i) d e less = any_default xs i d e (omega (arith, less))

-- a relation that holds from each to the next, and that goes on, holds of each and all later ones
ascending_from : {X : Type 0} (R : X → X → Type 0) → ((a b c : X) → R a b → R b c → R a c) → (xs : List X)
    → ((k : ℕ) (d : X) → k + 1 < length xs → R (get_or xs k d) (get_or xs (k + 1) d)) → IsAscending R xs
ascending_from R on [] h = tt
ascending_from R on (x ∷ []) h = (tt, tt)
ascending_from {X} R on (x ∷ y ∷ ys) h =
    let rest = ascending_from R on (y ∷ ys) (λ k d less. let e : suc k + 1 ≡ suc (k + 1) =
    omega arith in subst (λ n. R (get_or (x ∷ y ∷ ys) (suc k) d) (get_or (x ∷ y ∷ ys) n d)) e
    (h (suc k) d (omega (arith, less)))) in
    let first : R x y = h 0 x (omega arith) in
    ((first, All-weaker (R y) (R x) (λ z later. on x y z first later) ys rest.0), rest)

pub all_risen : (n : ℕ) (rows : List ReceiptRow) → length rows ≤ n → Risen n rows → IsAscending IsEarlier rows
unfolding Risen
all_risen n rows long so = ascending_from IsEarlier (λ a b c h g. omega (arith, ints, h, g)) rows
    (λ k d less. so k d (omega (arith, long, less)) less)

-- what a sort by number and place leaves
turned_at : (a b : MovedRow) → is_lt (ordering_then (int_cmp b.seq a.seq) (int_cmp b.position a.position)) ≡ false
    → InTurn a b
turned_at a b h = elim (int_cmp b.seq a.seq) as (λ o. o ≡ int_cmp b.seq a.seq
    → is_lt (ordering_then o (int_cmp b.position a.position)) ≡ false → InTurn a b) [
      | Less ↦ λ e g. absurd (true≢false g)
      | Equal ↦ λ e g. inr (
        sym (int_ranked b.seq a.seq Equal e),
        elim (int_cmp b.position a.position) as (λ o. o ≡ int_cmp b.position a.position → is_lt o ≡ false
            → a.position ≤ℤ b.position) [
              | Less ↦ λ f w. absurd (true≢false w)
              | Equal ↦ λ f w. let same = int_ranked b.position a.position Equal f in omega (arith, ints, same)
              | Greater ↦ λ f w. let up = int_ranked b.position a.position Greater f in omega (arith, ints, up)
            ] refl g,
      )
      | Greater ↦ λ e g. inl (int_ranked b.seq a.seq Greater e)
    ] refl h

turned_on : (a b c : MovedRow) → InTurn a b → InTurn b c → InTurn a c
turned_on a b c h g = elim h [
  | inl up ↦ elim g [
    | inl more ↦ inl (omega (arith, ints, up, more))
    | inr same ↦ let e : b.seq ≡ c.seq =
        same.0 in inl (omega (arith, ints, up, e))
  ]
  | inr same ↦ elim g [
    | inl more ↦ let e : a.seq ≡ b.seq = same.0 in inl (omega (arith, ints, e, more))
    | inr later ↦ let p : a.position ≤ℤ b.position = same.1 in let q : b.position ≤ℤ c.position =
        later.1 in inr (same.0 ∙ later.0, omega (arith, ints, p, q))
  ]
]

pub turned : (rows : List MovedRow) → ((k : ℕ) (d : MovedRow) → k + 1 < length rows
    → is_lt (ordering_then (int_cmp (get_or rows (k + 1) d).seq (get_or rows k d).seq)
    (int_cmp (get_or rows (k + 1) d).position (get_or rows k d).position)) ≡ false) → IsAscending InTurn rows
turned rows sorted = ascending_from InTurn turned_on rows (λ k d less. turned_at (get_or rows k d)
    (get_or rows (k + 1) d) (sorted k d less))

-- ---- the calls

pub none_in : {X E : Type 0} (P Q : Type 0) (r : Result (Option X) E) → IfOk r (λ found. IfNone found (P → ⊥))
    → (Q → P) → IfOk r (λ found. IfNone found (Q → ⊥))
none_in P Q (Ok None) none so = λ q. none (so q)
none_in P Q (Ok (Some x)) none so = tt
none_in P Q (Err e) none so = tt

-- what was looked at answers of the tables of a database, whose lists are in order
pub tells_of : {X E : Type 0} {Fact : Tables → Type 0} (Answer : Tables → X → Type 0) {old new : State}
    (r : Result X E) → Looked Fact old new
    → ((x : X) → r ≡ Ok x → (db : Database) → Fact (tables_of db) → Answer (tables_of db) x)
    → Looks {X = X} {E = E} (Answers Answer) old new r
tells_of Answer {old} (Ok x) it says = record {
  rests = it.stays.rests;
  done = λ clean. let d = it.told clean in (d.0, (d.1, λ formed. says x refl old.now (d.2 formed)));
  was_open = it.stays.was_open;
  holds = it.stays.holds;
  survives = it.stays.survives;
}
tells_of Answer (Err e) it says = fails (Err e) refl it.stays

pub answered : {V : Type 0} (db : Database) (found : List ReceiptRow) (rows : List MovedRow)
    (items : V → List Receipt) (answer : Option V) → IsPermutation (tables_of db).receipts found
    → IsPermutation (tables_of db).moved rows
    → IfSome answer (λ v. AreReadAs found rows (items v)) → IfNone answer (AreReceiptsInRange found rows → ⊥)
    → MatchOption answer (AreReceiptsInRange (tables_of db).receipts (tables_of db).moved → ⊥)
    (λ v. AreSaid (tables_of db) (items v))
answered db found rows items None same other some none = λ h. none
    (range_moved (tables_of db).receipts found (tables_of db).moved rows same other h)
answered db found rows items (Some v) same other some none = said db found rows (items v) same other some

pub is_there : {V : Type 0} (P : Type 0) (Q : V → Type 0) (o : Option V) → ((v : V) → Q v → P)
    → MatchOption o (P → ⊥) Q → IsTrue (is_some o) ↔ P
is_there P Q None so h = ((λ e. absurd (false≢true e)), (λ p. absurd (h p)))
is_there P Q (Some v) so h = ((λ _. so v h), (λ _. refl))
