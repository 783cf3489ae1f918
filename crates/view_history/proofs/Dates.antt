-- The moment of the receipt of a number: by the next row above the number before it, and over all packages.
use Rattle.std.proofs.Math.Seq.{take-suc}
use Rattle.std.proofs.Common.{Ordering, Less, ◌≡◌, ◌+◌, take, length, ◌≢◌, ◌∙◌, ℕ, zero, suc}
use Rattle.std.proofs.Common.{ℤ, pos, negsuc, List}
use Rattle.std.proofs.Common.{[], ◌∷◌, ◌++◌, map, Bool, true, false, cond, Option, Some, None, refl, sym}
use Rattle.std.proofs.Common.{ap, subst}
use Rattle.std.proofs.Common.{inl, inr, arith}
use Rattle.std.specs.Prelude.{◌≤ℤ◌, ◌-◌, ◌≤◌, ◌<◌, ◌⊎◌, bytes_eq, filter, find, flat_map}
use Rattle.std.specs.Prelude.{fold, nat_lt, slice_index}
use Rattle.std.specs.Prelude.{◌==◌, option_map}
use Rattle.std.specs.List.{AllByRecursion, AllZip, list_any}
use Rattle.std.specs.Ordering.{int_cmp, int_eq, is_gt, ordering_reverse}
use Rattle.std.proofs.lemmas.Cmp.{int_cmp_total}
use Rattle.std.proofs.lemmas.Bool.{true≢false}
use Rattle.std.proofs.lemmas.Bool.Decides.{nat_tests}
use Rattle.std.proofs.lemmas.Slice.Eq.{bytes_eq-Decides}
use borrow.Author.Tests.{eqb-true, eq-eqb}
use Rattle.sheet_types.proofs.Basics.{bytes_eq_itself, before-differs, some_same}
use Rattle.sheet_types.proofs.Every.{All-each, All-taken, All-weaker, none_any}
use Rattle.sheet_types.proofs.Found.{found, All-found, not_found}
use Rattle.sheet_types.proofs.Same.{In, In-all, In-filter, In-map, In-of_map, All-In, any_in}
use Rattle.sheet_types.specs.Ordered.{arranged, entry, is_before, put, IsArranged}
use Rattle.sheet_types.specs.World.{Package, receipt_key}
use Rattle.sheet_types.specs.declared.frame.Frame.{Frame}
use Rattle.sheet_types.specs.declared.receipt.Receipt.{Receipt}
use Rattle.package_tables.specs.Calls.{IsLeast}
use Rattle.package_tables.specs.Package.{Tables}
use Rattle.package_tables.specs.Shapes.{receipt_shape}
use Rattle.package_tables.specs.declared.rows.ReceiptRow.{ReceiptRow}
use Rattle.identity_register.specs.Reads.{Says, receipt_row}
use Rattle.identity_register.proofs.Deleting.{pos_same}
use Rattle.identity_register.proofs.Finding.{contained, in_arranged}
use Rattle.identity_register.proofs.OnePackage.{nat_of, to_arranged}
use Rattle.custody.proofs.Homecoming.{above, not_both, receipts_arranged}
use Rattle.custody.proofs.Kept.{of_filter}
use Rattle.custody.proofs.Rows.{same_int}
use Rattle.view_history.specs.Told.{before_of, either, first_found, ledger_of, moment_in, moment_of}

-- ---- tests

refuted : (b : Bool) → (b ≡ true → ⊥) → b ≡ false
refuted true h = absurd (h refl)
refuted false h = refl

abbrev is_after : ℤ → ReceiptRow → Bool
is_after last x = is_gt (int_cmp x.seq last)

-- ---- lists

-- the first of a key is the same in the order of the keys
entry-put : {X : Type 0} (key : X → List ℕ) (k : List ℕ) (x : X) (xs : List X)
    → entry key k (put key x xs) ≡ entry key k (x ∷ xs)
entry-put key k x [] = refl
entry-put {X} key k x (y ∷ ys) = by_order (entry-put key k x ys) (is_before (key y) (key x)) refl
  where
    apart : (b c : Bool) → bytes_eq (key x) k ≡ b → bytes_eq (key y) k ≡ c
        → is_before (key y) (key x) ≡ true
        → cond c (Some y) (cond b (Some x) (entry key k ys)) ≡ cond b (Some x) (cond c (Some y) (entry key k ys))
    apart true true hx hy before =
        let ex : key x ≡ k = (bytes_eq-Decides (key x) k).0 hx in
        let ey : key y ≡ k = (bytes_eq-Decides (key y) k).0 hy in
        let same : bytes_eq (key y) (key x) ≡ true = ap (bytes_eq (key y)) (ex ∙ sym ey)
        ∙ bytes_eq_itself (key y) in
        absurd (true≢false (sym same ∙ before-differs (key y) (key x) before))
    apart true false hx hy before = refl
    apart false true hx hy before = refl
    apart false false hx hy before = refl

    by_order : entry key k (put key x ys) ≡ entry key k (x ∷ ys) → (b : Bool) → is_before (key y) (key x) ≡ b
        → entry key k (cond b (y ∷ put key x ys) (x ∷ y ∷ ys)) ≡ entry key k (x ∷ y ∷ ys)
    by_order so true h = ap (λ o. cond (bytes_eq (key y) k) (Some y) o) so
        ∙ apart (bytes_eq (key x) k) (bytes_eq (key y) k) refl refl h
    by_order so false h = refl

pub entry-arranged : {X : Type 0} (key : X → List ℕ) (k : List ℕ) (xs : List X)
    → entry key k (arranged key xs) ≡ entry key k xs
entry-arranged key k [] = refl
entry-arranged key k (x ∷ xs) = entry-put key k x (arranged key xs)
    ∙ ap (λ o. cond (bytes_eq (key x) k) (Some x) o) (entry-arranged key k xs)

-- of two lists, the first has it or else the second
find-append : {X : Type 0} (t : X → Bool) (xs ys : List X) → find t (xs ++ ys) ≡ either (find t xs) (find t ys)
find-append t [] ys = refl
find-append t (x ∷ xs) ys = elim (t x) as (λ b. cond b (Some x) (find t (xs ++ ys))
    ≡ either (cond b (Some x) (find t xs)) (find t ys)) [ true ↦ refl | false ↦ find-append t xs ys ]

either-map : {X Y : Type 0} (h : X → Y) (a b : Option X) → option_map h (either a b)
    ≡ either (option_map h a) (option_map h b)
either-map h (Some x) b = refl
either-map h None b = refl

either-none : {X : Type 0} (a : Option X) → either a None ≡ a
either-none (Some x) = refl
either-none None = refl

either-next : {X : Type 0} (a b c : Option X) → either (either a b) c ≡ either a (either b c)
either-next (Some x) b c = refl
either-next None b c = refl

-- what comes first stays first
first_of : {X : Type 0} (a : Option X) (os : List (Option X)) → fold either a os ≡ either a (first_found os)
first_of a [] = sym (either-none a)
first_of a (o ∷ os) = first_of (either a o) os ∙ either-next a o (first_found os)
    ∙ ap (either a) (sym (first_of o os))

-- two elements of one key are one
one_of_key : {X : Type 0} (key : X → List ℕ) (a b : X) (xs : List X) → IsArranged key xs → In a xs → In b xs
    → key a ≡ key b → a ≡ b
one_of_key key a b [] order i j e = absurd i
one_of_key {X} key a b (x ∷ xs) order i j e = elim i [
  | inl e' ↦ elim j [
    | inl g ↦ sym e' ∙ g
    | inr later ↦ absurd (apart b (All-In (λ y. is_before (key x) (key y) ≡ true) b xs order.0 later)
        (ap key e' ∙ e))
  ]
  | inr later ↦ elim j [
    | inl g ↦ absurd (apart a (All-In (λ y. is_before (key x) (key y) ≡ true) a xs order.0 later)
        (ap key g ∙ sym e))
    | inr later' ↦ one_of_key key a b xs order.1 later later' e
  ]
]
  where
    apart : (y : X) → is_before (key x) (key y) ≡ true → key x ≡ key y → ⊥
    apart y before same = true≢false (sym (ap (bytes_eq (key x)) (sym same) ∙ bytes_eq_itself (key x))
        ∙ before-differs (key x) (key y) before)

-- ---- numbers

below_so : (a b : ℕ) → a < b → nat_lt a b ≡ true
below_so a b h = grind (arith, nat_tests, h)

-- a number that is not below n is above the one before it
above_before : (n k : ℕ) → n ≤ k → is_gt (int_cmp (pos k) (before_of n)) ≡ true
above_before zero k le = refl
above_before (suc m) k le = above m k (below_so m k (omega (arith, le)))

not_above : (a b : ℕ) → nat_lt a b ≡ true → is_gt (int_cmp (pos a) (pos b)) ≡ false
not_above a b h = ap is_gt (let less : int_cmp (pos a) (pos b) ≡ Less = rw h refl in less)

not_itself : (a : ℤ) → is_gt (int_cmp a a) ≡ false
not_itself a = one (int_cmp a a) (int_cmp_total.antisymm a a)
  where
    one : (o : Ordering) → o ≡ ordering_reverse o → is_gt o ≡ false
    one Less h = refl
    one Ordering.Equal h = refl
    one Ordering.Greater h = absurd cc

greater : (k m : ℕ) → is_gt (int_cmp (pos k) (pos m)) ≡ true → m < k
greater k m e =
    elim (nat_lt k m) as (λ v. nat_lt k m ≡ v → m < k) [
      | true ↦ λ lt. absurd (true≢false (sym e ∙ not_above k m lt))
      | false ↦ λ lt. elim (k == m) as (λ u. (k == m) ≡ u → m < k) [
        | true ↦ λ same. absurd (true≢false (sym e ∙ ap (λ z. is_gt (int_cmp (pos k) (pos z)))
            (sym (eqb-true k m same)) ∙ not_itself (pos k)))
        | false ↦ λ ne. grind (arith, nat_tests, lt, ne)
      ] refl
    ] refl

from_above : (n k : ℕ) → is_gt (int_cmp (pos k) (before_of n)) ≡ true → n ≤ k
from_above zero k e = omega arith
from_above (suc m) k e = let more : m < k = greater k m e in omega (arith, more)

pos_le : (a b : ℕ) → pos a ≤ℤ pos b → a ≤ b
pos_le a b h = elim (nat_lt b a) as (λ v. nat_lt b a ≡ v → a ≤ b)
    [ true ↦ λ e. absurd (not_both b a e h) | false ↦ λ e. grind (arith, nat_tests, e) ] refl

one_number : (k n : ℕ) → k ≡ n → int_eq (pos k) (pos n) ≡ true
one_number k n e = pos_same k n ∙ eq-eqb k n e

-- ---- one package

key_says : (r : Receipt) (n : ℕ) → bytes_eq (receipt_key r) (n ∷ []) ≡ true → r.seq ≡ n
key_says r n e = let same : r.seq ∷ [] ≡ n ∷ [] = (bytes_eq-Decides (receipt_key r) (n ∷ [])).0 e in head_same
    same
  where
    head_same : {a b : ℕ} → a ∷ [] ≡ b ∷ [] → a ≡ b
    head_same e = ap (λ l. first l) e
      where
        first : List ℕ → ℕ
        first [] = 0
        first (x ∷ xs) = x

-- the number before one that is not 0
pub before_more : (n : ℕ) → 1 ≤ n → pos (n - 1) ≡ before_of n
before_more zero le = absurd (omega (arith, le))
before_more (suc m) le = ap pos (let e : suc m - 1 ≡ m = omega arith in e)

module _ (f : Frame) (p : Package) (t : Tables) (says : Says f p t) (n : ℕ) (before seq : ℤ)
    (is_before_it : before ≡ before_of n) (is_it : seq ≡ pos n) where
  -- the row of each receipt is there
  stored : (r : Receipt) → In r p.receipts → In (receipt_row r) t.receipts
  stored r i = subst (In (receipt_row r)) (sym says.receipts)
      (to_arranged receipt_shape.key (receipt_row r) (map receipt_row says.entered)
      (In-map receipt_row r says.entered (in_arranged receipt_key says.entered r (subst (In r) says.kept i))))

  -- each row is that of a receipt
  said : (row : ReceiptRow) → In row t.receipts → (r : Receipt) × In r p.receipts × (receipt_row r ≡ row)
  said row i =
      let it = In-of_map receipt_row row says.entered (in_arranged receipt_shape.key (map receipt_row says.entered)
      row (subst (In row) says.receipts i)) in
      (it.0, subst (In it.0) (sym says.kept) (to_arranged receipt_key it.0 says.entered it.1), it.2)

  passing : (r : Receipt) → In r p.receipts → r.seq ≡ n → In (receipt_row r)
      (filter (is_after before) t.receipts)
  passing r i e =
      let above : is_after before (receipt_row r) ≡ true = ap (λ z. is_gt (int_cmp (pos r.seq) z)) is_before_it
      ∙ above_before n r.seq (omega (arith, e)) in
      In-filter (is_after before) (receipt_row r) t.receipts (stored r i) above

  none_of : ((r : Receipt) → In r p.receipts → r.seq ≡ n → ⊥) → moment_of p.receipts n ≡ None
  none_of never =
      let each : AllByRecursion (λ r. bytes_eq (receipt_key r) (n ∷ []) ≡ false) p.receipts =
      All-weaker (λ r. In r p.receipts) (λ r. bytes_eq (receipt_key r) (n ∷ []) ≡ false)
      (λ r i. refuted (bytes_eq (receipt_key r) (n ∷ [])) (λ e. never r i (key_says r n e))) p.receipts
      (In-all p.receipts) in
      ap (option_map (λ r. r.at)) (not_found (λ r. bytes_eq (receipt_key r) (n ∷ [])) p.receipts
      (none_any (λ r. bytes_eq (receipt_key r) (n ∷ [])) p.receipts each))

  -- no row stands above the number before it
  pub moment_none : IsLeast (λ x. x.seq) (filter (is_after before) t.receipts) None → moment_of p.receipts n ≡ None
  moment_none empty = none_of (λ r i e. subst (In (receipt_row r)) empty (passing r i e))

  one_of : (s : Receipt) → In s p.receipts → s.seq ≡ n → moment_of p.receipts n ≡ Some s.at
  one_of s i e =
      let passes : bytes_eq (receipt_key s) (n ∷ []) ≡ true =
      ap (λ k. bytes_eq (k ∷ []) (n ∷ [])) e ∙ bytes_eq_itself (n ∷ []) in
      let it : (x : Receipt) × (find (λ r. bytes_eq (receipt_key r) (n ∷ [])) p.receipts ≡ Some x) =
      found (λ r. bytes_eq (receipt_key r) (n ∷ [])) p.receipts
      (any_in (λ r. bytes_eq (receipt_key r) (n ∷ [])) s p.receipts i passes) in
      let is : In it.0 p.receipts × (bytes_eq (receipt_key it.0) (n ∷ []) ≡ true) =
      All-found (λ r. In r p.receipts) (λ r. bytes_eq (receipt_key r) (n ∷ [])) it.0 p.receipts it.1
      (In-all p.receipts) in
      let same : it.0 ≡ s = one_of_key receipt_key it.0 s p.receipts (receipts_arranged f p t says) is.0 i
      (ap (λ k. k ∷ []) (key_says it.0 n is.1 ∙ sym e)) in
      ap (option_map (λ r. r.at)) (it.1 ∙ ap Some same)

  -- the least row above the number before it is of the number, or none is
  pub moment_found : (row : ReceiptRow) → IsLeast (λ x. x.seq) (filter (is_after before) t.receipts) (Some row)
      → moment_in row seq ≡ moment_of p.receipts n
  moment_found row least = by_number (int_eq row.seq seq) refl
    where
      there : In row (filter (is_after before) t.receipts)
      there = contained (filter (is_after before) t.receipts) row least.0

      is_above : is_after before row ≡ true
      is_above = All-In (λ x. is_after before x ≡ true) row (filter (is_after before) t.receipts)
          (All-taken (λ x. is_after before x ≡ true) (is_after before) t.receipts
          (All-each _ (λ x e. e) t.receipts))
          there

      it : (r : Receipt) × In r p.receipts × (receipt_row r ≡ row)
      it = said row (of_filter (is_after before) row t.receipts there)

      number : row.seq ≡ pos it.0.seq
      number = sym (ap (λ x. x.seq) it.2)

      low : n ≤ it.0.seq
      low = from_above n it.0.seq (ap (λ z. is_gt (int_cmp (pos it.0.seq) z)) (sym is_before_it)
          ∙ ap (λ z. is_gt (int_cmp z before)) (sym number) ∙ is_above)

      by_number : (b : Bool) → int_eq row.seq seq ≡ b → cond b (Some row.at) None ≡ moment_of p.receipts n
      by_number true e =
          let same : pos it.0.seq ≡ pos n = sym number ∙ same_int row.seq seq e ∙ is_it in
          ap Some (sym (ap (λ x. x.at) it.2)) ∙ sym (one_of it.0 it.1 (nat_of it.0.seq n same))
      by_number false e = sym (none_of (λ r i is.
          let most : row.seq ≤ℤ pos r.seq = All-In (λ y. row.seq ≤ℤ y.seq) (receipt_row r)
          (filter (is_after before) t.receipts) least.1 (passing r i is) in
          let less : it.0.seq ≤ r.seq = pos_le it.0.seq r.seq (subst (λ z. z ≤ℤ pos r.seq) number most) in
          let same : it.0.seq ≡ n = omega (arith, less, low, is) in
          true≢false (sym (ap (λ z. int_eq z seq) number ∙ ap (int_eq (pos it.0.seq)) is_it
          ∙ one_number it.0.seq n same) ∙ e)))

-- ---- all packages

-- what each package answers, the first first, is what all together have
pub moment_among : (n : ℕ) (packages : List Package) (answers : List (Option (List ℕ)))
    → AllZip (λ p x. x ≡ moment_of p.receipts n) packages answers
    → first_found answers ≡ moment_of (ledger_of packages) n
moment_among n packages answers each = in_turn packages answers each
    ∙ sym (ap (option_map (λ r. r.at)) (entry-arranged receipt_key (n ∷ [])
    (flat_map (λ p. p.receipts) packages)))
  where
    in_turn : (ps : List Package) (xs : List (Option (List ℕ)))
        → AllZip (λ p x. x ≡ moment_of p.receipts n) ps xs
        → first_found xs ≡ moment_of (flat_map (λ p. p.receipts) ps) n
    in_turn [] [] each = refl
    in_turn [] (x ∷ xs) each = absurd each
    in_turn (p ∷ ps) [] each = absurd each
    in_turn (p ∷ ps) (x ∷ xs) each =
        first_of x xs ∙ ap (λ o. either o (first_found xs)) each.0
        ∙ ap (either (moment_of p.receipts n)) (in_turn ps xs each.1)
        ∙ sym (ap (option_map (λ r. r.at)) (find-append (λ r. bytes_eq (receipt_key r) (n ∷ [])) p.receipts
        (flat_map (λ q. q.receipts) ps)) ∙ either-map (λ r. r.at) (entry receipt_key (n ∷ []) p.receipts)
        (entry receipt_key (n ∷ []) (flat_map (λ q. q.receipts) ps)))

-- one answer more, of the number at a place
pub map_next : {Y : Type 0} (h : ℕ → Y) (numbers : List ℕ) (i : ℕ) (y : Y) (ys : List Y) → i < length numbers
    → ys ≡ map h (take i numbers) → y ≡ h (slice_index numbers i)
    → ys ++ y ∷ [] ≡ map h (take (i + 1) numbers)
map_next {Y} h numbers i y ys lt so is =
    ap (λ l. l ++ y ∷ []) so ∙ ap (λ z. map h (take i numbers) ++ z ∷ []) is
    ∙ sym (snoc (take i numbers) (slice_index numbers i))
    ∙ ap (map h) (sym (ap (λ k. take k numbers) (let e : i + 1 ≡ suc i = omega arith in e)
    ∙ take-suc numbers i 0 lt))
  where
    snoc : (xs : List ℕ) (x : ℕ) → map h (xs ++ x ∷ []) ≡ map h xs ++ h x ∷ []
    snoc [] x = refl
    snoc (z ∷ zs) x = ap (λ l. h z ∷ l) (snoc zs x)
