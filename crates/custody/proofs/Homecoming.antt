-- The receipts of a package, read one number after the other, are all that it keeps; and a package that takes them in
-- has those of both.
use Rattle.std.proofs.Common.{◌≡◌, ℕ, ℤ, pos, negsuc, List, [], ◌∷◌, ◌++◌, map, Bool, true, false}
use Rattle.std.proofs.Common.{Some, None, Result}
use Rattle.std.proofs.Common.{Ok, refl, sym, ap, subst, ◌∙◌, inl, inr, arith, Ordering, Less}
use Rattle.std.specs.Prelude.{◌≤ℤ◌, ◌<ℤ◌, bytes_eq, filter, nat_lt}
use Rattle.std.specs.List.{AllByRecursion}
use Rattle.std.specs.Ordering.{int_cmp, is_gt, ordering_reverse, MatchOrdering}
use Rattle.std.specs.Cmp.{int_ranks}
use Rattle.std.specs.Int.Signed.{<ℤ_irrefl, <ℤ-≤ℤ_trans}
use Rattle.std.proofs.lemmas.Bool.{true≢false}
use Rattle.std.proofs.lemmas.Cmp.{int_cmp_total}
use Rattle.std.proofs.lemmas.List.{append-nil}
use Rattle.sqlite.specs.Effect.{Database}
use Rattle.sqlite.specs.State.{State, HasCleanDisk}
use Rattle.store_sql.specs.Staying.{Stays}
use Rattle.store_sql.specs.Transactions.{Steps}
use Rattle.store_sql.proofs.Transactions.{steps_answer, steps_then, steps_weaker}
use Rattle.sheet_types.specs.Ordered.{arranged, put, has, is_before, IsArranged}
use Rattle.sheet_types.specs.World.{Package, receipt_key, with_receipt}
use Rattle.sheet_types.specs.declared.frame.Frame.{Frame}
use Rattle.sheet_types.specs.declared.receipt.Receipt.{Receipt}
use Rattle.sheet_types.proofs.Arranging.{arranged-insert}
use Rattle.sheet_types.proofs.Basics.{before-differs, before_not_after}
use Rattle.sheet_types.proofs.Every.{All-weaker, All-each, All-append, All-taken, none_pass, none_any}
use Rattle.sheet_types.proofs.Order.{before_numbers, list_any-arranged}
use Rattle.sheet_types.proofs.Same.{In, In-filter, In-map, In-of_map, In-of_append, All-In}
use Rattle.package_tables.specs.Calls.{OnTables, IsLeast}
use Rattle.package_tables.specs.Changes.{Adds}
use Rattle.package_tables.specs.Listed.{receipts}
use Rattle.package_tables.specs.Package.{Tables, tables_of}
use Rattle.package_tables.specs.Shapes.{receipt_shape}
use Rattle.package_tables.specs.declared.rows.ReceiptRow.{ReceiptRow}
use Rattle.identity_register.specs.LocalNumbers.{KeepsNumbers}
use Rattle.identity_register.specs.Reads.{Says, Reads, IsFitReceipt, receipt_row}
use Rattle.identity_register.proofs.Finding.{contained, in_arranged}
use Rattle.identity_register.proofs.KeptNumbers.{kept_same, kept_then}
use Rattle.identity_register.proofs.Looking.{Looked}
use Rattle.identity_register.proofs.OnePackage.{to_arranged, distinct_arranged}
use Rattle.sheet_types.proofs.Same.{Contains-In}
use Rattle.custody.specs.Homing.{AreApart, BringsThings, BringsReceipt, BringsHome, FromClean}
use Rattle.custody.proofs.Entering.{comes_in}
use Rattle.custody.proofs.Kept.{of_filter}
use Rattle.custody.proofs.Rows.{of_kept, found_in, snoc_append}

-- ---- one receipt

-- its row comes in, and then what it moved
pub receipt_brought : {E F : Type 0} (row : ReceiptRow) (s0 s1 : State) {t0 t1 t2 : State} {x : Unit {0}}
    {q : Result (Unit {0}) F} → Steps {X = Unit {0}} {E = E} (λ _. OnTables (Adds receipts row)) t0 t1 (Ok x)
    → Steps (λ _. FromClean s1 (BringsThings row.seq s0.now)) t1 t2 q
    → Steps (λ _. FromClean s1 (BringsReceipt row s0.now)) t0 t2 q
receipt_brought row s0 s1 {t0} {t1} {t2} head things = steps_weaker (λ _. FromClean s1 (BringsReceipt row s0.now))
    (λ _ chain. so chain) (steps_then head things)
  where
    so : (mid : Database) × OnTables (Adds receipts row) t0.now mid
        × FromClean s1 (BringsThings row.seq s0.now) mid t2.now
        → FromClean s1 (BringsReceipt row s0.now) t0.now t2.now
    so it clean f from reads r there is g p reads_p free =
        let fit = All-In IsFitReceipt r reads.says.entered reads.says.fit
        (of_kept f from (tables_of s0.now) reads.says r there) in
        let came = comes_in r t0.now it.0 t2.now (subst (λ y. OnTables (Adds receipts y) t0.now it.0) (sym is) it.1)
        (it.2 clean f from reads r there (ap (λ y. y.seq) is)) g p reads_p free fit in
        (came.0, came.1)

-- ---- the order of numbers

below : (a b : ℕ) → nat_lt a b ≡ true → int_cmp (pos a) (pos b) ≡ Less
below a b h = rw h refl

not_above : (a b : ℕ) → nat_lt a b ≡ true → is_gt (int_cmp (pos a) (pos b)) ≡ false
not_above a b h = ap is_gt (below a b h)

pub above : (a b : ℕ) → nat_lt a b ≡ true → is_gt (int_cmp (pos b) (pos a)) ≡ true
above a b h = ap is_gt (int_cmp_total.antisymm (pos b) (pos a) ∙ ap ordering_reverse (below a b h))

pub not_both : (a b : ℕ) → nat_lt a b ≡ true → pos b ≤ℤ pos a → ⊥
not_both a b h le =
    let less : pos a <ℤ pos b = subst (λ o. MatchOrdering o (pos a <ℤ pos b) (pos a ≡ pos b) (pos b <ℤ pos a))
    (below a b h) (int_ranks (pos a) (pos b)) in
    <ℤ_irrefl (<ℤ-≤ℤ_trans less le)

not_itself : (a : ℤ) → is_gt (int_cmp a a) ≡ false
not_itself a = one (int_cmp a a) (int_cmp_total.antisymm a a)
  where
    one : (o : Ordering) → o ≡ ordering_reverse o → is_gt o ≡ false
    one Less h = refl
    one Ordering.Equal h = refl
    one Ordering.Greater h = absurd cc

pub number_before : (a b : Receipt) → is_before (receipt_key a) (receipt_key b) ≡ true
    → nat_lt a.seq b.seq ≡ true
number_before a b h = sym (before_numbers a.seq b.seq) ∙ h

-- ---- arranged lists

module _ {X : Type 0} (key : X → List ℕ) where
  -- what is arranged stays as it is
  pub arranged_again : (xs : List X) → IsArranged key xs → arranged key xs ≡ xs
  arranged_again [] h = refl
  arranged_again (x ∷ []) h = refl
  arranged_again (x ∷ y ∷ ys) h = ap (put key x) (arranged_again (y ∷ ys) h.1)
      ∙ rw (before_not_after (key x) (key y) h.0.0) refl

  earlier : (xs : List X) (y : X) (ys : List X) → IsArranged key (xs ++ y ∷ ys)
      → AllByRecursion (λ x. is_before (key x) (key y) ≡ true) xs
  earlier [] y ys h = tt
  earlier (x ∷ xs) y ys h = (middle xs h.0, earlier xs y ys h.1)
    where
      middle : (zs : List X) → AllByRecursion (λ z. is_before (key x) (key z) ≡ true) (zs ++ y ∷ ys)
          → is_before (key x) (key y) ≡ true
      middle [] all = all.0
      middle (z ∷ zs) all = middle zs all.1

  later : (xs ys : List X) → IsArranged key (xs ++ ys) → IsArranged key ys
  later [] ys h = h
  later (x ∷ xs) ys h = later xs ys h.1

pub receipts_arranged : (f : Frame) (p : Package) (t : Tables) (says : Says f p t) → IsArranged receipt_key p.receipts
receipts_arranged f p t says = subst (IsArranged receipt_key) (sym says.kept)
    (distinct_arranged receipt_key says.entered says.distinct_receipts)

-- ---- the next receipt

abbrev pub is_after : ℤ → ReceiptRow → Bool
is_after last x = is_gt (int_cmp x.seq last)

-- the receipts with numbers up to this one, and those after it
pub record AreParted (last : ℤ) (all done rest : List Receipt) : Type 0 where
  pub whole : all ≡ done ++ rest
  pub before : AllByRecursion (λ r. is_after last (receipt_row r) ≡ false) done
  pub behind : AllByRecursion (λ r. is_after last (receipt_row r) ≡ true) rest

module _ (f : Frame) (p : Package) (t : Tables) (says : Says f p t) (last : ℤ) (done rest : List Receipt)
    (parted : AreParted last p.receipts done rest) where
  row_stored : (r : Receipt) → In r p.receipts → In (receipt_row r) t.receipts
  row_stored r i =
      subst (In (receipt_row r)) (sym says.receipts) (to_arranged receipt_shape.key (receipt_row r)
      (map receipt_row says.entered) (In-map receipt_row r says.entered
      (in_arranged receipt_key says.entered r (subst (In r) says.kept i))))

  in_rest : (r : Receipt) → In r rest → In r p.receipts
  in_rest r i = subst (In r) (sym parted.whole) (behind_all done)
    where
      behind_all : (xs : List Receipt) → In r (xs ++ rest)
      behind_all [] = i
      behind_all (x ∷ xs) = inr (behind_all xs)

  passes_of : (r : Receipt) → In r rest → In (receipt_row r) (filter (is_after last) t.receipts)
  passes_of r i = In-filter (is_after last) (receipt_row r) t.receipts (row_stored r (in_rest r i))
      (All-In (λ e. is_after last (receipt_row e) ≡ true) r rest parted.behind i)

  -- the row that is found is that of the first of the rest
  pub next_there : (row : ReceiptRow) → IsLeast (λ x. x.seq) (filter (is_after last) t.receipts) (Some row)
      → (h : Receipt) × (tl : List Receipt) × (rest ≡ h ∷ tl) × (receipt_row h ≡ row)
  next_there row found = first rest (λ r i. i) (found_there)
    where
      there : In row (filter (is_after last) t.receipts)
      there = contained (filter (is_after last) t.receipts) row found.0

      passed : is_after last row ≡ true
      passed = All-In (λ x. is_after last x ≡ true) row (filter (is_after last) t.receipts)
          (All-taken (λ x. is_after last x ≡ true) (is_after last) t.receipts (All-each _ (λ x e. e) t.receipts))
          there

      found_there : (e : Receipt) × In e rest × (receipt_row e ≡ row)
      found_there =
          let stored : In row t.receipts = of_filter (is_after last) row t.receipts there in
          let it = In-of_map receipt_row row says.entered (in_arranged receipt_shape.key
          (map receipt_row says.entered) row (subst (In row) says.receipts stored)) in
          let kept : In it.0 (done ++ rest) = subst (In it.0) parted.whole
          (subst (In it.0) (sym says.kept) (to_arranged receipt_key it.0 says.entered it.1)) in
          elim (In-of_append it.0 done rest kept) [
            | inl i ↦ absurd (true≢false (sym (ap (is_after last) it.2 ∙ passed)
                ∙ All-In (λ e. is_after last (receipt_row e) ≡ false) it.0 done parted.before i))
            | inr i ↦ (it.0, i, it.2)
          ]

      first : (xs : List Receipt) → ((r : Receipt) → In r xs → In r rest) → (e : Receipt) × In e rest
          × (receipt_row e ≡ row) → (h : Receipt) × (tl : List Receipt) × (rest ≡ h ∷ tl)
          × (receipt_row h ≡ row)
      first xs within (e, i, is) = one rest refl
        where
          one : (ys : List Receipt) → rest ≡ ys → (h : Receipt) × (tl : List Receipt) × (rest ≡ h ∷ tl)
              × (receipt_row h ≡ row)
          one [] same = absurd (subst (In e) same i)
          one (h ∷ tl) same = elim (subst (In e) same i) [
            | inl head ↦ (h, tl, same, ap receipt_row head ∙ is)
            | inr tail ↦
                let order : IsArranged receipt_key (h ∷ tl) =
                later receipt_key done (h ∷ tl) (subst (IsArranged receipt_key)
                (parted.whole ∙ ap (λ l. done ++ l) same) (receipts_arranged f p t says)) in
                let less = number_before h e (All-In (λ y. is_before (receipt_key h) (receipt_key y) ≡ true) e tl
                order.0 tail) in
                let least = All-In (λ y. row.seq ≤ℤ y.seq) (receipt_row h) (filter (is_after last) t.receipts)
                found.1
                (passes_of h (subst (In h) (sym same) (inl refl))) in
                absurd (not_both h.seq e.seq less (subst (λ n. n ≤ℤ pos h.seq) (sym (ap (λ x. x.seq) is)) least))
          ]

  -- where no row is found, there is no rest
  pub no_next : IsLeast (λ x. x.seq) (filter (is_after last) t.receipts) None → rest ≡ []
  no_next none = one rest refl
    where
      one : (xs : List Receipt) → rest ≡ xs → rest ≡ []
      one [] e = e
      one (h ∷ tl) e = absurd (subst (In (receipt_row h)) none (passes_of h (subst (In h) (sym e) (inl refl))))

  -- once the first of the rest is done
  pub parted_more : (row : ReceiptRow) (h : Receipt) (tl : List Receipt) → rest ≡ h ∷ tl → receipt_row h ≡ row
      → AreParted row.seq p.receipts (done ++ h ∷ []) tl
  parted_more row h tl same is =
      let all : p.receipts ≡ done ++ h ∷ tl = parted.whole ∙ ap (λ l. done ++ l) same in
      let order = subst (IsArranged receipt_key) all (receipts_arranged f p t says) in
      let ahead = earlier receipt_key done h tl order in
      let number : pos h.seq ≡ row.seq = ap (λ x. x.seq) is in
      subst (λ n. AreParted n p.receipts (done ++ h ∷ []) tl) number (record {
        whole = all ∙ snoc_append done h tl;
        before = All-append (λ r. is_after (pos h.seq) (receipt_row r) ≡ false) done (h ∷ [])
            (All-weaker _ _ (λ d b. not_above d.seq h.seq (number_before d h b)) done ahead)
            (not_itself (pos h.seq), tt);
        behind = All-weaker _ _ (λ y b. above h.seq y.seq (number_before h y b)) tl
            (later receipt_key done (h ∷ tl) order).0;
      })

  -- no receipt that is done has the number of the next
  pub apart_from_done : (h : Receipt) (tl : List Receipt) → rest ≡ h ∷ tl
      → AllByRecursion (λ d. bytes_eq (receipt_key d) (receipt_key h) ≡ false) done
  apart_from_done h tl same =
      let order = subst (IsArranged receipt_key) (parted.whole ∙ ap (λ l. done ++ l) same)
      (receipts_arranged f p t says) in
      All-weaker _ _ (λ d b. before-differs (receipt_key d) (receipt_key h) b) done
      (earlier receipt_key done h tl order)

-- ---- one receipt after the other

abbrev pub with_done : List Receipt → Package → Package
with_done done p = record p { receipts = arranged receipt_key (done ++ p.receipts) }

-- what has come home, as far as a loop has come
pub record HomeSoFar (last : ℤ) (f : Frame) (from p : Package) (old new : Database) : Type 0 where
  pub done : List Receipt
  pub rest : List Receipt
  pub parted : AreParted last from.receipts done rest
  pub reads : Reads f (with_done done p) new
  pub keeps : KeepsNumbers old new

abbrev pub ReceiptsSoFar : ℤ → Database → Database → Database → Type 0
ReceiptsSoFar last source old new = (f : Frame) (from p : Package) → Reads f from source → Reads f p old
    → AreApart from p → HomeSoFar last f from p old new

pub none_home : (source old : Database) → ReceiptsSoFar (negsuc 0) source old old
none_home source old f from p reads reads_p apart = record {
  done = [];
  rest = from.receipts;
  parted = record { whole = refl; before = tt; behind = All-each _ (λ r. refl) from.receipts };
  reads = subst (λ rs. Reads f (record p { receipts = rs }) old)
      (sym (arranged_again receipt_key p.receipts (receipts_arranged f p (tables_of old) reads_p.says))) reads_p;
  keeps = kept_same old;
}

-- an element of a list has what each of them has
contains_all : (from : Package) (h : Receipt) (done tl : List Receipt) → from.receipts ≡ done ++ h ∷ tl
    → In h from.receipts
contains_all from h done tl whole = subst (In h) (sym whole) (at done)
  where
    at : (xs : List Receipt) → In h (xs ++ h ∷ tl)
    at [] = inl refl
    at (x ∷ xs) = inr (at xs)

pub receipt_more : {E F : Type 0} (last : ℤ) (row : ReceiptRow) (s0 s1 s2 s3 : State) {t0 t1 t2 : State}
    {x : Unit {0}} → Stays s0 s1 → Looked (λ t. IsLeast (λ y. y.seq) (filter (is_after last) t.receipts)
    (Some row))
    s1 s2 → Stays s2 s3
    → Steps {X = Unit {0}} {E = E} (λ _. FromClean s1 (ReceiptsSoFar last s0.now)) t0 t1 (Ok tt)
    → Steps {X = Unit {0}} {E = F} (λ _. FromClean s3 (BringsReceipt row s2.now)) t1 t2 (Ok x)
    → Steps {X = Unit {0}} {E = F} (λ _. FromClean s3 (ReceiptsSoFar row.seq s0.now)) t0 t2 (Ok tt)
receipt_more {E} {F} last row s0 s1 s2 s3 {t0} {t1} {t2} {x} stays looked again before next =
    steps_answer {X = Unit {0}} {Y = Unit {0}} {E = F} {F = F} (λ _. FromClean s3 (ReceiptsSoFar row.seq s0.now)) tt
    more (steps_then {Y = Unit {0}} {F = F} before next)
  where
    more : (mid : Database) × FromClean s1 (ReceiptsSoFar last s0.now) t0.now mid
        × FromClean s3 (BringsReceipt row s2.now) mid t2.now
        → FromClean s3 (ReceiptsSoFar row.seq s0.now) t0.now t2.now
    more it clean f from p reads reads_p apart =
        let clean2 : HasCleanDisk s2 = omega (arith, again.survives.clean, clean) in
        let clean1 : HasCleanDisk s1 = omega (arith, looked.stays.survives.clean, clean2) in
        let so = it.1 clean1 f from p reads reads_p apart in
        let found = found_in s0 s1 s2 stays looked clean2 reads.formed in
        let t = tables_of s0.now in
        let at = next_there f from t reads.says last so.done so.rest so.parted row found in
        let h = at.0 in
        let tl = at.1 in
        let d = looked.told clean2 in
        let same : s2.now ≡ s0.now = d.1 ∙ (stays.holds (looked.stays.was_open d.0)).now_is in
        let there : In h from.receipts = contains_all from h so.done tl
        (so.parted.whole ∙ ap (λ l. so.done ++ l) at.2) in
        let from_done = apart_from_done f from t reads.says last so.done so.rest so.parted h tl at.2 in
        let from_own = none_pass (λ e. bytes_eq (receipt_key e) (receipt_key h)) p.receipts
        (All-In (λ r. has receipt_key (receipt_key r) p.receipts ≡ false) h from.receipts apart there) in
        let free : has receipt_key (receipt_key h) (with_done so.done p).receipts ≡ false =
        list_any-arranged receipt_key (λ e. bytes_eq (receipt_key e) (receipt_key h)) (so.done ++ p.receipts)
        ∙ none_any (λ e. bytes_eq (receipt_key e) (receipt_key h)) (so.done ++ p.receipts)
        (All-append (λ e. bytes_eq (receipt_key e) (receipt_key h) ≡ false) so.done p.receipts from_done
        from_own) in
        let came : Reads f (with_receipt h (with_done so.done p)) t2.now × KeepsNumbers it.0 t2.now =
        it.2 clean f from (subst (Reads f from) (sym same) reads) h (Contains-In h from.receipts there) at.3 f
        (with_done so.done p) so.reads free in
        let receipts_are : put receipt_key h (arranged receipt_key (so.done ++ p.receipts))
        ≡ arranged receipt_key ((so.done ++ h ∷ []) ++ p.receipts) =
        sym (arranged-insert receipt_key so.done p.receipts h from_done)
        ∙ ap (arranged receipt_key) (snoc_append so.done h p.receipts) in
        record {
          done = so.done ++ h ∷ [];
          rest = tl;
          parted = parted_more f from t reads.says last so.done so.rest so.parted row h tl at.2 at.3;
          reads = subst (λ rs. Reads f (record p { receipts = rs }) t2.now) receipts_are came.0;
          keeps = kept_then t0.now it.0 t2.now so.keeps came.1;
        }

pub all_home : {E F : Type 0} (last : ℤ) (s0 s1 s2 : State) {t0 t1 : State} → Stays s0 s1
    → Looked (λ t. IsLeast (λ y. y.seq) (filter (is_after last) t.receipts) None) s1 s2
    → Steps {X = Unit {0}} {E = E} (λ _. FromClean s1 (ReceiptsSoFar last s0.now)) t0 t1 (Ok tt)
    → Steps {X = Unit {0}} {E = F} (λ _. FromClean s2 (BringsHome s0.now)) t0 t1 (Ok tt)
all_home {E} {F} last s0 s1 s2 {t0} {t1} stays looked before =
    steps_answer {X = Unit {0}} {Y = Unit {0}} {E = E} {F = F} (λ _. FromClean s2 (BringsHome s0.now)) tt all before
  where
    all : FromClean s1 (ReceiptsSoFar last s0.now) t0.now t1.now → FromClean s2 (BringsHome s0.now) t0.now t1.now
    all it clean f from p reads reads_p apart =
        let so = it (omega (arith, looked.stays.survives.clean, clean)) f from p reads reads_p apart in
        let found = found_in s0 s1 s2 stays looked clean reads.formed in
        let empty = no_next f from (tables_of s0.now) reads.says last so.done so.rest so.parted found in
        let whole : so.done ≡ from.receipts = sym (so.parted.whole ∙ ap (λ l. so.done ++ l) empty
        ∙ append-nil so.done) in (
          subst (λ rs. Reads f (record p { receipts = arranged receipt_key (rs ++ p.receipts) }) t1.now) whole
              so.reads,
          so.keeps,
        )
