-- The rows of a receipt's things, read one position after the other, are all that it moved.
use Rattle.std.proofs.Common.{◌≡◌, ℕ, ℤ, ◌+◌, ◌≤◌, suc, pos, List, [], ◌∷◌, ◌++◌}
use Rattle.std.proofs.Common.{length, Bool, true, Some, None, Ok}
use Rattle.std.proofs.Common.{refl, sym, ap, subst, ◌∙◌, inl, inr, arith}
use Rattle.std.specs.Prelude.{◌&&◌, Contains, flat_map}
use Rattle.std.specs.List.{enumerate_from}
use Rattle.std.specs.Ordering.{int_eq}
use Rattle.std.proofs.lemmas.Bool.{and_parts, and_from, true≢false}
use Rattle.std.proofs.lemmas.Bool.Decides.{Decides-int_eq}
use Rattle.std.proofs.lemmas.List.{append-nil}
use borrow.Author.Tests.{eq-eqb}
use Rattle.sqlite.specs.Effect.{Database}
use Rattle.sqlite.specs.State.{State, HasCleanDisk}
use Rattle.store_sql.specs.Staying.{Stays}
use Rattle.store_sql.specs.Transactions.{Steps}
use Rattle.store_sql.specs.Writing.{EachChained}
use Rattle.store_sql.proofs.Transactions.{steps_answer, steps_then}
use Rattle.sheet_types.specs.World.{Package, receipt_key}
use Rattle.sheet_types.specs.declared.frame.Frame.{Frame}
use Rattle.sheet_types.specs.declared.receipt.Moved.{Moved}
use Rattle.sheet_types.specs.declared.receipt.Receipt.{Receipt}
use Rattle.sheet_types.proofs.Same.{In, In-of_map, In-of_flat_map, All-In, any_in}
use Rattle.package_tables.specs.Calls.{IsOneOf}
use Rattle.package_tables.specs.Package.{Tables, tables_of, AreFormed}
use Rattle.package_tables.specs.Shapes.{moved_shape}
use Rattle.package_tables.specs.declared.rows.MovedRow.{MovedRow}
use Rattle.identity_register.specs.Reads.{Says, Reads, IsFitReceipt, is_fit_moved, moved_row, moved_rows}
use Rattle.identity_register.proofs.Deleting.{pos_same}
use Rattle.identity_register.proofs.Finding.{contained, in_arranged}
use Rattle.identity_register.proofs.Looking.{Looked}
use Rattle.identity_register.proofs.OnePackage.{nat_of, in_place, thing_stored, thing_moved}
use Rattle.custody.specs.Entries.{Enters, rows_from}
use Rattle.custody.specs.Homing.{BringsThings, FromClean}

-- ---- lists

late : {X : Type 0} (n : ℕ) (z : ℕ × X) (xs : List X) → In z (enumerate_from n xs) → n ≤ z.0
late n z [] i = absurd i
late n z (x ∷ xs) i = elim i [
  | inl e ↦ let same = ap (λ v. v.0) e in omega arith
  | inr j ↦ let later =
      late (n + 1) z xs j in omega arith
]

-- what stands at the place after some comes first of the others
abbrev Begins : {X : Type 0} → List X → X → Type 0
Begins {X} rest m = (tl : List X) × (rest ≡ m ∷ tl)

at_place : {X : Type 0} (n k : ℕ) (m : X) (done rest : List X) → n + length done ≡ k
    → In (k, m) (enumerate_from n (done ++ rest)) → Begins rest m
at_place n k m [] [] long i = absurd i
at_place n k m [] (x ∷ xs) long i = elim i [
  | inl e ↦ (xs, ap (λ v. v.1 ∷ xs) e)
  | inr j
      ↦ absurd (let after = late (n + 1) (k, m) xs j in omega (arith, after, long))
]
at_place n k m (x ∷ xs) rest long i =
    elim i [
      | inl e ↦ absurd (let same = ap (λ v. v.0) e in omega (arith, same, long))
      | inr j ↦ at_place (n + 1) k m xs rest (omega (arith, long)) j
    ]

stands : {X : Type 0} (n : ℕ) (m : X) (done tl : List X) → In (n + length done, m)
    (enumerate_from n (done ++ m ∷ tl))
stands n m [] tl = let e : n + 0 ≡ n = omega arith in inl (ap (λ k. (k, m)) (sym e))
stands n m (x ∷ xs) tl = let e : n + 1 + length xs ≡ n + suc (length xs) =
    omega arith in inr (subst (λ k. In (k, m) (enumerate_from (n + 1) (xs ++ m ∷ tl))) e (stands (n + 1) m xs tl))

rows_snoc : (seq n : ℕ) (done : List Moved) (m : Moved) → rows_from seq n (done ++ m ∷ [])
    ≡ rows_from seq n done
    ++ moved_row seq (n + length done) m ∷ []
rows_snoc seq n [] m = let e : n ≡ n + 0 = omega arith in ap (λ k. moved_row seq k m ∷ []) e
rows_snoc seq n (x ∷ xs) m =
    let e : n + 1 + length xs ≡ n + suc (length xs) = omega arith in
    ap (λ rows. moved_row seq n x ∷ rows) (rows_snoc seq (n + 1) xs m
    ∙ ap (λ k. rows_from seq (n + 1) xs ++ moved_row seq k m ∷ []) e)

pub snoc_length : {X : Type 0} (xs : List X) (x : X) → length (xs ++ x ∷ []) ≡ length xs + 1
snoc_length [] x = refl
snoc_length (y ∷ ys) x = let e = snoc_length ys x in omega (arith, e)

pub snoc_append : {X : Type 0} (xs : List X) (x : X) (ys : List X) → xs ++ x ∷ ys ≡ (xs ++ x ∷ []) ++ ys
snoc_append [] x ys = refl
snoc_append (z ∷ zs) x ys = ap (λ l. z ∷ l) (snoc_append zs x ys)

chain_snoc : {X : Type 0} (Change : X → Database → Database → Type 0) (xs : List X) (x : X)
    (old mid new : Database)
    → EachChained Change xs old mid → Change x mid new → EachChained Change (xs ++ x ∷ []) old new
chain_snoc Change [] x old mid new same last = (new, subst (λ (d : Database). Change x d new) same last, refl)
chain_snoc Change (y ∷ xs) x old mid new h last = (h.0, h.1, chain_snoc Change xs x h.0 mid new h.2 last)

-- ---- the tables

pub same_int : (a b : ℤ) → int_eq a b ≡ true → a ≡ b
same_int a b e = (Decides-int_eq a b).0 e

abbrev pub is_at : ℤ → ℕ → MovedRow → Bool
is_at seq k x = int_eq x.seq seq && int_eq x.position (pos k)

module _ (f : Frame) (p : Package) (t : Tables) (says : Says f p t) (r : Receipt) (i : In r says.entered) (k : ℕ)
    (done rest : List Moved) (whole : r.items ≡ done ++ rest) (long : length done ≡ k) where
  -- the row of the next position is that of the next thing
  row_there : (row : MovedRow) → IsOneOf (is_at (pos r.seq) k) t.moved (Some row) → (m : Moved) × Begins rest m
      × (row ≡ moved_row r.seq k m)
  row_there row found =
      let passed = and_parts (int_eq row.seq (pos r.seq)) (int_eq row.position (pos k)) found.1 in
      let stored : In row t.moved = contained t.moved row found.0 in
      let it = In-of_flat_map moved_rows row says.entered (in_arranged moved_shape.key
      (flat_map moved_rows says.entered) row (subst (In row) says.moved stored)) in
      let w = In-of_map (λ m. moved_row it.0.seq m.0 m.1) row (enumerate_from 0 it.0.items) it.2 in
      let seq : it.0.seq ≡ r.seq = nat_of it.0.seq r.seq (ap (λ x. x.seq) w.2
      ∙ same_int row.seq (pos r.seq) passed.0) in
      let place : w.0.0 ≡ k = nat_of w.0.0 k (ap (λ x. x.position) w.2 ∙ same_int row.position (pos k) passed.1) in
      let fit = All-In (λ m. is_fit_moved m ≡ true) w.0.1 it.0.items
      (All-In IsFitReceipt it.0 says.entered says.fit it.1).items (in_place 0 w.0 it.0.items w.1) in
      let is : row ≡ moved_row r.seq w.0.0 w.0.1 = sym w.2 ∙ ap (λ s. moved_row s w.0.0 w.0.1) seq in
      let mine : In w.0 (enumerate_from 0 r.items) = thing_moved f t p says r i w.0 fit
      (subst (λ x. In x t.moved) is stored) in
      let at : In (k, w.0.1) (enumerate_from 0 (done ++ rest)) =
      subst (λ xs. In (k, w.0.1) (enumerate_from 0 xs)) whole
      (subst (λ n. In (n, w.0.1) (enumerate_from 0 r.items)) place mine) in
      (w.0.1, at_place 0 k w.0.1 done rest (omega (arith, long)) at, is ∙ ap (λ n. moved_row r.seq n w.0.1) place)

  -- where no row has the next position, there is no thing more
  none_there : IsOneOf (is_at (pos r.seq) k) t.moved None → rest ≡ []
  none_there none = one rest refl
    where
      one : (xs : List Moved) → rest ≡ xs → rest ≡ []
      one [] e = e
      one (m ∷ tl) e =
          let place : 0 + length done ≡ k = omega (arith, long) in
          let at : In (k, m) (enumerate_from 0 r.items) = subst (λ n. In (n, m) (enumerate_from 0 r.items)) place
          (subst (λ xs. In (0 + length done, m) (enumerate_from 0 xs)) (sym (whole ∙ ap (λ l. done ++ l) e))
          (stands 0 m done tl)) in
          let passes : is_at (pos r.seq) k (moved_row r.seq k m) ≡ true =
          and_from _ _ (pos_same r.seq r.seq ∙ eq-eqb r.seq r.seq refl) (pos_same k k ∙ eq-eqb k k refl) in
          absurd (true≢false (sym (any_in (is_at (pos r.seq) k) (moved_row r.seq k m) t.moved
          (thing_stored f t p says r i (k, m) at) passes) ∙ none))

-- a receipt that is kept is among those that were entered
pub of_kept : (f : Frame) (p : Package) (t : Tables) (says : Says f p t) (r : Receipt) → Contains p.receipts r
    → In r says.entered
of_kept f p t says r has = in_arranged receipt_key says.entered r (subst (In r) says.kept (contained p.receipts r has))

-- ---- one position after the other

-- what a receipt moved, as far as a loop has come
pub record SoFar (k : ℕ) (r : Receipt) (old new : Database) : Type 0 where
  pub done : List Moved
  pub rest : List Moved
  pub whole : r.items ≡ done ++ rest
  pub long : length done ≡ k
  pub chain : EachChained Enters (rows_from r.seq 0 done) old new

abbrev pub ThingsSoFar : ℤ → ℕ → Database → Database → Database → Type 0
ThingsSoFar seq k source old new = (f : Frame) (from : Package) → Reads f from source → (r : Receipt)
    → Contains from.receipts r → pos r.seq ≡ seq → SoFar k r old new

pub none_so_far : (seq : ℤ) (source old : Database) → ThingsSoFar seq 0 source old old
none_so_far seq source old f from reads r has is = record {
  done = [];
  rest = r.items;
  whole = refl;
  long = refl;
  chain = refl;
}

-- what was found in the source as it was
pub found_in : {Fact : Tables → Type 0} (s0 s1 s2 : State) → Stays s0 s1 → Looked Fact s1 s2 → HasCleanDisk s2
    → AreFormed s0.now → Fact (tables_of s0.now)
found_in {Fact} s0 s1 s2 stays looked clean formed =
    let d = looked.told clean in
    let same : s1.now ≡ s0.now = (stays.holds (looked.stays.was_open d.0)).now_is in
    subst (λ db. AreFormed db → Fact (tables_of db)) same d.2 formed

pub thing_more : {E F : Type 0} (seq : ℤ) (k : ℕ) (row : MovedRow) (s0 s1 s2 : State) {t0 t1 t2 : State}
    {x : Unit {0}} → Stays s0 s1 → Looked (λ t. IsOneOf (is_at seq k) t.moved (Some row)) s1 s2
    → Steps {X = Unit {0}} {E = E} (λ _. FromClean s1 (ThingsSoFar seq k s0.now)) t0 t1 (Ok tt)
    → Steps {X = Unit {0}} {E = F} (λ _. Enters row) t1 t2 (Ok x)
    → Steps {X = Unit {0}} {E = F} (λ _. FromClean s2 (ThingsSoFar seq (k + 1) s0.now)) t0 t2 (Ok tt)
thing_more {E} {F} seq k row s0 s1 s2 {t0} {t1} {t2} {x} stays looked before next =
    steps_answer {X = Unit {0}} {Y = Unit {0}} {E = F} {F = F} (λ _. FromClean s2 (ThingsSoFar seq (k + 1) s0.now)) tt
    more (steps_then {Y = Unit {0}} {F = F} before next)
  where
    more : (mid : Database) × FromClean s1 (ThingsSoFar seq k s0.now) t0.now mid × Enters row mid t2.now
        → FromClean s2 (ThingsSoFar seq (k + 1) s0.now) t0.now t2.now
    more it clean f from reads r has is =
        let so = it.1 (omega (arith, looked.stays.survives.clean, clean)) f from reads r has is in
        let found = subst (λ n. IsOneOf (is_at n k) (tables_of s0.now).moved (Some row)) (sym is)
        (found_in s0 s1 s2 stays looked clean reads.formed) in
        let i = of_kept f from (tables_of s0.now) reads.says r has in
        let at = row_there f from (tables_of s0.now) reads.says r i k so.done so.rest so.whole so.long row found in
        let m = at.0 in
        let place : k ≡ 0 + length so.done = omega (arith, so.long) in
        let row_is : row ≡ moved_row r.seq (0 + length so.done) m = at.2 ∙ ap (λ n. moved_row r.seq n m) place in
        record {
          done = so.done ++ m ∷ [];
          rest = at.1.0;
          whole = so.whole ∙ ap (λ l. so.done ++ l) at.1.1 ∙ snoc_append so.done m at.1.0;
          long = snoc_length so.done m ∙ ap (λ n. n + 1) so.long;
          chain = subst (λ rows. EachChained Enters rows t0.now t2.now)
              (ap (λ y. rows_from r.seq 0 so.done ++ y ∷ []) row_is ∙ sym (rows_snoc r.seq 0 so.done m))
              (chain_snoc Enters (rows_from r.seq 0 so.done) row t0.now it.0 t2.now so.chain it.2);
        }

pub things_all : {E F : Type 0} (seq : ℤ) (k : ℕ) (s0 s1 s2 : State) {t0 t1 : State} → Stays s0 s1
    → Looked (λ t. IsOneOf (is_at seq k) t.moved None) s1 s2
    → Steps {X = Unit {0}} {E = E} (λ _. FromClean s1 (ThingsSoFar seq k s0.now)) t0 t1 (Ok tt)
    → Steps {X = Unit {0}} {E = F} (λ _. FromClean s2 (BringsThings seq s0.now)) t0 t1 (Ok tt)
things_all {E} {F} seq k s0 s1 s2 {t0} {t1} stays looked before =
    steps_answer {X = Unit {0}} {Y = Unit {0}} {E = E} {F = F} (λ _. FromClean s2 (BringsThings seq s0.now)) tt all
    before
  where
    all : FromClean s1 (ThingsSoFar seq k s0.now) t0.now t1.now → FromClean s2 (BringsThings seq s0.now) t0.now t1.now
    all it clean f from reads r has is =
        let so = it (omega (arith, looked.stays.survives.clean, clean)) f from reads r has is in
        let none = subst (λ n. IsOneOf (is_at n k) (tables_of s0.now).moved None) (sym is)
        (found_in s0 s1 s2 stays looked clean reads.formed) in
        let i = of_kept f from (tables_of s0.now) reads.says r has in
        let empty = none_there f from (tables_of s0.now) reads.says r i k so.done so.rest so.whole so.long none in
        subst (λ xs. EachChained Enters (rows_from r.seq 0 xs) t0.now t1.now)
        (sym (so.whole ∙ ap (λ l. so.done ++ l) empty ∙ append-nil so.done)) so.chain
