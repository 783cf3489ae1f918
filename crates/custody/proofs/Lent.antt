-- The receipts of splits with one target, read one number after the other: none has it where the last that was read
-- leaves none.
use Rattle.std.proofs.Common.{◌≡◌, ℕ, ℤ, pos, negsuc, List, [], ◌∷◌, map, Bool, true, false, Option}
use Rattle.std.proofs.Common.{Some, None, Ok}
use Rattle.std.proofs.Common.{refl, sym, ap, subst, ◌∙◌, inl, inr, arith}
use Rattle.std.specs.Prelude.{◌≤ℤ◌, ◌&&◌, ◌⊎◌, bytes_eq, filter, length}
use Rattle.std.specs.List.{AllByRecursion, list_any}
use Rattle.std.specs.Ordering.{int_cmp, is_gt}
use Rattle.std.proofs.lemmas.Bool.{true≢false, and_parts}
use Rattle.uuid.proofs.TextLemmas.{by_index_length}
use Rattle.sqlite.specs.State.{State, HasCleanDisk}
use Rattle.store_sql.specs.Staying.{Stays}
use Rattle.store_sql.specs.Transactions.{Looks}
use Rattle.store_sql.proofs.Staying.{stays_then}
use Rattle.sheet_types.specs.Custody.{is_split, is_split_line, ends_at}
use Rattle.sheet_types.specs.Lines.{uuid_in}
use Rattle.sheet_types.specs.Ordered.{is_before, IsArranged}
use Rattle.sheet_types.specs.Reading.{optional_uuid_text}
use Rattle.sheet_types.specs.Texts.{uuid_text}
use Rattle.sheet_types.specs.World.{Package, receipt_key}
use Rattle.sheet_types.specs.declared.frame.Frame.{Frame}
use Rattle.sheet_types.specs.declared.receipt.Receipt.{Receipt}
use Rattle.sheet_types.proofs.Every.{All-both, All-each, All-taken, none_any}
use Rattle.sheet_types.proofs.LineReading.{uuid_back}
use Rattle.sheet_types.proofs.Same.{In, In-all, In-filter, In-map, In-of_map, All-In, any_in}
use Rattle.package_tables.specs.Calls.{IsLeast}
use Rattle.package_tables.specs.Package.{Tables, tables_of}
use Rattle.package_tables.specs.Shapes.{receipt_shape}
use Rattle.package_tables.specs.declared.rows.ReceiptRow.{ReceiptRow}
use Rattle.identity_register.specs.Calls.{Sees}
use Rattle.identity_register.specs.Reads.{Says, Reads, IsFitReceipt, is_fit_end, receipt_row}
use Rattle.identity_register.proofs.Finding.{contained, in_arranged}
use Rattle.identity_register.proofs.Looking.{Looked}
use Rattle.identity_register.proofs.OnePackage.{to_arranged}
use Rattle.custody.specs.Receipts.{was_lent}
use Rattle.custody.proofs.Entering.{differ}
use Rattle.custody.proofs.Homecoming.{is_after, above, not_both, number_before, receipts_arranged}
use Rattle.custody.proofs.Kept.{of_filter}
use Rattle.custody.proofs.Naming.{texts_same}
use Rattle.custody.proofs.Rows.{found_in}

-- ---- one receipt

-- it is a split with this target
abbrev pub lends : List ℕ → Receipt → Bool
lends id r = is_split r && ends_at r.target id

-- a row of this target and of a number above the last
abbrev pub is_next : List ℕ → ℤ → ReceiptRow → Bool
is_next id last x = bytes_eq x.target (uuid_text id) && is_gt (int_cmp x.seq last)

abbrev pub IsNextTo : List ℕ → ℤ → Tables → Option ReceiptRow → Type 0
IsNextTo id last t found = IsLeast (λ x. x.seq) (filter (is_next id last) t.receipts) found

target_same : (id : List ℕ) → uuid_in (uuid_text id) ≡ id → (target : Option (List ℕ))
    → is_fit_end target ≡ true
    → bytes_eq (optional_uuid_text target) (uuid_text id) ≡ ends_at target id
target_same id back None fit = differ [] (uuid_text id) (λ e. let long : 0 ≡ 36 =
    ap length e ∙ by_index_length 36 _ in cc)
target_same id back (Some x) fit = texts_same x id (uuid_back x fit) back

-- ---- two receipts of an arranged list

module _ {X : Type 0} (key : X → List ℕ) where
  in_turn : (a b : X) (xs : List X) → IsArranged key xs → In a xs → In b xs
      → (is_before (key a) (key b) ≡ true)
      ⊎ (a ≡ b) ⊎ (is_before (key b) (key a) ≡ true)
  in_turn a b [] order i j = absurd i
  in_turn a b (x ∷ xs) order i j = elim i [
    | inl e ↦ elim j [
      | inl e' ↦ inr (inl (sym e ∙ e'))
      | inr j' ↦ inl (subst (λ y. is_before (key y) (key b) ≡ true) e
          (All-In (λ y. is_before (key x) (key y) ≡ true) b xs order.0 j'))
    ]
    | inr i' ↦ elim j [
      | inl e' ↦ inr (inr (subst (λ y. is_before (key y) (key a) ≡ true) e'
          (All-In (λ y. is_before (key x) (key y) ≡ true) a xs order.0 i')))
      | inr j' ↦ in_turn a b xs order.1 i' j'
    ]
  ]

-- ---- the tables

-- each split with this target has a number above the last
abbrev pub AreAbove : List ℕ → ℤ → Package → Type 0
AreAbove id last p = AllByRecursion (λ r. lends id r ≡ true → is_after last (receipt_row r) ≡ true) p.receipts

all_above : (id : List ℕ) (p : Package) → AreAbove id (negsuc 0) p
all_above id p = All-each _ (λ r h. refl) p.receipts

module _ (id : List ℕ) (back : uuid_in (uuid_text id) ≡ id) (f : Frame) (p : Package) (t : Tables)
    (says : Says f p t)
    (last : ℤ) where
  fit : (r : Receipt) → In r p.receipts → IsFitReceipt r
  fit r i = All-In IsFitReceipt r says.entered says.fit (in_arranged receipt_key says.entered r
      (subst (In r) says.kept i))

  passes : (r : Receipt) → In r p.receipts → lends id r ≡ true → is_after last (receipt_row r) ≡ true
      → In (receipt_row r) (filter (is_next id last) t.receipts)
  passes r i lent later =
      let stored = subst (In (receipt_row r)) (sym says.receipts)
      (to_arranged receipt_shape.key (receipt_row r) (map receipt_row says.entered)
      (In-map receipt_row r says.entered (in_arranged receipt_key says.entered r
      (subst (In r) says.kept i)))) in
      let to = target_same id back r.target (fit r i).target
      ∙ (and_parts (is_split r) (ends_at r.target id) lent).1 in
      In-filter (is_next id last) (receipt_row r) t.receipts stored (cc (to, later))

  -- the row that is found is that of a receipt with this target
  found_of : (row : ReceiptRow) → IsNextTo id last t (Some row) → (e : Receipt) × In e p.receipts
      × (receipt_row e ≡ row) × (ends_at e.target id ≡ true)
  found_of row found =
      let there : In row (filter (is_next id last) t.receipts) =
      contained (filter (is_next id last) t.receipts) row found.0 in
      let passed = All-In (λ x. is_next id last x ≡ true) row (filter (is_next id last) t.receipts)
      (All-taken (λ x. is_next id last x ≡ true) (is_next id last) t.receipts
      (All-each _ (λ x e. e) t.receipts)) there in
      let it = In-of_map receipt_row row says.entered (in_arranged receipt_shape.key (map receipt_row says.entered)
      row (subst (In row) says.receipts (of_filter (is_next id last) row t.receipts there))) in
      let i = subst (In it.0) (sym says.kept) (to_arranged receipt_key it.0 says.entered it.1) in (
        it.0,
        i,
        it.2,
        sym (target_same id back it.0.target (fit it.0 i).target)
            ∙ ap (λ x. bytes_eq x.target (uuid_text id)) it.2 ∙ (and_parts _ _ passed).0,
      )

  -- where its line is that of a split, the package lent it
  lent_so : (row : ReceiptRow) → IsNextTo id last t (Some row) → is_split_line row.line ≡ true
      → was_lent p id ≡ true
  lent_so row found split =
      let it = found_of row found in
      let line : is_split it.0 ≡ true = ap (λ x. is_split_line x.line) it.2 ∙ split in
      any_in (lends id) it.0 p.receipts it.1 (cc (line, it.3))

  -- where it is another, all splits with this target are above it
  above_more : (row : ReceiptRow) → IsNextTo id last t (Some row) → is_split_line row.line ≡ false
      → AreAbove id last p → AreAbove id row.seq p
  above_more row found other so = All-both (λ r. In r p.receipts)
      (λ r. lends id r ≡ true → is_after last (receipt_row r) ≡ true)
      (λ r. lends id r ≡ true → is_after row.seq (receipt_row r) ≡ true) more p.receipts (In-all p.receipts) so
    where
      more : (r : Receipt) → In r p.receipts → (lends id r ≡ true → is_after last (receipt_row r) ≡ true)
          → lends id r ≡ true → is_after row.seq (receipt_row r) ≡ true
      more r i later lent =
          let it = found_of row found in
          let e = it.0 in
          let number : pos e.seq ≡ row.seq = ap (λ x. x.seq) it.2 in
          elim (in_turn receipt_key e r p.receipts (receipts_arranged f p t says) it.1 i) [
            | inl before ↦ subst (λ n. is_after n (receipt_row r) ≡ true) number
                (above e.seq r.seq (number_before e r before))
            | inr rest ↦ elim rest [
              | inl same ↦ absurd (true≢false (sym (and_parts (is_split r) (ends_at r.target id) lent).0
                  ∙ ap is_split (sym same) ∙ ap (λ x. is_split_line x.line) it.2 ∙ other))
              | inr behind ↦ absurd (not_both r.seq e.seq (number_before r e behind)
                  (subst (λ n. n ≤ℤ pos r.seq) (sym number) (All-In (λ y. row.seq ≤ℤ y.seq) (receipt_row r)
                  (filter (is_next id last) t.receipts) found.1 (passes r i lent (later lent)))))
            ]
          ]

  -- where no row is found, there is no such split
  none_lent : IsNextTo id last t None → AreAbove id last p → was_lent p id ≡ false
  none_lent none so = none_any (lends id) p.receipts (All-both (λ r. In r p.receipts)
      (λ r. lends id r ≡ true → is_after last (receipt_row r) ≡ true) (λ r. lends id r ≡ false)
      (λ r i later. no r i later (lends id r) refl) p.receipts (In-all p.receipts) so)
    where
      no : (r : Receipt) → In r p.receipts → (lends id r ≡ true → is_after last (receipt_row r) ≡ true)
          → (b : Bool)
          → lends id r ≡ b → lends id r ≡ false
      no r i later false e = e
      no r i later true e = absurd (subst (In (receipt_row r)) none (passes r i e (later e)))

-- ---- one look after the other

-- what was read so far: the store is as it was, and each split with this target is above the last
pub record LentSoFar (id : List ℕ) (last : ℤ) (old new : State) : Type 0 where
  pub stays : Stays old new
  pub are_above : HasCleanDisk new → (f : Frame) (p : Package) → Reads f p old.now → AreAbove id last p

pub none_yet : (id : List ℕ) (s : State) → Stays s s → LentSoFar id (negsuc 0) s s
none_yet id s stays = record { stays = stays; are_above = λ clean f p reads. all_above id p }

module _ (id : List ℕ) (back : uuid_in (uuid_text id) ≡ id) (last : ℤ) (s0 s1 s2 : State)
    (so : LentSoFar id last s0 s1) where
  pub one_more : (row : ReceiptRow) → Looked (λ t. IsNextTo id last t (Some row)) s1 s2
      → is_split_line row.line ≡ false → LentSoFar id row.seq s0 s2
  one_more row looked other = record {
    stays = stays_then so.stays looked.stays;
    are_above = λ clean f p reads.
        let before : HasCleanDisk s1 = omega (arith, looked.stays.survives.clean, clean) in
        above_more id back f p (tables_of s0.now) reads.says last row
        (found_in s0 s1 s2 so.stays looked clean reads.formed) other (so.are_above before f p reads);
  }

  -- what a look tells of the package as it was at the start
  answered : {E : Type 0} (found : Option ReceiptRow) (answer : Bool) → Looked (λ t. IsNextTo id last t found) s1 s2
      → ((f : Frame) (p : Package) → Says f p (tables_of s0.now) → IsNextTo id last (tables_of s0.now) found
      → AreAbove id last p → answer ≡ was_lent p id) → Looks {X = Bool} {E = E}
      (Sees (λ f p b. b ≡ was_lent p id)) s0 s2 (Ok answer)
  answered found answer looked says =
      let all = stays_then so.stays looked.stays in
      record {
        rests = all.rests;
        done = λ clean.
            let d = looked.told clean in
            let before : HasCleanDisk s1 = omega (arith, looked.stays.survives.clean, clean) in (
              d.0,
              (
                d.1 ∙ (so.stays.holds (looked.stays.was_open d.0)).now_is,
                λ f p reads. says f p reads.says
                    (found_in s0 s1 s2 so.stays looked clean reads.formed) (so.are_above before f p reads),
              ),
            );
        was_open = all.was_open;
        holds = all.holds;
        survives = all.survives;
      }

  pub answers_none : {E : Type 0} → Looked (λ t. IsNextTo id last t None) s1 s2
      → Looks {X = Bool} {E = E} (Sees (λ f p b. b ≡ was_lent p id)) s0 s2 (Ok false)
  answers_none looked = answered None false looked (λ f p says none above. sym
      (none_lent id back f p (tables_of s0.now) says last none above))

  pub answers_split : {E : Type 0} (row : ReceiptRow) → Looked (λ t. IsNextTo id last t (Some row)) s1 s2
      → is_split_line row.line ≡ true → Looks {X = Bool} {E = E} (Sees (λ f p b. b ≡ was_lent p id)) s0 s2
      (Ok true)
  answers_split row looked split = answered (Some row) true looked
      (λ f p says found above. sym (lent_so id back f p (tables_of s0.now) says last row found split))
