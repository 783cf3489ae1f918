-- The rows of receipts, and of what they moved, are in their ranges, and claim what the receipts say.
use Rattle.std.proofs.Common.{◌≡◌, ℕ, ◌+◌, ◌<◌, ◌≤◌, pos, ◌≤ℤ◌, ◌<ℤ◌, List, []}
use Rattle.std.proofs.Common.{◌∷◌, map, Bool, true, false, cond}
use Rattle.std.proofs.Common.{Option, Some, None, is_some, refl, sym, ap, subst, ◌∙◌, arith}
use Rattle.std.specs.Prelude.{◌&&◌, flat_map, int_le, IsPermutation, MatchBool}
use Rattle.std.specs.List.{AllByRecursion, enumerate_from}
use Rattle.std.specs.Option.{option_map_or}
use Rattle.std.proofs.lemmas.Bool.{false≢true, true≢false, and_parts, and_from, ltb-true}
use Rattle.std.proofs.lemmas.Int.{ints}
use Rattle.std.proofs.lemmas.List.Sorted.{IsPermutation-trans, IsPermutation-sym}
use Rattle.hex.specs.Hex.{encode_lower}
use Rattle.sheet_types.specs.Balance.{IsThing}
use Rattle.sheet_types.specs.Lines.{is_uuid, is_bytes}
use Rattle.sheet_types.specs.Opening.{claim_of}
use Rattle.sheet_types.specs.Ordered.{arranged, put, is_before, IsArranged}
use Rattle.sheet_types.specs.Reading.{optional_uuid_text}
use Rattle.sheet_types.specs.Refuse.{greatest_receipts}
use Rattle.sheet_types.specs.World.{receipt_key, is_item_kind, kind_number}
use Rattle.sheet_types.specs.declared.receipt.Moved.{Moved}
use Rattle.sheet_types.specs.declared.receipt.MovedKind.{MovedKind}
use Rattle.sheet_types.specs.declared.receipt.MovedKind.TheVariants.{TileItem, MediaItem, RowItem, TilesMediaLink}
use Rattle.sheet_types.specs.declared.receipt.MovedKind.TheVariants.{RowsMediaLink, RowsTilesLink}
use Rattle.sheet_types.specs.declared.receipt.Receipt.{Receipt}
use Rattle.sheet_types.proofs.Every.{All-weaker, All-both, All-map}
use Rattle.sheet_types.proofs.Order.{before_numbers, All-arranged}
use Rattle.sqlite_trees.specs.Tree.{IsAscending}
use Rattle.sqlite_trees.proofs.ListLemmas.{map-map, IsPermutation-flat_map, IsPermutation-same}
use Rattle.package_tables.specs.Damaged.{claim_of_row}
use Rattle.package_tables.specs.Shapes.{receipt_shape, moved_shape}
use Rattle.package_tables.specs.declared.rows.MovedRow.{MovedRow}
use Rattle.package_tables.specs.declared.rows.ReceiptRow.{ReceiptRow}
use Rattle.package_tables.proofs.Reading.{arranged_permutation}
use Rattle.identity_register.specs.Reads.{IsFitReceipt, SaysReceipts, is_fit_end, is_fit_moved, receipt_row}
use Rattle.identity_register.specs.Reads.{moved_row, moved_rows}
use Rattle.package_receipts.specs.Ranges.{IsUuidText, IsDigestText, IsMovedInRange, IsReceiptInRange}
use Rattle.package_receipts.specs.Ranges.{AreReceiptsInRange, is_item_number, is_seq}
use Rattle.package_receipts.specs.Read.{IsEarlier, StandFrom}
use Rattle.package_receipts.proofs.Ranges.{end_text, kind_within}
use Rattle.package_receipts.proofs.Saying.{range_moved}
use Rattle.package_receipts.proofs.Walking.{one_more}
use Rattle.opening_laws_model.specs.Timely.{IsSound}

-- a count is not below 0
low : (n : ℕ) → pos 0 ≤ℤ pos n
low n = omega (arith, ints)

-- ---- one thing

-- the stored number of a kind tells whether it is an item's
item_number : (k : MovedKind) → is_item_number (pos (kind_number k)) ≡ is_item_kind k
item_number TileItem = refl
item_number MediaItem = refl
item_number RowItem = refl
item_number TilesMediaLink = refl
item_number RowsMediaLink = refl
item_number RowsTilesLink = refl

-- the form of a thing, by its kind
as_item : (b : Bool) (m : Moved) → b ≡ true → MatchBool b ((m.other ≡ None) × (is_some m.fingerprint ≡ true))
    ((is_some m.other ≡ true) × (m.size ≡ 0) × (m.fingerprint ≡ None)) → (m.other ≡ None)
    × (is_some m.fingerprint ≡ true)
as_item true m e h = h
as_item false m e h = absurd (false≢true e)

as_link : (b : Bool) (m : Moved) → b ≡ false → MatchBool b ((m.other ≡ None)
    × (is_some m.fingerprint ≡ true))
    ((is_some m.other ≡ true) × (m.size ≡ 0) × (m.fingerprint ≡ None)) → (is_some m.other ≡ true)
    × (m.size ≡ 0)
    × (m.fingerprint ≡ None)
as_link true m e h = absurd (true≢false e)
as_link false m e h = h

-- a digest that is there
digest_text : (o : Option (List ℕ)) → is_some o ≡ true → option_map_or (is_bytes 32) o true ≡ true
    → IsDigestText (option_map_or encode_lower o [])
digest_text None some fit = absurd (false≢true some)
digest_text (Some digest) some fit = record { digest = digest; long = fit; is = refl }

-- another end that is there
other_text : (o : Option (List ℕ)) → is_some o ≡ true → is_fit_end o ≡ true
    → IsUuidText (optional_uuid_text o)
other_text None some fit = absurd (false≢true some)
other_text (Some id) some fit = record { id = id; uuid = fit; is = refl }

pub thing_range : (seq position : ℕ) (m : Moved) → IsThing m → is_fit_moved m ≡ true
    → IsMovedInRange (moved_row seq position m)
thing_range seq position m thing fit =
    let ends : ((is_uuid m.base && is_fit_end m.other) ≡ true)
    × (option_map_or (is_bytes 32) m.fingerprint true ≡ true) =
    and_parts (is_uuid m.base && is_fit_end m.other) (option_map_or (is_bytes 32) m.fingerprint true) fit in
    let both : (is_uuid m.base ≡ true) × (is_fit_end m.other ≡ true) =
    and_parts (is_uuid m.base) (is_fit_end m.other) ends.0 in
    record {
      kind = kind_within m.kind;
      base = record { id = m.base; uuid = both.0; is = refl };
      no_other = λ item. ap optional_uuid_text (as_item (is_item_kind m.kind) m (sym (item_number m.kind) ∙ item)
          thing).0;
      other = λ link. other_text m.other (as_link (is_item_kind m.kind) m (sym (item_number m.kind) ∙ link) thing).0
          both.1;
      size = low m.size;
      fingerprint = λ item. digest_text m.fingerprint (as_item (is_item_kind m.kind) m
          (sym (item_number m.kind) ∙ item) thing).1 ends.1;
      no_fingerprint = λ link. ap (λ o. option_map_or encode_lower o [])
          (as_link (is_item_kind m.kind) m (sym (item_number m.kind) ∙ link) thing).2;
    }

-- ---- one receipt

seq_range : (n : ℕ) → 1 ≤ n → n ≤ greatest_receipts → is_seq (pos n) ≡ true
seq_range n above below = and_from (int_le (pos 1) (pos n)) (int_le (pos n) (pos 1000000000))
    (grind (arith, ints, above)) (grind (arith, ints, below))

pub receipt_range : (r : Receipt) → IsSound r → IsFitReceipt r → IsReceiptInRange (receipt_row r)
receipt_range r sound fit = record {
  seq = seq_range r.seq sound.low sound.high;
  request = record { id = r.request; uuid = fit.request; is = refl };
  at = sound.moment;
  source = end_text (optional_uuid_text r.source) r.source refl fit.source;
  target = end_text (optional_uuid_text r.target) r.target refl fit.target;
  counts = record {
    n_tiles = low r.tiles;
    n_media = low r.media;
    n_rows = low r.rows;
    n_links = low r.links;
    n_bytes = low r.bytes;
  };
}

-- the rows of things stand from a place on
stand_from : (seq n : ℕ) (things : List Moved) → AllByRecursion (λ m. IsThing m × (is_fit_moved m ≡ true))
    things
    → StandFrom (pos seq) n (map (λ m. moved_row seq m.0 m.1) (enumerate_from n things))
stand_from seq n [] h = tt
stand_from seq n (m ∷ things) h = (thing_range seq n m h.0.0 h.0.1, refl, refl, stand_from seq (n + 1) things h.1)

pub stands : (r : Receipt) → IsSound r → IsFitReceipt r → StandFrom (pos r.seq) 0 (moved_rows r)
stands r sound fit = stand_from r.seq 0 r.items (All-both IsThing (λ m. is_fit_moved m ≡ true)
    (λ m. IsThing m × (is_fit_moved m ≡ true)) (λ m a b. (a, b)) r.items sound.things fit.items)

-- ---- receipts in their order

abbrev IsFitSound : Receipt → Type 0
IsFitSound r = IsSound r × IsFitReceipt r

less : (a b : ℕ) → is_before (a ∷ []) (b ∷ []) ≡ true → pos a <ℤ pos b
less a b h = let lt : a < b = ltb-true a b (sym (before_numbers a b) ∙ h) in omega (arith, ints, lt)

rows_rise : (rs : List Receipt) → IsArranged receipt_key rs → IsAscending IsEarlier (map receipt_row rs)
rows_rise [] h = tt
rows_rise (r ∷ rs) h = (
  All-map (IsEarlier (receipt_row r)) receipt_row rs
      (All-weaker (λ y. is_before (receipt_key r) (receipt_key y) ≡ true)
      (λ y. IsEarlier (receipt_row r) (receipt_row y)) (λ y before. less r.seq y.seq before) rs h.0),
  rows_rise rs h.1,
)

pub in_order : (rs : List Receipt) → IsArranged receipt_key rs → AllByRecursion IsFitSound rs
    → AreReceiptsInRange (map receipt_row rs) (flat_map moved_rows rs)
in_order [] h all = record { rows = tt; things = tt; positions = tt; owners = tt }
in_order (r ∷ rs) h all = one_more (receipt_row r) (map receipt_row rs) (moved_rows r) (flat_map moved_rows rs)
    (rows_rise (r ∷ rs) h) (receipt_range r all.0.0 all.0.1) (stands r all.0.0 all.0.1) (in_order rs h.1 all.1)

-- ---- both tables

-- a list that is put in order by a key of what its elements become becomes what they become, in order
put_map : {X Y : Type 0} (key : Y → List ℕ) (g : X → Y) (x : X) (ys : List X)
    → put key (g x) (map g ys) ≡ map g (put (λ y. key (g y)) x ys)
put_map key g x [] = refl
put_map key g x (y ∷ ys) =
    elim (is_before (key (g y)) (key (g x))) as (λ b. cond b (g y ∷ put key (g x) (map g ys))
    (g x ∷ g y ∷ map g ys)
    ≡ map g (cond b (y ∷ put (λ z. key (g z)) x ys) (x ∷ y ∷ ys))) [
      | true ↦ ap (λ l. g y ∷ l) (put_map key g x ys)
      | false ↦ refl
    ]

arranged_map : {X Y : Type 0} (key : Y → List ℕ) (g : X → Y) (xs : List X)
    → arranged key (map g xs) ≡ map g (arranged (λ x. key (g x)) xs)
arranged_map key g [] = refl
arranged_map key g (x ∷ xs) = ap (put key (g x)) (arranged_map key g xs)
    ∙ put_map key g x (arranged (λ y. key (g y)) xs)

module _ (entered of_package : List Receipt) (receipts : List ReceiptRow) (moved : List MovedRow)
    (says : SaysReceipts entered of_package receipts moved) (order : IsArranged receipt_key of_package) where
  pub rows_are : receipts ≡ map receipt_row of_package
  rows_are = says.receipts ∙ arranged_map receipt_shape.key receipt_row entered
      ∙ ap (map receipt_row) (sym says.kept)

  pub claims_are : map claim_of_row receipts ≡ map claim_of of_package
  claims_are = ap (map claim_of_row) rows_are ∙ map-map claim_of_row receipt_row of_package

  things_are : IsPermutation (flat_map moved_rows of_package) moved
  things_are =
      let back : IsPermutation of_package entered = subst (λ l. IsPermutation l entered) (sym says.kept)
      (IsPermutation-sym entered (arranged receipt_key entered) (arranged_permutation receipt_key entered)) in
      IsPermutation-trans (flat_map moved_rows of_package) (flat_map moved_rows entered) moved
      (IsPermutation-flat_map moved_rows of_package entered back)
      (subst (IsPermutation (flat_map moved_rows entered)) (sym says.moved)
      (arranged_permutation moved_shape.key (flat_map moved_rows entered)))

  pub receipts_range : AllByRecursion IsSound of_package → AreReceiptsInRange receipts moved
  receipts_range sound =
      let fit : AllByRecursion IsFitReceipt of_package = subst (AllByRecursion IsFitReceipt) (sym says.kept)
      (All-arranged receipt_key IsFitReceipt entered says.fit) in
      range_moved (map receipt_row of_package) receipts (flat_map moved_rows of_package) moved
      (IsPermutation-same (map receipt_row of_package) receipts (sym rows_are)) things_are
      (in_order of_package order (All-both IsSound IsFitReceipt IsFitSound (λ r a b. (a, b)) of_package sound fit))
