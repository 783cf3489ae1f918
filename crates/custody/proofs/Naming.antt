-- Whether a receipt names an identity as that of an item, by the rows of the things that were moved.
use Rattle.std.proofs.Common.{◌≡◌, ℕ, ◌+◌, pos, List, [], ◌∷◌, Bool, true, false, Some, refl, sym}
use Rattle.std.proofs.Common.{ap, ◌∙◌}
use Rattle.std.specs.Prelude.{◌&&◌, ◌||◌, bytes_eq, flat_map, unwrap_or}
use Rattle.uuid.specs.Text.{parsed}
use Rattle.uuid.proofs.TextLemmas.{by_index_length}
use Rattle.sheet_types.proofs.UuidTexts.{parsed_36}
use Rattle.std.specs.List.{AllByRecursion, list_any}
use Rattle.std.specs.Ordering.{int_eq}
use Rattle.std.specs.Option.{option_map_or}
use Rattle.std.proofs.lemmas.Bool.{and_parts}
use Rattle.std.proofs.lemmas.List.Folds.{list_any-append}
use Rattle.sheet_types.specs.Balance.{names_identity}
use Rattle.sheet_types.specs.Texts.{uuid_text}
use Rattle.sheet_types.specs.Lines.{is_uuid, is_bytes, uuid_in}
use Rattle.sheet_types.specs.World.{Package, is_item_kind, kind_number, receipt_key}
use Rattle.sheet_types.specs.declared.frame.Frame.{Frame}
use Rattle.sheet_types.specs.declared.receipt.Moved.{Moved}
use Rattle.sheet_types.specs.declared.receipt.MovedKind.{MovedKind}
use Rattle.sheet_types.specs.declared.receipt.MovedKind.TheVariants.{TileItem, MediaItem, RowItem, TilesMediaLink}
use Rattle.sheet_types.specs.declared.receipt.MovedKind.TheVariants.{RowsMediaLink, RowsTilesLink}
use Rattle.sheet_types.specs.declared.receipt.Receipt.{Receipt}
use Rattle.sheet_types.proofs.LineReading.{uuid_back}
use Rattle.sheet_types.proofs.Order.{list_any-arranged}
use Rattle.identity_register.proofs.Answering.{any_flat_map}
use Rattle.identity_register.proofs.Ends.{any_or}
use Rattle.identity_register.proofs.Finding.{same_text}
use Rattle.package_tables.specs.Package.{Tables}
use Rattle.package_tables.specs.Shapes.{moved_shape}
use Rattle.identity_register.specs.Reads.{Says, IsFitReceipt, is_fit_end, is_fit_moved, moved_rows}
use Rattle.custody.specs.Receipts.{is_named}
use Rattle.custody.specs.Entries.{rows_from, is_of}
use Rattle.custody.proofs.Entering.{differ, apart}

-- ---- one thing

-- a text that reads as a UUID reads as it in a line
pub read_back : (id : List ℕ) → parsed (uuid_text id) ≡ Some id → uuid_in (uuid_text id) ≡ id
read_back id h = ap (λ o. unwrap_or o []) (sym (parsed_36 (uuid_text id) (by_index_length 36 _)) ∙ h)

-- the texts of two UUIDs are one where the UUIDs are
pub texts_same : (a b : List ℕ) → uuid_in (uuid_text a) ≡ a → uuid_in (uuid_text b) ≡ b
    → bytes_eq (uuid_text a) (uuid_text b) ≡ bytes_eq a b
texts_same a b ha hb = one (bytes_eq a b) refl
  where
    one : (v : Bool) → bytes_eq a b ≡ v → bytes_eq (uuid_text a) (uuid_text b) ≡ bytes_eq a b
    one true e = same_text a b e ∙ sym e
    one false e = differ (uuid_text a) (uuid_text b) (λ f. apart e (sym ha ∙ ap uuid_in f ∙ hb)) ∙ sym e

-- the kinds of items are those of the numbers 1 to 3
three_kinds : (b : Bool) (k : MovedKind) → ((b && int_eq (pos (kind_number k)) (pos 1)) ||
    (b && int_eq (pos (kind_number k)) (pos 2)) || (b && int_eq (pos (kind_number k)) (pos 3)))
    ≡ (is_item_kind k && b)
three_kinds true TileItem = refl
three_kinds true MediaItem = refl
three_kinds true RowItem = refl
three_kinds true TilesMediaLink = refl
three_kinds true RowsMediaLink = refl
three_kinds true RowsTilesLink = refl
three_kinds false k = neither (is_item_kind k)
  where
    neither : (b : Bool) → false ≡ (b && false)
    neither true = refl
    neither false = refl

-- ---- the tables

module _ (id : List ℕ) (back : uuid_in (uuid_text id) ≡ id) where
  one_thing : (seq n : ℕ) (m : Moved) → is_fit_moved m ≡ true
      → list_any (λ x. is_of id (pos 1) x || is_of id (pos 2) x || is_of id (pos 3) x) (rows_from seq n (m ∷ []))
      ≡ list_any (λ y. is_item_kind y.kind && bytes_eq y.base id) (m ∷ [])
  one_thing seq n m fit =
      ap (λ b. b || false) (three_kinds (bytes_eq (uuid_text m.base) (uuid_text id)) m.kind
      ∙ ap (λ b. is_item_kind m.kind && b) (texts_same m.base id
      (uuid_back m.base (and_parts (is_uuid m.base) (is_fit_end m.other)
      (and_parts (is_uuid m.base && is_fit_end m.other) (option_map_or (is_bytes 32) m.fingerprint true)
      fit).0).0) back))

  things : (seq n : ℕ) (ms : List Moved) → AllByRecursion (λ m. is_fit_moved m ≡ true) ms
      → list_any (λ x. is_of id (pos 1) x || is_of id (pos 2) x || is_of id (pos 3) x) (rows_from seq n ms)
      ≡ list_any (λ y. is_item_kind y.kind && bytes_eq y.base id) ms
  things seq n [] h = refl
  things seq n (m ∷ ms) h =
      list_any-append (λ x. is_of id (pos 1) x || is_of id (pos 2) x || is_of id (pos 3) x)
      (rows_from seq n (m ∷ []))
      (rows_from seq (n + 1) ms)
      ∙ (λ i. one_thing seq n m h.0 i || things seq (n + 1) ms h.1 i)
      ∙ sym (list_any-append (λ y. is_item_kind y.kind && bytes_eq y.base id) (m ∷ []) ms)

  entered_names : (rs : List Receipt) → AllByRecursion IsFitReceipt rs
      → AllByRecursion (λ r. list_any (λ x. is_of id (pos 1) x || is_of id (pos 2) x || is_of id (pos 3) x)
      (moved_rows r) ≡ names_identity id r) rs
  entered_names [] h = tt
  entered_names (r ∷ rs) h = (things r.seq 0 r.items h.0.items, entered_names rs h.1)

  -- the rows of three kinds tell whether a receipt names the identity
  pub named_by_rows : (f : Frame) (p : Package) (t : Tables) → Says f p t
      → (list_any (is_of id (pos 1)) t.moved || list_any (is_of id (pos 2)) t.moved || list_any (is_of id (pos 3))
      t.moved) ≡ is_named p id
  named_by_rows f p t says =
      ap (λ b. b || list_any (is_of id (pos 3)) t.moved) (any_or (is_of id (pos 1)) (is_of id (pos 2)) t.moved)
      ∙ any_or (λ x. is_of id (pos 1) x || is_of id (pos 2) x) (is_of id (pos 3)) t.moved
      ∙ ap (list_any (λ x. is_of id (pos 1) x || is_of id (pos 2) x || is_of id (pos 3) x)) says.moved
      ∙ list_any-arranged moved_shape.key (λ x. is_of id (pos 1) x || is_of id (pos 2) x || is_of id (pos 3) x)
      (flat_map moved_rows says.entered)
      ∙ any_flat_map moved_rows (λ x. is_of id (pos 1) x || is_of id (pos 2) x || is_of id (pos 3) x)
      (names_identity id) says.entered (entered_names says.entered says.fit)
      ∙ sym (ap (list_any (names_identity id)) says.kept ∙ list_any-arranged receipt_key (names_identity id)
      says.entered)
