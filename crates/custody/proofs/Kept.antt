-- The receipt that is read back from the rows of a request is the one that the package keeps.
use Rattle.std.proofs.Common.{◌≡◌, ℕ, pos, List, map, Bool, true, false, refl, sym, ap, subst, ◌∙◌}
use Rattle.std.proofs.Common.{Option, Some, None}
use Rattle.std.specs.Prelude.{bytes_eq, filter, Contains}
use Rattle.std.specs.List.{AllByRecursion, list_any, enumerate_from}
use Rattle.std.specs.Ordering.{int_eq}
use Rattle.std.proofs.lemmas.List.Sorted.{IsPermutation-sym}
use Rattle.std.proofs.lemmas.Slice.Eq.{bytes_eq-Decides}
use borrow.Author.Tests.{eq-eqb}
use Rattle.sheet_types.specs.Lines.{IsUuid}
use Rattle.sheet_types.specs.Ordered.{has}
use Rattle.sheet_types.specs.Texts.{uuid_text}
use Rattle.sheet_types.specs.World.{Package, receipt_key}
use Rattle.sheet_types.specs.declared.frame.Frame.{Frame}
use Rattle.sheet_types.specs.declared.receipt.Moved.{Moved}
use Rattle.sheet_types.specs.declared.receipt.Receipt.{Receipt}
use Rattle.sheet_types.proofs.Every.{All-filter}
use Rattle.sheet_types.proofs.LineReading.{same_uuid}
use Rattle.sheet_types.proofs.Order.{list_any-arranged}
use Rattle.sheet_types.proofs.Same.{In, In-all, In-filter, In-map, In-of_map, All-In, Contains-In}
use Rattle.package_tables.specs.Calls.{IsOneOf, AreThose}
use Rattle.package_tables.specs.Package.{Tables}
use Rattle.package_tables.specs.Shapes.{receipt_shape}
use Rattle.package_tables.specs.declared.rows.MovedRow.{MovedRow}
use Rattle.package_tables.specs.declared.rows.ReceiptRow.{ReceiptRow}
use Rattle.identity_register.specs.Reads.{Says, IsFitReceipt, is_fit_moved, moved_row, receipt_row}
use Rattle.identity_register.proofs.Deleting.{pos_same}
use Rattle.identity_register.proofs.Finding.{contained, in_arranged, moved, no_text}
use Rattle.identity_register.proofs.OnePackage.{to_arranged, by_places, in_place, same_place, same_receipt}
use Rattle.identity_register.proofs.OnePackage.{thing_stored, thing_moved}
use Rattle.custody.specs.Entries.{rows_from, rows_at}

-- ---- lists

pub of_filter : {X : Type 0} (t : X → Bool) (x : X) (xs : List X) → In x (filter t xs) → In x xs
of_filter t x xs i = All-In (λ y. In y xs) x (filter t xs) (All-filter (λ y. In y xs) t xs (In-all xs)) i

-- ---- the tables

-- the row of a request, or none
abbrev pub IsRowFor : List ℕ → Tables → Option ReceiptRow → Type 0
IsRowFor id t found = IsOneOf (λ x. bytes_eq x.request (uuid_text id)) t.receipts found

-- a row under a number
abbrev is_under : ℕ → MovedRow → Bool
is_under seq x = int_eq x.seq (pos seq)

module _ (f : Frame) (p : Package) (t : Tables) (says : Says f p t) where
  -- the things whose rows are those of a receipt's number are what it moved
  things_kept : (s : Receipt) → In s says.entered → (things : List Moved)
      → AllByRecursion (λ m. is_fit_moved m ≡ true) things → AreThose (λ x. int_eq x.seq (pos s.seq)) t.moved
      (rows_from s.seq 0 things) → things ≡ s.items
  things_kept s i things fit are = by_places 0 things s.items to fro
    where
      to : (z : ℕ × Moved) → In z (enumerate_from 0 things) → In z (enumerate_from 0 s.items)
      to z at =
          let row : MovedRow = moved_row s.seq z.0 z.1 in
          let found : In row (rows_from s.seq 0 things) = In-map (λ m. moved_row s.seq m.0 m.1) z
          (enumerate_from 0 things) at in
          let passing : In row (filter (is_under s.seq) t.moved) =
          moved row (rows_from s.seq 0 things) (filter (is_under s.seq) t.moved)
          (IsPermutation-sym (filter (is_under s.seq) t.moved) (rows_from s.seq 0 things) are) found in
          thing_moved f t p says s i z (All-In (λ m. is_fit_moved m ≡ true) z.1 things fit (in_place 0 z things at))
          (of_filter (is_under s.seq) row t.moved passing)

      fro : (z : ℕ × Moved) → In z (enumerate_from 0 s.items) → In z (enumerate_from 0 things)
      fro z at =
          let row : MovedRow = moved_row s.seq z.0 z.1 in
          let passing : In row (filter (is_under s.seq) t.moved) =
          In-filter (is_under s.seq) row t.moved (thing_stored f t p says s i z at)
          (pos_same s.seq s.seq ∙ eq-eqb s.seq s.seq refl) in
          let w = In-of_map (λ m. moved_row s.seq m.0 m.1) row (enumerate_from 0 things)
          (moved row (filter (is_under s.seq) t.moved) (rows_from s.seq 0 things) are passing) in
          let fit_w = All-In (λ m. is_fit_moved m ≡ true) w.0.1 things fit (in_place 0 w.0 things w.1) in
          let fit_z = All-In (λ m. is_fit_moved m ≡ true) z.1 s.items
          (All-In IsFitReceipt s says.entered says.fit i).items (in_place 0 z s.items at) in
          subst (λ v. In v (enumerate_from 0 things)) (same_place w.0 z s.seq s.seq fit_w fit_z w.2) w.1

  -- what the row of a request and the rows of its number say is kept for the request
  pub receipt_kept : (id : List ℕ) → IsUuid id → (row : ReceiptRow) (r : Receipt) → IsRowFor id t (Some row)
      → AreThose (λ x. int_eq x.seq row.seq) t.moved (rows_at row.seq r.items) → receipt_row r ≡ row
      → IsFitReceipt r
      → Contains p.receipts r × (r.request ≡ id)
  receipt_kept id fit_id row r h are e fit =
      let it = In-of_map receipt_row row says.entered (in_arranged receipt_shape.key (map receipt_row says.entered)
      row (subst (In row) says.receipts (contained t.receipts row h.0))) in
      let s = it.0 in
      let seq : row.seq ≡ pos s.seq = sym (ap (λ x. x.seq) it.2) in
      let items : r.items ≡ s.items = things_kept s it.1 r.items fit.items
      (subst (λ n. AreThose (λ x. int_eq x.seq n) t.moved (rows_at n r.items)) seq are) in
      let same : r ≡ s = same_receipt r s fit (All-In IsFitReceipt s says.entered says.fit it.1) (e ∙ sym it.2)
      items in
      let request : r.request ≡ id = same_uuid r.request id fit.request fit_id
      (ap (λ x. x.request) e ∙ (bytes_eq-Decides row.request (uuid_text id)).0 h.1) in (
        Contains-In r p.receipts (subst (In r) (sym says.kept)
            (to_arranged receipt_key r says.entered (subst (λ x. In x says.entered) (sym same) it.1))),
        request,
      )

  -- where no row has the text of a request, no receipt is kept for it
  pub none_kept : (id : List ℕ) → IsRowFor id t None → has (λ r. r.request) id p.receipts ≡ false
  none_kept id none =
      ap (has (λ r. r.request) id) says.kept ∙ list_any-arranged receipt_key (λ r. bytes_eq r.request id)
      says.entered
      ∙ no_text receipt_row (λ x. x.request) (λ r. r.request) (λ r. refl) id says.entered
      (sym (ap (list_any (λ x. bytes_eq x.request (uuid_text id))) says.receipts
      ∙ list_any-arranged receipt_shape.key (λ x. bytes_eq x.request (uuid_text id))
      (map receipt_row says.entered)) ∙ none)
