-- The row of an item, by its kind and number, has the item's content.
use Rattle.std.proofs.Common.{◌≡◌, ℕ, ℤ, pos, List, [], ◌∷◌, true, Option, Some, Result, Ok, sym, ap}
use Rattle.std.proofs.Common.{subst, ◌∙◌, inl}
use Rattle.std.proofs.Common.{inr, arith}
use Rattle.std.specs.Prelude.{bytes_eq, flat_map, unsigned_abs, Contains}
use Rattle.std.specs.Ordering.{int_eq}
use Rattle.std.specs.Result.{result_ok}
use Rattle.std.proofs.lemmas.Slice.Eq.{bytes_eq-Decides}
use Rattle.sqlite.specs.State.{State}
use Rattle.store_sql.specs.Transactions.{Looks}
use Rattle.sheet_types.specs.Texts.{uuid_text, kind_of}
use Rattle.sheet_types.specs.World.{Package, kind_number, item_of}
use Rattle.sheet_types.specs.Lines.{IsUuid}
use Rattle.sheet_types.specs.declared.command.Content.{Content}
use Rattle.sheet_types.specs.declared.command.Content.TheVariants.{Tile, Media, Row}
use Rattle.sheet_types.specs.declared.command.Item.{Item}
use Rattle.sheet_types.specs.declared.frame.Frame.{Frame}
use Rattle.sheet_types.proofs.Basics.{bytes_eq_itself}
use Rattle.sheet_types.proofs.Same.{In, In-of_flat_map, All-In}
use Rattle.package_tables.specs.Calls.{Answers, IsOneOf}
use Rattle.package_tables.specs.Package.{Tables}
use Rattle.package_tables.specs.Shapes.{tile_shape, medium_shape, attribute_shape}
use Rattle.package_tables.specs.declared.rows.AttributeRow.{AttributeRow}
use Rattle.package_tables.specs.declared.rows.IdentityRow.{IdentityRow}
use Rattle.package_tables.specs.declared.rows.MediaRow.{MediaRow}
use Rattle.package_tables.specs.declared.rows.TileRow.{TileRow}
use Rattle.identity_register.specs.Answers.{IsContentOf}
use Rattle.identity_register.specs.Numbering.{Numbered, place_in_tables, tile_rows, media_rows, attribute_rows}
use Rattle.identity_register.specs.Reads.{Says}
use Rattle.identity_register.proofs.Answering.{item_of_row, same_item}
use Rattle.identity_register.proofs.Deleting.{same_tests}
use Rattle.identity_register.proofs.Finding.{contained, in_arranged}
use Rattle.identity_register.proofs.Looking.{looked, tells}

pub int_same : (a b : ℤ) → int_eq a b ≡ true → a ≡ b
int_same a b h = grind (arith)

-- the row that a look-up by the number found says what the number's content is
pub content_found : {R E F : Type 0} (id : R → ℤ) (rows : Tables → List R) (kind number : ℤ) {r : R}
    {content : Content} {a b : State} {o : Option R} {found : Result (Option R) E} {made : Result R F}
    → found ≡ Ok o
    → o ≡ result_ok made → made ≡ Ok r
    → Looks {X = Option R} {E = E} (Answers (λ t. IsOneOf (λ x. int_eq (id x) number) (rows t))) a b found
    → ((t : Tables) → Contains (rows t) r → IsContentOf kind (id r) t content)
    → Looks {X = Content} {E = E} (Answers (IsContentOf kind number)) a b (Ok content)
content_found id rows kind number {r} {content} answered there is looks so =
    tells (IsContentOf kind number) (looked (λ t. IsOneOf (λ x. int_eq (id x) number) (rows t))
    (answered ∙ ap Ok (there ∙ ap result_ok is)) looks)
    (λ t h. subst (λ n. IsContentOf kind n t content) (int_same (id r) number h.1) (so t h.0))

-- ---- the one row of a content

tile_is : (number : ℤ) (content : Content) (r : TileRow) → In r (tile_rows number content)
    → (content ≡ Tile r.zoom_level r.tile_column r.tile_row r.tile_data) × (number ≡ r.id)
tile_is number (Tile z c w b) r i = elim i [
  | inl e ↦ (
    ap (λ x. Tile x.zoom_level x.tile_column x.tile_row x.tile_data)
        e,
    ap (λ x. x.id) e,
  )
  | inr j ↦ absurd j
]
tile_is number (Media k b) r i = absurd i
tile_is number (Row x y c l) r i = absurd i

medium_is : (number : ℤ) (content : Content) (r : MediaRow) → In r (media_rows number content)
    → (content ≡ Media r.content_type r.data) × (number ≡ r.id)
medium_is number (Tile z c w b) r i = absurd i
medium_is number (Media k b) r i = elim i [
  | inl e ↦ (ap (λ x. Media x.content_type x.data) e, ap (λ x. x.id) e)
  | inr j ↦ absurd j
]
medium_is number (Row x y c l) r i = absurd i

attributes_are : (number : ℤ) (content : Content) (r : AttributeRow) → In r (attribute_rows number content)
    → (content ≡ Row r.x r.y r.code r.label) × (number ≡ r.id)
attributes_are number (Tile z c w b) r i = absurd i
attributes_are number (Media k b) r i = absurd i
attributes_are number (Row x y c l) r i = elim i [
  | inl e ↦ (ap (λ x. Row x.x x.y x.code x.label) e, ap (λ x. x.id) e)
  | inr j ↦ absurd j
]

module _ (f : Frame) (p : Package) (t : Tables) (says : Says f p t) where
  -- a kind and a number name one item
  pub one_place : (m n : Numbered) → In m says.numbered → In n says.numbered
      → kind_number (kind_of m.item.content) ≡ kind_number (kind_of n.item.content) → m.number ≡ n.number
      → m ≡ n
  one_place m n i j kinds numbers =
      let place : place_in_tables m ≡ place_in_tables n = ap (λ k. k ∷ unsigned_abs m.number ∷ []) kinds
      ∙ ap (λ k. kind_number (kind_of n.item.content) ∷ unsigned_abs k ∷ []) numbers in
      let tests = All-In (λ y. bytes_eq (place_in_tables y) (place_in_tables n)
      ≡ bytes_eq y.item.identity n.item.identity) m says.numbered
      (same_tests place_in_tables (λ y. y.item.identity) n says.numbered says.numbers.numbers
      says.numbers.identities j) i in
      same_item f p t says m n i j ((bytes_eq-Decides m.item.identity n.item.identity).0
      (sym tests ∙ ap (λ x. bytes_eq x (place_in_tables n)) place ∙ bytes_eq_itself (place_in_tables n)))

  -- the content of the row is that of the item
  content_is : (n : Numbered) → In n says.numbered → (content : Content)
      → IsContentOf (pos (kind_number (kind_of n.item.content))) n.number t content → content ≡ n.item.content
  content_is n i (Tile z c w b) h =
      let row : TileRow = record { id = n.number; zoom_level = z; tile_column = c; tile_row = w; tile_data = b } in
      let it = In-of_flat_map (λ m. tile_rows m.number m.item.content) row says.numbered
      (in_arranged tile_shape.key (flat_map (λ m. tile_rows m.number m.item.content) says.numbered) row
      (subst (In row) says.tiles (contained t.tiles row h.1))) in
      let is = tile_is it.0.number it.0.item.content row it.2 in
      let same : it.0 ≡ n = one_place it.0 n it.1 i (ap (λ x. kind_number (kind_of x)) is.0
      ∙ sym (ap unsigned_abs h.0)) is.1 in
      sym is.0 ∙ ap (λ x. x.item.content) same
  content_is n i (Media k b) h =
      let row : MediaRow = record { id = n.number; «data» = b; content_type = k } in
      let it = In-of_flat_map (λ m. media_rows m.number m.item.content) row says.numbered
      (in_arranged medium_shape.key (flat_map (λ m. media_rows m.number m.item.content) says.numbered) row
      (subst (In row) says.media (contained t.media row h.1))) in
      let is = medium_is it.0.number it.0.item.content row it.2 in
      let same : it.0 ≡ n = one_place it.0 n it.1 i (ap (λ x. kind_number (kind_of x)) is.0
      ∙ sym (ap unsigned_abs h.0)) is.1 in
      sym is.0 ∙ ap (λ x. x.item.content) same
  content_is n i (Row x y c l) h =
      let row : AttributeRow = record { id = n.number; x = x; y = y; code = c; label = l } in
      let it = In-of_flat_map (λ m. attribute_rows m.number m.item.content) row says.numbered
      (in_arranged attribute_shape.key (flat_map (λ m. attribute_rows m.number m.item.content) says.numbered)
      row (subst (In row) says.rows (contained t.rows row h.1))) in
      let is = attributes_are it.0.number it.0.item.content row it.2 in
      let same : it.0 ≡ n = one_place it.0 n it.1 i (ap (λ x. kind_number (kind_of x)) is.0
      ∙ sym (ap unsigned_abs h.0)) is.1 in
      sym is.0 ∙ ap (λ x. x.item.content) same

  -- the item of an identity, by its row and its content
  pub content_by_row : (id : List ℕ) → IsUuid id → (r : IdentityRow) (content : Content)
      → Contains t.identities r
      × (bytes_eq r.uuid (uuid_text id) ≡ true) → IsContentOf r.kind r.local_id t content
      → Some (record { identity = id; content = content }) ≡ item_of p id
  content_by_row id fit r content row h =
      let it = item_of_row f p t says id fit r row in
      let is : content ≡ it.0.item.content = content_is it.0 it.1 content
      (subst (λ r. IsContentOf r.kind r.local_id t content) (sym it.2) h) in
      let item : ◌≡◌ {A = Item} (record { identity = id; content = content }) it.0.item =
      ap (λ k. record { identity = id; content = k }) is
      ∙ ap (λ x. record { identity = x; content = it.0.item.content }) (sym it.3) in
      ap Some item ∙ sym it.4
