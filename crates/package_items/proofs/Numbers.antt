-- The identity rows of a store whose rows are in range and tied, each with the content of its row.
use Rattle.std.proofs.Common.{◌≡◌, ◌⊎◌, ℤ, pos, List, map, true, false, sym, ap, subst, ◌∙◌, inl}
use Rattle.std.proofs.Common.{inr}
use Rattle.std.specs.Prelude.{bytes_eq, ◌&&◌, ◌||◌, unsigned_abs}
use Rattle.std.specs.List.{AllByRecursion, IsDistinct, list_any}
use Rattle.std.specs.Ordering.{int_eq}
use Rattle.std.proofs.lemmas.Bool.{true≢false, false_from_ne_true, and_parts, and_from, or_cases}
use Rattle.std.proofs.lemmas.Slice.Eq.{bytes_eq-Decides}
use borrow.Author.Tests.{eq-eqb}
use Rattle.sheet_types.specs.Lines.{IsUuid}
use Rattle.sheet_types.specs.Texts.{uuid_text, kind_of}
use Rattle.sheet_types.specs.World.{kind_number, kind_is}
use Rattle.sheet_types.specs.declared.command.Content.{Content}
use Rattle.sheet_types.specs.declared.command.Content.TheVariants.{Tile, Media, Row}
use Rattle.sheet_types.specs.declared.frame.Frame.{Frame}
use Rattle.sheet_types.specs.declared.receipt.MovedKind.{MovedKind}
use Rattle.sheet_types.proofs.Every.{All-weaker, All-both}
use Rattle.sheet_types.proofs.Same.{In, In-of_map, any_at}
use Rattle.package_tables.specs.Package.{Tables}
use Rattle.package_tables.specs.declared.rows.IdentityRow.{IdentityRow}
use Rattle.identity_register.specs.Numbering.{Numbered, IsNumbering, identity_row, place_in_tables, is_taken}
use Rattle.identity_register.proofs.Deleting.{same_number, pos_same}
use Rattle.package_items.specs.Ranges.{AreItemsInRange, IsIdentityInRange, is_local}
use Rattle.package_items.specs.Tied.{AreTied, AreUnique, has_row, is_same_row, is_same_uuid}
use Rattle.package_items.proofs.Apart.{int_same, distinct_keys, distinct_of_map, collected}

-- the tables have the row of this content under the number
abbrev pub HasContent : Tables → ℤ → Content → Type 0
HasContent t number (Tile zoom column row bytes) = In (record
    { id = number; zoom_level = zoom; tile_column = column; tile_row = row; tile_data = bytes }) t.tiles
HasContent t number (Media content_type bytes) = In (record {
  id = number;
  «data» = bytes;
  content_type = content_type;
}) t.media
HasContent t number (Row x y code label) = In (record { id = number; x = x; y = y; code = code; label = label }) t.rows

pub record IsHere (t : Tables) (n : Numbered) : Type 0 where
  pub number : is_local n.number ≡ true
  pub uuid : IsUuid n.item.identity
  pub content : HasContent t n.number n.item.content

-- a row of one of the three tables
abbrev pub Which : ℤ → ℤ → Tables → Type 0
Which kind number t = ((kind ≡ pos 1) × (list_any (λ r. int_eq r.id number) t.tiles ≡ true))
    ⊎ (((kind ≡ pos 2) × (list_any (λ r. int_eq r.id number) t.media ≡ true))
    ⊎ ((kind ≡ pos 3) × (list_any (λ r. int_eq r.id number) t.rows ≡ true)))

pub which : (kind number : ℤ) (t : Tables) → has_row kind number t ≡ true → Which kind number t
which kind number t h =
    let tiles = int_eq kind (pos 1) && list_any (λ r. int_eq r.id number) t.tiles in
    let media = int_eq kind (pos 2) && list_any (λ r. int_eq r.id number) t.media in
    let rows = int_eq kind (pos 3) && list_any (λ r. int_eq r.id number) t.rows in
    elim (or_cases (tiles || media) rows h) [
      | inl front ↦ elim (or_cases tiles media front) [
        | inl e ↦ let p = and_parts (int_eq kind (pos 1)) (list_any (λ r. int_eq r.id number) t.tiles) e in inl
            (int_same kind (pos 1) p.0, p.1)
        | inr e ↦ let p = and_parts (int_eq kind (pos 2)) (list_any (λ r. int_eq r.id number) t.media) e in inr
            (inl (int_same kind (pos 2) p.0, p.1))
      ]
      | inr e ↦ let p = and_parts (int_eq kind (pos 3)) (list_any (λ r. int_eq r.id number) t.rows) e in inr
          (inr (int_same kind (pos 3) p.0, p.1))
    ]

module _ (t : Tables) where
  -- an identity row in range, with a row, is that of an item
  pub item_of_row : (r : IdentityRow) → IsIdentityInRange r × (has_row r.kind r.local_id t ≡ true)
      → (n : Numbered)
      × (identity_row n ≡ r) × IsHere t n
  item_of_row r h = elim (which r.kind r.local_id t h.1) [
    | inl e ↦
        let y = any_at (λ x. int_eq x.id r.local_id) t.tiles e.1 in
        let number : y.0.id ≡ r.local_id = int_same y.0.id r.local_id y.2 in (
          record {
            number = r.local_id;
            item = record {
              identity = h.0.uuid.0;
              content = Tile y.0.zoom_level y.0.tile_column y.0.tile_row y.0.tile_data;
            };
          },
          λ n. record { kind = sym e.0 n; local_id = r.local_id; uuid = sym h.0.uuid.2 n },
          record {
            number = h.0.number;
            uuid = h.0.uuid.1;
            content =
                subst (λ v. In (record {
                  id = v;
                  zoom_level = y.0.zoom_level;
                  tile_column = y.0.tile_column;
                  tile_row = y.0.tile_row;
                  tile_data = y.0.tile_data;
                }) t.tiles) number y.1;
          },
        )
    | inr other ↦ elim other [
      | inl e ↦
          let y = any_at (λ x. int_eq x.id r.local_id) t.media e.1 in
          let number : y.0.id ≡ r.local_id = int_same y.0.id r.local_id y.2 in (
            record {
              number = r.local_id;
              item = record {
                identity = h.0.uuid.0;
                content = Media y.0.content_type y.0.data;
              };
            },
            λ n. record { kind = sym e.0 n; local_id = r.local_id; uuid = sym h.0.uuid.2 n },
            record {
              number = h.0.number;
              uuid = h.0.uuid.1;
              content =
                  subst (λ v. In (record { id = v; «data» = y.0.data; content_type = y.0.content_type }) t.media)
                  number
                  y.1;
            },
          )
      | inr e ↦
          let y = any_at (λ x. int_eq x.id r.local_id) t.rows e.1 in
          let number : y.0.id ≡ r.local_id = int_same y.0.id r.local_id y.2 in (
            record {
              number = r.local_id;
              item = record {
                identity = h.0.uuid.0;
                content = Row y.0.x y.0.y y.0.code y.0.label;
              };
            },
            λ n. record { kind = sym e.0 n; local_id = r.local_id; uuid = sym h.0.uuid.2 n },
            record {
              number = h.0.number;
              uuid = h.0.uuid.1;
              content =
                  subst (λ v. In (record { id = v; x = y.0.x; y = y.0.y; code = y.0.code; label = y.0.label }) t.rows)
                  number y.1;
            },
          )
    ]
  ]

  -- so all identity rows are those of items
  pub all_items : {f : Frame} → AreItemsInRange f t → AreTied t → (numbered : List Numbered)
      × (map identity_row numbered ≡ t.identities) × AllByRecursion (IsHere t) numbered
  all_items inside tied = collected identity_row (λ r. IsIdentityInRange r × (has_row r.kind r.local_id t ≡ true))
      (IsHere t) item_of_row t.identities (All-both _ _ _ (λ r a b. (a, b)) t.identities inside.identities
      tied.identities)

-- two items in one place of the tables have one identity row
row_apart : (t : Tables) (a b : Numbered) → IsHere t a → IsHere t b
    → is_same_row (identity_row a) (identity_row b) ≡ false → bytes_eq (place_in_tables a) (place_in_tables b)
    ≡ false
row_apart t a b ha hb apart = false_from_ne_true _ (λ e.
    let same : place_in_tables a ≡ place_in_tables b = (bytes_eq-Decides (place_in_tables a) (place_in_tables b)).0
    e in
    let kind : kind_number (kind_of a.item.content) ≡ kind_number (kind_of b.item.content) = cc in
    let number : unsigned_abs a.number ≡ unsigned_abs b.number = cc in
    true≢false (sym (and_from (int_eq (identity_row a).kind (identity_row b).kind) (int_eq a.number b.number)
    (pos_same _ _ ∙ eq-eqb _ _ kind) (same_number a.number b.number ha.number hb.number ∙ eq-eqb _ _ number))
    ∙ apart))

uuid_apart : (a b : Numbered) → is_same_uuid (identity_row a) (identity_row b) ≡ false
    → bytes_eq a.item.identity b.item.identity ≡ false
uuid_apart a b apart = false_from_ne_true _ (λ e.
    let same : a.item.identity ≡ b.item.identity = (bytes_eq-Decides a.item.identity b.item.identity).0 e in
    true≢false (sym ((bytes_eq-Decides (uuid_text a.item.identity) (uuid_text b.item.identity)).1 (ap uuid_text same))
    ∙ apart))

pub numbering : (t : Tables) (numbered : List Numbered) → map identity_row numbered ≡ t.identities
    → AllByRecursion (IsHere t) numbered → AreUnique t → IsNumbering numbered
numbering t numbered rows here unique = record {
  range = All-weaker (IsHere t) _ (λ n h. h.number) numbered here;
  numbers = distinct_keys _ place_in_tables (IsHere t) (row_apart t) numbered here
      (distinct_of_map is_same_row identity_row numbered (subst (IsDistinct is_same_row) (sym rows) unique.numbers));
  identities = distinct_keys _ (λ n. n.item.identity) (IsHere t) (λ a b ha hb. uuid_apart a b) numbered here
      (distinct_of_map is_same_uuid identity_row numbered (subst (IsDistinct is_same_uuid) (sym rows) unique.uuids));
  uuids = All-weaker (IsHere t) _ (λ n h. h.uuid) numbered here;
}

-- the item of a number that an identity row has
pub named : (t : Tables) (numbered : List Numbered) → map identity_row numbered ≡ t.identities
    → (kind : MovedKind) (number : ℤ) → is_taken (pos (kind_number kind)) number t ≡ true
    → (n : Numbered) × In n numbered × (kind_is kind (kind_of n.item.content) ≡ true) × (n.number ≡ number)
named t numbered rows kind number taken =
    let row = any_at (λ x. int_eq x.kind (pos (kind_number kind)) && int_eq x.local_id number) t.identities taken in
    let both = and_parts (int_eq row.0.kind (pos (kind_number kind))) (int_eq row.0.local_id number) row.2 in
    let n = In-of_map identity_row row.0 numbered (subst (In row.0) (sym rows) row.1) in
    let of_kind : pos (kind_number (kind_of n.0.item.content)) ≡ pos (kind_number kind) =
    ap (λ x. x.kind) n.2 ∙ int_same row.0.kind (pos (kind_number kind)) both.0 in (
      n.0,
      n.1,
      eq-eqb _ _ (sym (ap unsigned_abs of_kind)),
      ap (λ x. x.local_id) n.2
          ∙ int_same row.0.local_id number both.1,
    )
