-- An item that is added under a free number and a new identity.
use Rattle.std.proofs.Common.{◌≡◌, ℕ, pos, List, [], ◌∷◌, ◌++◌, map, Bool, true, false, refl, sym}
use Rattle.std.proofs.Common.{ap, subst, ◌∙◌}
use Rattle.std.specs.Prelude.{◌||◌, ◌==◌, bytes_eq, flat_map}
use Rattle.std.specs.List.{AllByRecursion, IsDistinct, list_any}
use Rattle.std.proofs.lemmas.Bool.{true≢false, and_parts, false_from_ne_true}
use Rattle.std.proofs.lemmas.Slice.Eq.{bytes_eq-Decides}
use Rattle.sheet_types.specs.Ordered.{arranged, put, has}
use Rattle.sheet_types.specs.Matrix.{is_within}
use Rattle.sheet_types.specs.Texts.{kind_of}
use Rattle.sheet_types.specs.World.{Package, item_key, kind_number, base_kind, other_kind, has_item}
use Rattle.sheet_types.specs.Register.{HasEnds}
use Rattle.sheet_types.specs.Lines.{IsUuid}
use Rattle.sheet_types.specs.declared.command.Item.{Item}
use Rattle.sheet_types.specs.declared.command.Mapping.{Mapping}
use Rattle.sheet_types.specs.declared.command.Mapping.TheVariants.{TilesMedia, RowsMedia, RowsTiles}
use Rattle.sheet_types.specs.declared.command.Relation.{Relation}
use Rattle.sheet_types.specs.declared.frame.Frame.{Frame}
use Rattle.sheet_types.proofs.Every.{All-weaker, All-of_map, All-map, none_pass}
use Rattle.sheet_types.proofs.Order.{list_any-put, list_any-arranged}
use Rattle.sheet_types.proofs.Basics.{bytes_eq_swap, or-true}
use Rattle.package_tables.specs.Shapes.{tile_shape, medium_shape, attribute_shape, identity_shape}
use Rattle.package_tables.specs.Package.{Tables}
use Rattle.package_tables.specs.declared.rows.MappingRow.{MappingRow}
use Rattle.identity_register.specs.Numbering.{Numbered, greatest_number, place_in_tables, tile_rows, media_rows}
use Rattle.identity_register.specs.Numbering.{attribute_rows, identity_row, number_of, mapping_row, mapping_is}
use Rattle.identity_register.specs.Numbering.{rows_in, puts, with_item}
use Rattle.identity_register.specs.Reads.{Says, SaysPairs}
use Rattle.identity_register.proofs.MappingTables.{row_if, pairs_kept}
use Rattle.identity_register.proofs.Deleting.{flat_map_same}
use Rattle.identity_register.proofs.Finding.{weaker_any}

-- ---- who has an identity

-- what has a kind and an identity has the identity
item_from_kind : (kind : ℕ) (id : List ℕ) (i : Item) → bytes_eq (item_key i) (kind ∷ id) ≡ true
    → bytes_eq i.identity id ≡ true
item_from_kind kind id i h = (and_parts (kind_number (kind_of i.content) == kind) (bytes_eq i.identity id) h).1

-- an identity that no item has is the end of no link
pub other_end : (p : Package) (kind : ℕ) (new id : List ℕ) → has_item p new ≡ false
    → has item_key (kind ∷ id) p.items ≡ true → bytes_eq new id ≡ false
other_end p kind new id fresh there = false_from_ne_true (bytes_eq new id)
    (λ e. true≢false (sym there ∙ weaker_any (λ i. bytes_eq (item_key i) (kind ∷ id))
    (λ i. bytes_eq i.identity new)
    (same e) p.items fresh))
  where
    same : bytes_eq new id ≡ true → (i : Item) → bytes_eq (item_key i) (kind ∷ id) ≡ true
        → bytes_eq i.identity new ≡ true
    same e i h = subst (λ x. bytes_eq i.identity x ≡ true) (sym ((bytes_eq-Decides new id).0 e))
        (item_from_kind kind id i h)

-- ---- the tables

arranged-puts : {X : Type 0} (key : X → List ℕ) (new xs : List X)
    → arranged key (new ++ xs) ≡ puts key new (arranged key xs)
arranged-puts key [] xs = refl
arranged-puts key (x ∷ new) xs = ap (put key x) (arranged-puts key new xs)

module _ (p : Package) (n : Numbered) (fresh : has_item p n.item.identity ≡ false) where
  -- numbers of identities that were there stay
  number_kept : (numbered : List Numbered) (id : List ℕ) → bytes_eq n.item.identity id ≡ false
      → number_of (n ∷ numbered) id ≡ number_of numbered id
  number_kept numbered id h = rw h refl

  ends_apart : (l : Relation) → HasEnds p l → (bytes_eq n.item.identity l.base ≡ false)
      × (bytes_eq n.item.identity l.other ≡ false)
  ends_apart l h = (
    other_end p (kind_number (base_kind l.mapping)) n.item.identity l.base fresh h.0,
    other_end p
        (kind_number (other_kind l.mapping)) n.item.identity l.other fresh h.1,
  )

  row_kept : (numbered : List Numbered) (l : Relation) → HasEnds p l
      → mapping_row (n ∷ numbered) l ≡ mapping_row numbered l
  row_kept numbered l h =
      let apart = ends_apart l h in
      rw (number_kept numbered l.base apart.0, number_kept numbered l.other apart.1) refl

  rows_kept : (k : Mapping) (numbered : List Numbered) (l : Relation) → HasEnds p l
      → rows_in k (n ∷ numbered) l ≡ rows_in k numbered l
  rows_kept k numbered l h = ap (row_if (mapping_is l.mapping k)) (row_kept numbered l h)

  pairs_more : (k : Mapping) (numbered : List Numbered) (linked : List Relation) (table : List MappingRow)
      → AllByRecursion (HasEnds p) linked → SaysPairs k numbered linked table
      → SaysPairs k (n ∷ numbered) linked table
  pairs_more k numbered linked table ends = pairs_kept k numbered (n ∷ numbered) linked table
      (flat_map_same _ _ linked (All-weaker (HasEnds p) _ (rows_kept k numbered) linked ends))

  still_there : (q : Item → Bool) → list_any q p.items ≡ true
      → list_any q (put item_key n.item p.items) ≡ true
  still_there q h = list_any-put item_key q n.item p.items ∙ ap (λ b. q n.item || b) h ∙ or-true (q n.item)

  ends_kept : (l : Relation) → HasEnds p l → HasEnds (record p { items = put item_key n.item p.items }) l
  ends_kept l h = (still_there _ h.0, still_there _ h.1)

-- the keys of stored identities are those of the numbering
identity_keys : (k : List ℕ) (numbered : List Numbered) → has identity_shape.key k
    (arranged identity_shape.key (map identity_row numbered)) ≡ false
    → AllByRecursion (λ m. bytes_eq (place_in_tables m) k ≡ false) numbered
identity_keys k numbered h =
    All-of_map (λ r. bytes_eq (identity_shape.key r) k ≡ false) identity_row numbered
    (none_pass (λ r. bytes_eq (identity_shape.key r) k) (map identity_row numbered)
    (sym (list_any-arranged identity_shape.key (λ r. bytes_eq (identity_shape.key r) k)
    (map identity_row numbered)) ∙ h))

item_identities : (id : List ℕ) (numbered : List Numbered) → list_any (λ i. bytes_eq i.identity id)
    (arranged item_key (map (λ n. n.item) numbered)) ≡ false
    → AllByRecursion (λ m. bytes_eq m.item.identity id ≡ false) numbered
item_identities id numbered h =
    All-of_map (λ i. bytes_eq i.identity id ≡ false) (λ n. n.item) numbered
    (none_pass (λ i. bytes_eq i.identity id) (map (λ n. n.item) numbered)
    (sym (list_any-arranged item_key (λ i. bytes_eq i.identity id) (map (λ n. n.item) numbered)) ∙ h))

-- a key that none has is none of the keys
pub turned : {X : Type 0} (f : X → List ℕ) (k : List ℕ) (xs : List X)
    → AllByRecursion (λ x. bytes_eq (f x) k ≡ false) xs → AllByRecursion (λ y. bytes_eq k y ≡ false)
    (map f xs)
turned f k xs h = All-map (λ y. bytes_eq k y ≡ false) f xs (All-weaker _ _ (λ x e. bytes_eq_swap k (f x) ∙ e) xs
    h)

-- one item more, under a number that is free in its kind
pub adds : (f : Frame) (p : Package) (t : Tables) (n : Numbered) → Says f p t → has_item p n.item.identity ≡ false
    → IsUuid n.item.identity → is_within (pos 1) greatest_number n.number ≡ true
    → has identity_shape.key (place_in_tables n) t.identities ≡ false
    → Says f (record p { items = put item_key n.item p.items }) (with_item n t)
unfolding IsDistinct
adds f p t n says fresh uuid range free =
    let ns = says.numbered in
    record {
      good = says.good;
      fixed = says.fixed;
      dated = says.dated;
      created = says.created;
      moment = says.moment;
      fit_head = says.fit_head;
      head = says.head;
      numbered = n ∷ ns;
      of_items = record {
        numbers = record {
          range = (range, says.numbers.range);
          numbers = (
            turned place_in_tables (place_in_tables n) ns
                (identity_keys (place_in_tables n) ns (rw says.identities at free)),
            says.numbers.numbers,
          );
          identities = (
            turned (λ m. m.item.identity) n.item.identity ns
                (item_identities n.item.identity ns (rw says.items at fresh)),
            says.numbers.identities,
          );
          uuids = (uuid, says.numbers.uuids);
        };
        items = ap (put item_key n.item) says.items;
        tiles = ap (puts tile_shape.key (tile_rows n.number n.item.content)) says.tiles
            ∙ sym (arranged-puts tile_shape.key (tile_rows n.number n.item.content)
            (flat_map (λ m. tile_rows m.number m.item.content) ns));
        media = ap (puts medium_shape.key (media_rows n.number n.item.content)) says.media
            ∙ sym (arranged-puts medium_shape.key (media_rows n.number n.item.content)
            (flat_map (λ m. media_rows m.number m.item.content) ns));
        rows = ap (puts attribute_shape.key (attribute_rows n.number n.item.content)) says.rows
            ∙ sym (arranged-puts attribute_shape.key (attribute_rows n.number n.item.content)
            (flat_map (λ m. attribute_rows m.number m.item.content) ns));
        identities = ap (put identity_shape.key (identity_row n)) says.identities;
      };
      linked = says.linked;
      ends = All-weaker (HasEnds p) _ (ends_kept p n fresh) says.linked says.ends;
      of_links = record {
        distinct_links = says.distinct_links;
        links = says.links;
        tiles_media = pairs_more p n fresh TilesMedia ns says.linked t.tiles_media says.ends says.tiles_media;
        rows_media = pairs_more p n fresh RowsMedia ns says.linked t.rows_media says.ends says.rows_media;
        rows_tiles = pairs_more p n fresh RowsTiles ns says.linked t.rows_tiles says.ends says.rows_tiles;
      };
      entered = says.entered;
      of_receipts = says.of_receipts;
    }
