-- Rows and identities of a package answer to each other, and mapping rows to rows.
use Rattle.std.proofs.Common.{◌≡◌, ℕ, ℤ, pos, List, [], ◌∷◌, map, true, false, cond, refl, sym, ap}
use Rattle.std.proofs.Common.{subst, ◌∙◌, inl}
use Rattle.std.specs.Prelude.{◌&&◌, flat_map}
use Rattle.std.specs.List.{AllByRecursion}
use Rattle.std.specs.Ordering.{int_eq}
use Rattle.std.proofs.lemmas.Bool.{and_from}
use Rattle.sheet_types.specs.Ordered.{has}
use Rattle.sheet_types.specs.Register.{HasEnds}
use Rattle.sheet_types.specs.Texts.{kind_of}
use Rattle.sheet_types.specs.World.{Package, item_key, kind_number, base_kind, other_kind}
use Rattle.sheet_types.specs.declared.command.Content.{Content}
use Rattle.sheet_types.specs.declared.command.Content.TheVariants.{Tile, Media, Row}
use Rattle.sheet_types.specs.declared.command.Mapping.{Mapping}
use Rattle.sheet_types.specs.declared.command.Mapping.TheVariants.{TilesMedia, RowsMedia, RowsTiles}
use Rattle.sheet_types.specs.declared.command.Relation.{Relation}
use Rattle.sheet_types.specs.declared.frame.Frame.{Frame}
use Rattle.sheet_types.specs.declared.receipt.MovedKind.{MovedKind}
use Rattle.sheet_types.proofs.Every.{All-weaker, All-flat_map, All-map}
use Rattle.sheet_types.proofs.KindNumbers.{same_mapping}
use Rattle.sheet_types.proofs.Order.{All-arranged}
use Rattle.sheet_types.proofs.Same.{In, In-all, In-map, In-flat_map, any_in}
use Rattle.package_tables.specs.Mappings.{pair_shape}
use Rattle.package_tables.specs.Package.{Tables}
use Rattle.package_tables.specs.Shapes.{tile_shape, medium_shape, attribute_shape, identity_shape}
use Rattle.package_tables.specs.declared.rows.AttributeRow.{AttributeRow}
use Rattle.package_tables.specs.declared.rows.MappingRow.{MappingRow}
use Rattle.package_tables.specs.declared.rows.MediaRow.{MediaRow}
use Rattle.package_tables.specs.declared.rows.TileRow.{TileRow}
use Rattle.identity_register.specs.Numbering.{Numbered, identity_row, tile_rows, media_rows, attribute_rows}
use Rattle.identity_register.specs.Numbering.{number_of, mapping_row, mapping_is, rows_in, is_taken}
use Rattle.identity_register.specs.Reads.{Says, SaysPairs}
use Rattle.identity_register.proofs.Linking.{end_of}
use Rattle.identity_register.proofs.OnePackage.{to_arranged}
use Rattle.package_items.specs.Tied.{AreTied, has_row, has_ends}
use Rattle.package_items.proofs.Tying.{tile_row, medium_row, attributes_row}
use Rattle.package_receipts.proofs.Lists.{int_eq_itself}

module _ (f : Frame) (p : Package) (t : Tables) (says : Says f p t) where
  -- the stored number of an item's kind
  abbrev kind_at : Numbered → ℤ
  kind_at n = pos (kind_number (kind_of n.item.content))

  -- ---- each item has its row

  row_of : (n : Numbered) → In n says.numbered → (c : Content) → n.item.content ≡ c
      → has_row (kind_at n) n.number t ≡ true
  row_of n i (Tile zoom column row bytes) e =
      let own : TileRow = record {
        id = n.number;
        zoom_level = zoom;
        tile_column = column;
        tile_row = row;
        tile_data = bytes;
      } in
      let here : In own (tile_rows n.number n.item.content) =
      subst (λ c. In own (tile_rows n.number c)) (sym e) (inl refl) in
      let stored : In own t.tiles = subst (In own) (sym says.tiles)
      (to_arranged tile_shape.key own (flat_map (λ m. tile_rows m.number m.item.content) says.numbered)
      (In-flat_map (λ m. tile_rows m.number m.item.content) n own says.numbered i here)) in
      sym (tile_row (kind_at n) n.number t (ap (λ c. pos (kind_number (kind_of c))) e))
      ∙ any_in (λ x. int_eq x.id n.number) own t.tiles stored (int_eq_itself n.number)
  row_of n i (Media content_type bytes) e =
      let own : MediaRow = record { id = n.number; «data» = bytes; content_type = content_type } in
      let here : In own (media_rows n.number n.item.content) =
      subst (λ c. In own (media_rows n.number c)) (sym e) (inl refl) in
      let stored : In own t.media = subst (In own) (sym says.media)
      (to_arranged medium_shape.key own (flat_map (λ m. media_rows m.number m.item.content) says.numbered)
      (In-flat_map (λ m. media_rows m.number m.item.content) n own says.numbered i here)) in
      sym (medium_row (kind_at n) n.number t (ap (λ c. pos (kind_number (kind_of c))) e))
      ∙ any_in (λ x. int_eq x.id n.number) own t.media stored (int_eq_itself n.number)
  row_of n i (Row x y code label) e =
      let own : AttributeRow = record { id = n.number; x = x; y = y; code = code; label = label } in
      let here : In own (attribute_rows n.number n.item.content) =
      subst (λ c. In own (attribute_rows n.number c)) (sym e) (inl refl) in
      let stored : In own t.rows = subst (In own) (sym says.rows)
      (to_arranged attribute_shape.key own (flat_map (λ m. attribute_rows m.number m.item.content)
      says.numbered) (In-flat_map (λ m. attribute_rows m.number m.item.content) n own says.numbered i
      here)) in
      sym (attributes_row (kind_at n) n.number t (ap (λ c. pos (kind_number (kind_of c))) e))
      ∙ any_in (λ z. int_eq z.id n.number) own t.rows stored (int_eq_itself n.number)

  has_its_row : (n : Numbered) → In n says.numbered → has_row (kind_at n) n.number t ≡ true
  has_its_row n i = row_of n i n.item.content refl

  -- ---- and its identity

  is_named : (n : Numbered) → In n says.numbered → is_taken (kind_at n) n.number t ≡ true
  is_named n i =
      let stored : In (identity_row n) t.identities = subst (In (identity_row n)) (sym says.identities)
      (to_arranged identity_shape.key (identity_row n) (map identity_row says.numbered)
      (In-map identity_row n says.numbered i)) in
      any_in (λ x. int_eq x.kind (kind_at n) && int_eq x.local_id n.number) (identity_row n) t.identities stored
      (and_from (int_eq (kind_at n) (kind_at n)) (int_eq n.number n.number) (int_eq_itself (kind_at n))
      (int_eq_itself n.number))

  -- a stored kind and number that an identity has
  abbrev IsNamed : ℤ → ℤ → Type 0
  IsNamed kind number = is_taken kind number t ≡ true

  tile_named : (n : Numbered) → In n says.numbered → AllByRecursion (λ r. IsNamed (pos 1) r.id)
      (tile_rows n.number n.item.content)
  tile_named n i = by n.item.content (is_named n i)
    where
      by : (c : Content) → IsNamed (pos (kind_number (kind_of c))) n.number
          → AllByRecursion (λ r. IsNamed (pos 1) r.id) (tile_rows n.number c)
      by (Tile zoom column row bytes) h = (h, tt)
      by (Media content_type bytes) h = tt
      by (Row x y code label) h = tt

  medium_named : (n : Numbered) → In n says.numbered → AllByRecursion (λ r. IsNamed (pos 2) r.id)
      (media_rows n.number n.item.content)
  medium_named n i = by n.item.content (is_named n i)
    where
      by : (c : Content) → IsNamed (pos (kind_number (kind_of c))) n.number
          → AllByRecursion (λ r. IsNamed (pos 2) r.id) (media_rows n.number c)
      by (Tile zoom column row bytes) h = tt
      by (Media content_type bytes) h = (h, tt)
      by (Row x y code label) h = tt

  row_named : (n : Numbered) → In n says.numbered → AllByRecursion (λ r. IsNamed (pos 3) r.id)
      (attribute_rows n.number n.item.content)
  row_named n i = by n.item.content (is_named n i)
    where
      by : (c : Content) → IsNamed (pos (kind_number (kind_of c))) n.number
          → AllByRecursion (λ r. IsNamed (pos 3) r.id) (attribute_rows n.number c)
      by (Tile zoom column row bytes) h = tt
      by (Media content_type bytes) h = tt
      by (Row x y code label) h = (h, tt)

  -- ---- links

  end_has_row : (kind : MovedKind) (id : List ℕ) → has item_key (kind_number kind ∷ id) p.items ≡ true
      → has_row (pos (kind_number kind)) (number_of says.numbered id) t ≡ true
  end_has_row kind id h =
      let e = end_of f p t says kind id h in
      subst (λ z. has_row (pos (kind_number kind)) z t ≡ true) (sym e.4)
      (subst (λ k. has_row (pos k) e.0.number t ≡ true) e.2 (has_its_row e.0 e.1))

  pair_tied : (l : Relation) → HasEnds p l → has_ends l.mapping t (mapping_row says.numbered l) ≡ true
  pair_tied l ends = and_from (has_row (pos (kind_number (base_kind l.mapping))) (number_of says.numbered l.base) t)
      (has_row (pos (kind_number (other_kind l.mapping))) (number_of says.numbered l.other) t)
      (end_has_row (base_kind l.mapping) l.base ends.0) (end_has_row (other_kind l.mapping) l.other ends.1)

  link_tied : (m : Mapping) (l : Relation) → HasEnds p l → AllByRecursion (λ r. has_ends m t r ≡ true)
      (rows_in m says.numbered l)
  link_tied m l ends =
      elim (mapping_is l.mapping m) as (λ b. mapping_is l.mapping m ≡ b
      → AllByRecursion (λ r. has_ends m t r ≡ true) (cond b (mapping_row says.numbered l ∷ []) [])) [
        | true ↦ λ e. (
          subst (λ k. has_ends k t (mapping_row says.numbered l) ≡ true) (same_mapping l.mapping m e)
              (pair_tied l ends),
          tt,
        )
        | false ↦ λ _. tt
      ] refl

  pairs_tied : (m : Mapping) (table : List MappingRow) → SaysPairs m says.numbered says.linked table
      → AllByRecursion (λ r. has_ends m t r ≡ true) table
  pairs_tied m table is = subst (AllByRecursion (λ r. has_ends m t r ≡ true)) (sym is)
      (All-arranged (pair_shape m).key (λ r. has_ends m t r ≡ true) (flat_map (rows_in m says.numbered) says.linked)
      (All-flat_map (λ r. has_ends m t r ≡ true) (rows_in m says.numbered) says.linked
      (All-weaker (HasEnds p) (λ l. AllByRecursion (λ r. has_ends m t r ≡ true) (rows_in m says.numbered l))
      (λ l ends. link_tied m l ends) says.linked says.ends)))

  pub all_tied : AreTied t
  all_tied = record {
    tiles = subst (AllByRecursion (λ r. IsNamed (pos 1) r.id)) (sym says.tiles)
        (All-arranged tile_shape.key (λ r. IsNamed (pos 1) r.id)
        (flat_map (λ n. tile_rows n.number n.item.content) says.numbered)
        (All-flat_map (λ r. IsNamed (pos 1) r.id) (λ n. tile_rows n.number n.item.content) says.numbered
        (All-weaker (λ n. In n says.numbered) (λ n. AllByRecursion (λ r. IsNamed (pos 1) r.id)
        (tile_rows n.number n.item.content)) tile_named says.numbered (In-all says.numbered))));
    media = subst (AllByRecursion (λ r. IsNamed (pos 2) r.id)) (sym says.media)
        (All-arranged medium_shape.key (λ r. IsNamed (pos 2) r.id)
        (flat_map (λ n. media_rows n.number n.item.content) says.numbered)
        (All-flat_map (λ r. IsNamed (pos 2) r.id) (λ n. media_rows n.number n.item.content) says.numbered
        (All-weaker (λ n. In n says.numbered) (λ n. AllByRecursion (λ r. IsNamed (pos 2) r.id)
        (media_rows n.number n.item.content)) medium_named says.numbered (In-all says.numbered))));
    rows = subst (AllByRecursion (λ r. IsNamed (pos 3) r.id)) (sym says.rows)
        (All-arranged attribute_shape.key (λ r. IsNamed (pos 3) r.id)
        (flat_map (λ n. attribute_rows n.number n.item.content) says.numbered)
        (All-flat_map (λ r. IsNamed (pos 3) r.id) (λ n. attribute_rows n.number n.item.content) says.numbered
        (All-weaker (λ n. In n says.numbered) (λ n. AllByRecursion (λ r. IsNamed (pos 3) r.id)
        (attribute_rows n.number n.item.content)) row_named says.numbered (In-all says.numbered))));
    identities = subst (AllByRecursion (λ r. has_row r.kind r.local_id t ≡ true)) (sym says.identities)
        (All-arranged identity_shape.key (λ r. has_row r.kind r.local_id t ≡ true) (map identity_row says.numbered)
        (All-map (λ r. has_row r.kind r.local_id t ≡ true) identity_row says.numbered
        (All-weaker (λ n. In n says.numbered) (λ n. has_row (kind_at n) n.number t ≡ true) has_its_row says.numbered
        (In-all says.numbered))));
    tiles_media = pairs_tied TilesMedia t.tiles_media says.tiles_media;
    rows_media = pairs_tied RowsMedia t.rows_media says.rows_media;
    rows_tiles = pairs_tied RowsTiles t.rows_tiles says.rows_tiles;
  }
