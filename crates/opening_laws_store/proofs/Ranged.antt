-- The rows of items and links of a package that keeps its rules are in their ranges.
use Rattle.std.proofs.Common.{◌≡◌, ℕ, ℤ, pos, List, [], ◌∷◌, map, true, false, not, cond, refl, sym}
use Rattle.std.proofs.Common.{ap, subst}
use Rattle.std.specs.Prelude.{◌&&◌, ◌==◌, flat_map}
use Rattle.std.specs.List.{AllByRecursion, list_any, list_all}
use Rattle.std.proofs.lemmas.Bool.{and_parts, and_from}
use Rattle.sheet_types.specs.Lines.{IsUuid}
use Rattle.sheet_types.specs.Matrix.{is_within, has_place, in_frame}
use Rattle.sheet_types.specs.Ordered.{has}
use Rattle.sheet_types.specs.Refuse.{is_length_within, is_printable}
use Rattle.sheet_types.specs.Register.{IsKeptPackage, IsFit, HasEnds}
use Rattle.sheet_types.specs.Texts.{kind_of}
use Rattle.sheet_types.specs.World.{World, Package, item_key, kind_number, base_kind, other_kind}
use Rattle.sheet_types.specs.declared.command.Content.{Content}
use Rattle.sheet_types.specs.declared.command.Content.TheVariants.{Tile, Media, Row}
use Rattle.sheet_types.specs.declared.command.Mapping.{Mapping}
use Rattle.sheet_types.specs.declared.command.Mapping.TheVariants.{TilesMedia, RowsMedia, RowsTiles}
use Rattle.sheet_types.specs.declared.command.Relation.{Relation}
use Rattle.sheet_types.specs.declared.receipt.MovedKind.{MovedKind}
use Rattle.sheet_types.proofs.Basics.{not_false}
use Rattle.sheet_types.proofs.Every.{All-weaker, All-both, All-flat_map, All-map, All-of_map}
use Rattle.sheet_types.proofs.Order.{All-arranged, All-of_arranged}
use Rattle.sheet_types.proofs.Same.{In, In-all, All-In}
use Rattle.package_tables.specs.Mappings.{pair_shape}
use Rattle.package_tables.specs.Package.{Tables}
use Rattle.package_tables.specs.Shapes.{tile_shape, medium_shape, attribute_shape, identity_shape}
use Rattle.package_tables.specs.declared.rows.AttributeRow.{AttributeRow}
use Rattle.package_tables.specs.declared.rows.MappingRow.{MappingRow}
use Rattle.package_tables.specs.declared.rows.MediaRow.{MediaRow}
use Rattle.package_tables.specs.declared.rows.TileRow.{TileRow}
use Rattle.identity_register.specs.Numbering.{Numbered, greatest_number, identity_row, tile_rows, media_rows}
use Rattle.identity_register.specs.Numbering.{attribute_rows, number_of, mapping_row, mapping_is, rows_in}
use Rattle.identity_register.specs.Reads.{Says, SaysPairs}
use Rattle.identity_register.proofs.Finding.{in_range}
use Rattle.identity_register.proofs.Linking.{end_of}
use Rattle.package_items.specs.Ranges.{AreItemsInRange, IsIdentityInRange, is_local, is_tile_in_range}
use Rattle.package_items.specs.Ranges.{is_medium_in_range, is_row_in_range, is_pair_in_range}

-- a number that an item may have
abbrev IsLocal : ℤ → Type 0
IsLocal n = is_within (pos 1) greatest_number n ≡ true

-- ---- the rows of one item

module _ (w : World) (p : Package) (number : ℤ) (id : List ℕ) (local : IsLocal number) where
  tile_range : (c : Content) → IsFit w p (record { identity = id; content = c })
      → AllByRecursion (λ r. is_tile_in_range w.frame r ≡ true) (tile_rows number c)
  tile_range (Tile zoom column row bytes) fit = (
    and_from (is_local number && has_place w.frame zoom column row) (is_length_within 1 1048576 bytes)
        (and_from (is_local number) (has_place w.frame zoom column row) local
        (not_false (has_place w.frame zoom column row) fit.2)) fit.1,
    tt,
  )
  tile_range (Media content_type bytes) fit = tt
  tile_range (Row x y code label) fit = tt

  medium_range : (c : Content) → IsFit w p (record { identity = id; content = c })
      → AllByRecursion (λ r. is_medium_in_range r ≡ true) (media_rows number c)
  medium_range (Tile zoom column row bytes) fit = tt
  medium_range (Media content_type bytes) fit =
      let sizes = and_parts (is_length_within 1 1048576 bytes) (is_length_within 1 100 content_type) fit.1 in (
        and_from (is_local number && is_length_within 1 1048576 bytes && is_length_within 1 100 content_type)
            (list_all is_printable content_type)
            (and_from (is_local number && is_length_within 1 1048576 bytes) (is_length_within 1 100 content_type)
            (and_from (is_local number) (is_length_within 1 1048576 bytes) local sizes.0) sizes.1)
            (not_false (list_all is_printable content_type) fit.0),
        tt,
      )
  medium_range (Row x y code label) fit = tt

  row_range : (c : Content) → IsFit w p (record { identity = id; content = c })
      → AllByRecursion (λ r. is_row_in_range w.frame r ≡ true) (attribute_rows number c)
  row_range (Tile zoom column row bytes) fit = tt
  row_range (Media content_type bytes) fit = tt
  row_range (Row x y code label) fit =
      let sizes = and_parts (is_length_within 0 200 label) (is_within (pos 0) (pos 999999) code) fit.1 in (
        and_from (is_local number && in_frame w.frame x y && is_within (pos 0) (pos 999999) code && is_length_within 0
            200 label) (not (list_any (λ c. c == 10) label))
            (and_from (is_local number && in_frame w.frame x y && is_within (pos 0) (pos 999999) code)
            (is_length_within 0 200 label)
            (and_from (is_local number && in_frame w.frame x y) (is_within (pos 0) (pos 999999) code)
            (and_from (is_local number) (in_frame w.frame x y) local (not_false (in_frame w.frame x y) fit.3))
            sizes.1) sizes.0)
            (ap not fit.0),
        tt,
      )

item_kind : (c : Content) → is_within (pos 1) (pos 3) (pos (kind_number (kind_of c))) ≡ true
item_kind (Tile zoom column row bytes) = refl
item_kind (Media content_type bytes) = refl
item_kind (Row x y code label) = refl

-- ---- all

module _ (w : World) (p : Package) (t : Tables) (kept : IsKeptPackage w p) (says : Says w.frame p t) where
  -- each item with its number
  abbrev IsThere : Numbered → Type 0
  IsThere n = IsLocal n.number × IsFit w p n.item

  there : AllByRecursion IsThere says.numbered
  there = All-both (λ n. IsLocal n.number) (λ n. IsFit w p n.item) IsThere (λ n a b. (a, b)) says.numbered
      says.numbers.range
      (All-of_map (IsFit w p) (λ n. n.item) says.numbered (All-of_arranged item_key (IsFit w p)
      (map (λ n. n.item) says.numbered) (subst (AllByRecursion (IsFit w p)) says.items kept.fit)))

  identity_range : (n : Numbered) → In n says.numbered → IsIdentityInRange (identity_row n)
  identity_range n i = record {
    kind = item_kind n.item.content;
    number = in_range w.frame p t says n i;
    uuid =
        (n.item.identity, All-In (λ m. IsUuid m.item.identity) n says.numbered says.numbers.uuids i, refl);
  }

  -- the number of an end
  end_range : (kind : MovedKind) (id : List ℕ) → has item_key (kind_number kind ∷ id) p.items ≡ true
      → is_local (number_of says.numbered id) ≡ true
  end_range kind id h = let e = end_of w.frame p t says kind id h in subst (λ z. is_local z ≡ true) (sym e.4)
      (in_range w.frame p t says e.0 e.1)

  abbrev IsPairLocal : MappingRow → Type 0
  IsPairLocal r = is_pair_in_range r ≡ true

  link_range : (m : Mapping) (l : Relation) → HasEnds p l → AllByRecursion IsPairLocal (rows_in m says.numbered l)
  link_range m l ends =
      elim (mapping_is l.mapping m) as (λ b. AllByRecursion IsPairLocal
      (cond b (mapping_row says.numbered l ∷ []) [])) [
        | true ↦ (
          and_from (is_local (number_of says.numbered l.base)) (is_local (number_of says.numbered l.other))
              (end_range (base_kind l.mapping) l.base ends.0) (end_range (other_kind l.mapping) l.other ends.1),
          tt,
        )
        | false ↦ tt
      ]

  pairs_range : (m : Mapping) (table : List MappingRow) → SaysPairs m says.numbered says.linked table
      → AllByRecursion IsPairLocal table
  pairs_range m table is = subst (AllByRecursion IsPairLocal) (sym is)
      (All-arranged (pair_shape m).key IsPairLocal (flat_map (rows_in m says.numbered) says.linked)
      (All-flat_map IsPairLocal (rows_in m says.numbered) says.linked
      (All-weaker (HasEnds p) (λ l. AllByRecursion IsPairLocal (rows_in m says.numbered l))
      (λ l ends. link_range m l ends) says.linked says.ends)))

  abbrev IsTile : TileRow → Type 0
  IsTile r = is_tile_in_range w.frame r ≡ true

  abbrev IsMedium : MediaRow → Type 0
  IsMedium r = is_medium_in_range r ≡ true

  abbrev IsRow : AttributeRow → Type 0
  IsRow r = is_row_in_range w.frame r ≡ true

  pub in_ranges : AreItemsInRange w.frame t
  in_ranges = record {
    tiles = subst (AllByRecursion IsTile) (sym says.tiles) (All-arranged tile_shape.key IsTile
        (flat_map (λ n. tile_rows n.number n.item.content) says.numbered)
        (All-flat_map IsTile (λ n. tile_rows n.number n.item.content) says.numbered
        (All-weaker IsThere (λ n. AllByRecursion IsTile (tile_rows n.number n.item.content))
        (λ n is. tile_range w p n.number n.item.identity is.0 n.item.content is.1) says.numbered there)));
    media = subst (AllByRecursion IsMedium) (sym says.media)
        (All-arranged medium_shape.key IsMedium (flat_map (λ n. media_rows n.number n.item.content) says.numbered)
        (All-flat_map IsMedium (λ n. media_rows n.number n.item.content) says.numbered
        (All-weaker IsThere (λ n. AllByRecursion IsMedium (media_rows n.number n.item.content))
        (λ n is. medium_range w p n.number n.item.identity is.0 n.item.content is.1) says.numbered there)));
    rows = subst (AllByRecursion IsRow) (sym says.rows) (All-arranged attribute_shape.key IsRow
        (flat_map (λ n. attribute_rows n.number n.item.content) says.numbered)
        (All-flat_map IsRow (λ n. attribute_rows n.number n.item.content) says.numbered
        (All-weaker IsThere (λ n. AllByRecursion IsRow (attribute_rows n.number n.item.content))
        (λ n is. row_range w p n.number n.item.identity is.0 n.item.content is.1) says.numbered there)));
    identities = subst (AllByRecursion IsIdentityInRange) (sym says.identities)
        (All-arranged identity_shape.key IsIdentityInRange (map identity_row says.numbered)
        (All-map IsIdentityInRange identity_row says.numbered
        (All-weaker (λ n. In n says.numbered) (λ n. IsIdentityInRange (identity_row n)) identity_range
        says.numbered (In-all says.numbered))));
    tiles_media = pairs_range TilesMedia t.tiles_media says.tiles_media;
    rows_media = pairs_range RowsMedia t.rows_media says.rows_media;
    rows_tiles = pairs_range RowsTiles t.rows_tiles says.rows_tiles;
  }
