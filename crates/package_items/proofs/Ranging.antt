-- The ranges of rows by their contents are those of the rows.
use Rattle.std.proofs.Common.{◌≡◌, pos, List, map, Bool, true, false, refl, sym, ◌∙◌}
use Rattle.std.specs.Prelude.{◌&&◌, ◌==◌, not}
use Rattle.std.specs.List.{AllByRecursion, list_any, list_all}
use Rattle.std.proofs.lemmas.Bool.{false≢true}
use Rattle.sheet_types.specs.Matrix.{is_within, has_place, in_frame}
use Rattle.sheet_types.specs.Refuse.{is_length_within, is_printable}
use Rattle.sheet_types.specs.declared.frame.Frame.{Frame}
use Rattle.sheet_types.proofs.Every.{All-weaker, All-map, All-of_map}
use Rattle.package_tables.specs.Package.{Tables}
use Rattle.package_tables.specs.declared.rows.AttributeRow.{AttributeRow}
use Rattle.package_tables.specs.declared.rows.IdentityRow.{IdentityRow}
use Rattle.package_tables.specs.declared.rows.MediaRow.{MediaRow}
use Rattle.package_tables.specs.declared.rows.TileRow.{TileRow}
use Rattle.identity_register.specs.Gathered.{tile_placed, medium_placed, attributes_placed}
use Rattle.identity_register.specs.declared.whole.Placed.{Placed}
use Rattle.package_items.specs.Ranges.{is_local, is_tile_in_range, is_medium_in_range, is_row_in_range}
use Rattle.package_items.specs.Ranges.{IsIdentityInRange, IsUuidText}
use Rattle.package_items.specs.Answers.{Decides}
use Rattle.package_items.specs.Walks.{placed_in, is_placed_in_range, AreRowsInRange}
use Rattle.package_items.specs.declared.user_tables.UserTable.{UserTable}
use Rattle.package_items.specs.declared.user_tables.UserTable.TheVariants.{TileTable, MediaTable, RowTable}

swapped : (a b c : Bool) → (a && b && c) ≡ (a && c && b)
swapped false b c = refl
swapped true false false = refl
swapped true false true = refl
swapped true true false = refl
swapped true true true = refl

joined : (a b c d : Bool) → (a && (b && c) && d) ≡ (a && b && c && d)
joined false b c d = refl
joined true b c d = refl

mixed : (a b c d e : Bool) → (a && (b && c) && (d && e)) ≡ (a && d && c && b && e)
mixed false b c d e = refl
mixed true false false false e = refl
mixed true false false true e = refl
mixed true false true false e = refl
mixed true false true true e = refl
mixed true true false false e = refl
mixed true true false true e = refl
mixed true true true false e = refl
mixed true true true true e = refl

module _ (f : Frame) where
  tile_same : (r : TileRow) → is_placed_in_range f (tile_placed r) ≡ is_tile_in_range f r
  tile_same r = swapped (is_local r.id) (is_length_within 1 1048576 r.tile_data)
      (has_place f r.zoom_level r.tile_column r.tile_row)

  medium_same : (r : MediaRow) → is_placed_in_range f (medium_placed r) ≡ is_medium_in_range r
  medium_same r = joined (is_local r.id) (is_length_within 1 1048576 r.data) (is_length_within 1 100 r.content_type)
      (list_all is_printable r.content_type)

  attributes_same : (r : AttributeRow) → is_placed_in_range f (attributes_placed r) ≡ is_row_in_range f r
  attributes_same r = mixed (is_local r.id) (is_length_within 0 200 r.label) (is_within (pos 0) (pos 999999) r.code)
      (in_frame f r.x r.y) (not (list_any (λ c. c == 10) r.label))

  abbrev pub InRange : Placed → Type 0
  InRange x = is_placed_in_range f x ≡ true

  to_rows : {R : Type 0} (g : R → Placed) (test : R → Bool) → ((r : R) → is_placed_in_range f (g r) ≡ test r)
      → (rows : List R) → AllByRecursion InRange (map g rows) → AllByRecursion (λ r. test r ≡ true) rows
  to_rows g test same rows h = All-weaker _ _ (λ r e. sym (same r) ∙ e) rows (All-of_map InRange g rows h)

  from_rows : {R : Type 0} (g : R → Placed) (test : R → Bool)
      → ((r : R) → is_placed_in_range f (g r) ≡ test r)
      → (rows : List R) → AllByRecursion (λ r. test r ≡ true) rows → AllByRecursion InRange (map g rows)
  from_rows g test same rows h = All-map InRange g rows (All-weaker _ _ (λ r e. same r ∙ e) rows h)

  pub rows_in : (table : UserTable) (t : Tables) → AllByRecursion InRange (placed_in table t)
      → AreRowsInRange f table t
  rows_in TileTable t h = to_rows tile_placed (is_tile_in_range f) tile_same t.tiles h
  rows_in MediaTable t h = to_rows medium_placed is_medium_in_range medium_same t.media h
  rows_in RowTable t h = to_rows attributes_placed (is_row_in_range f) attributes_same t.rows h

  pub in_rows : (table : UserTable) (t : Tables) → AreRowsInRange f table t
      → AllByRecursion InRange (placed_in table t)
  in_rows TileTable t h = from_rows tile_placed (is_tile_in_range f) tile_same t.tiles h
  in_rows MediaTable t h = from_rows medium_placed is_medium_in_range medium_same t.media h
  in_rows RowTable t h = from_rows attributes_placed (is_row_in_range f) attributes_same t.rows h

-- an identity row by its three parts
pub identity_decides : (r : IdentityRow) (kind number uuid : Bool) → kind ≡ is_within (pos 1) (pos 3) r.kind
    → number ≡ is_local r.local_id → Decides (IsUuidText r.uuid) uuid
    → Decides (IsIdentityInRange r) (kind && number && uuid)
identity_decides r true true true k n u = record { kind = sym k; number = sym n; uuid = u }
identity_decides r true true false k n u = λ inside. u inside.uuid
identity_decides r true false uuid k n u = λ inside. false≢true (n ∙ inside.number)
identity_decides r false number uuid k n u = λ inside. false≢true (k ∙ inside.kind)
