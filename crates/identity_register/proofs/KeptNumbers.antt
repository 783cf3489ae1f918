-- Rows that stand as they were beside others that come or go.
use Rattle.std.proofs.Common.{ℕ, ℤ, List, [], ◌∷◌, Bool, true, false, Result}
use Rattle.std.specs.Prelude.{filter, if◌then◌else◌}
use Rattle.std.specs.Ordering.{int_eq}
use Rattle.sqlite.specs.Effect.{Database}
use Rattle.sqlite.specs.State.{State}
use Rattle.store_sql.specs.Transactions.{Steps}
use Rattle.store_sql.proofs.Transactions.{steps_weaker}
use Rattle.sheet_types.specs.Ordered.{put}
use Rattle.sheet_types.specs.World.{Package}
use Rattle.sheet_types.specs.declared.command.Mapping.{Mapping}
use Rattle.sheet_types.specs.declared.command.Mapping.TheVariants.{TilesMedia, RowsMedia, RowsTiles}
use Rattle.sheet_types.proofs.Every.{All-filter}
use Rattle.sheet_types.proofs.Order.{All-of_put}
use Rattle.sheet_types.proofs.Same.{In, In-all, All-In, Contains-In}
use Rattle.package_tables.specs.Package.{Tables, tables_of}
use Rattle.package_tables.specs.Mappings.{pair_shape}
use Rattle.package_tables.specs.Shapes.{tile_shape, medium_shape, attribute_shape, identity_shape}
use Rattle.package_tables.specs.declared.rows.MappingRow.{MappingRow}
use Rattle.package_tables.specs.declared.rows.MovedRow.{MovedRow}
use Rattle.package_tables.specs.declared.rows.ReceiptRow.{ReceiptRow}
use Rattle.identity_register.specs.Calls.{Becomes}
use Rattle.identity_register.specs.Numbering.{Numbered, tile_rows, media_rows, attribute_rows, identity_row, puts}
use Rattle.identity_register.specs.Numbering.{with_item, without_content, without_identity, with_link, without_link}
use Rattle.identity_register.specs.LocalNumbers.{StandIn, KeepRows, KeepsNumbers, Grows, Shrinks}
use Rattle.identity_register.proofs.Finding.{contained}

-- ---- one list

-- where each element is one of the other list
stand : {R : Type 0} (xs ys : List R) → ((r : R) → In r xs → In r ys) → StandIn xs ys
stand xs ys f r c = Contains-In r ys (f r (contained xs r c))

in_put : {R : Type 0} (key : R → List ℕ) (x : R) (xs : List R) (r : R) → In r xs → In r (put key x xs)
in_put key x xs r i = All-In (λ y. In y (put key x xs)) r xs
    (All-of_put key (λ y. In y (put key x xs)) x xs (In-all (put key x xs))).1 i

in_puts : {R : Type 0} (key : R → List ℕ) (new xs : List R) (r : R) → In r xs → In r (puts key new xs)
in_puts key [] xs r i = i
in_puts key (x ∷ new) xs r i = in_put key x (puts key new xs) r (in_puts key new xs r i)

of_filter : {R : Type 0} (t : R → Bool) (xs : List R) (r : R) → In r (filter t xs) → In r xs
of_filter t xs r i = All-In (λ y. In y xs) r (filter t xs) (All-filter (λ y. In y xs) t xs (In-all xs)) i

stand_put : {R : Type 0} (key : R → List ℕ) (x : R) (xs : List R) → StandIn xs (put key x xs)
stand_put key x xs = stand xs (put key x xs) (in_put key x xs)

stand_puts : {R : Type 0} (key : R → List ℕ) (new xs : List R) → StandIn xs (puts key new xs)
stand_puts key new xs = stand xs (puts key new xs) (in_puts key new xs)

stand_left : {R : Type 0} (t : R → Bool) (xs : List R) → StandIn (filter t xs) xs
stand_left t xs = stand (filter t xs) xs (of_filter t xs)

-- some may have gone
stand_if : {R : Type 0} (v : Bool) (t : R → Bool) (xs : List R) → StandIn (if v then filter t xs else xs) xs
stand_if true t xs = stand_left t xs
stand_if false t xs = λ r c. c

-- ---- all tables

rows_same : (t : Tables) → KeepRows t t
rows_same t = record {
  tiles = λ r c. c;
  media = λ r c. c;
  rows = λ r c. c;
  identities = λ r c. c;
  tiles_media = λ r c. c;
  rows_media = λ r c. c;
  rows_tiles = λ r c. c;
}

pub kept_same : (db : Database) → KeepsNumbers db db
kept_same db = rows_same (tables_of db)

rows_then : (a b c : Tables) → KeepRows a b → KeepRows b c → KeepRows a c
rows_then a b c one two = record {
  tiles = λ r it. two.tiles r (one.tiles r it);
  media = λ r it. two.media r (one.media r it);
  rows = λ r it. two.rows r (one.rows r it);
  identities = λ r it. two.identities r (one.identities r it);
  tiles_media = λ r it. two.tiles_media r (one.tiles_media r it);
  rows_media = λ r it. two.rows_media r (one.rows_media r it);
  rows_tiles = λ r it. two.rows_tiles r (one.rows_tiles r it);
}

pub kept_then : (a b c : Database) → KeepsNumbers a b → KeepsNumbers b c → KeepsNumbers a c
kept_then a b c = rows_then (tables_of a) (tables_of b) (tables_of c)

-- ---- what each change leaves

pub item_beside : (n : Numbered) (t : Tables) → KeepRows t (with_item n t)
item_beside n t = record {
  tiles = stand_puts tile_shape.key (tile_rows n.number n.item.content) t.tiles;
  media = stand_puts medium_shape.key (media_rows n.number n.item.content) t.media;
  rows = stand_puts attribute_shape.key (attribute_rows n.number n.item.content) t.rows;
  identities = stand_put identity_shape.key (identity_row n) t.identities;
  tiles_media = λ r c. c;
  rows_media = λ r c. c;
  rows_tiles = λ r c. c;
}

pub others_left : (kind number : ℤ) (t : Tables) → KeepRows (without_identity kind number
    (without_content kind number t)) t
others_left kind number t = record {
  tiles = stand_if (int_eq kind _) _ t.tiles;
  media = stand_if (int_eq kind _) _ t.media;
  rows = stand_if (int_eq kind _) _ t.rows;
  identities = stand_left _ t.identities;
  tiles_media = λ r c. c;
  rows_media = λ r c. c;
  rows_tiles = λ r c. c;
}

pub link_beside : (m : Mapping) (row : MappingRow) (t : Tables) → KeepRows t (with_link m row t)
link_beside TilesMedia row t = record {
  tiles = λ r c. c;
  media = λ r c. c;
  rows = λ r c. c;
  identities = λ r c. c;
  tiles_media = stand_put (pair_shape TilesMedia).key row t.tiles_media;
  rows_media = λ r c. c;
  rows_tiles = λ r c. c;
}
link_beside RowsMedia row t = record {
  tiles = λ r c. c;
  media = λ r c. c;
  rows = λ r c. c;
  identities = λ r c. c;
  tiles_media = λ r c. c;
  rows_media = stand_put (pair_shape RowsMedia).key row t.rows_media;
  rows_tiles = λ r c. c;
}
link_beside RowsTiles row t = record {
  tiles = λ r c. c;
  media = λ r c. c;
  rows = λ r c. c;
  identities = λ r c. c;
  tiles_media = λ r c. c;
  rows_media = λ r c. c;
  rows_tiles = stand_put (pair_shape RowsTiles).key row t.rows_tiles;
}

pub links_left : (m : Mapping) (row : MappingRow) (t : Tables) → KeepRows (without_link m row t) t
links_left TilesMedia row t = record {
  tiles = λ r c. c;
  media = λ r c. c;
  rows = λ r c. c;
  identities = λ r c. c;
  tiles_media = stand_left _ t.tiles_media;
  rows_media = λ r c. c;
  rows_tiles = λ r c. c;
}
links_left RowsMedia row t = record {
  tiles = λ r c. c;
  media = λ r c. c;
  rows = λ r c. c;
  identities = λ r c. c;
  tiles_media = λ r c. c;
  rows_media = stand_left _ t.rows_media;
  rows_tiles = λ r c. c;
}
links_left RowsTiles row t = record {
  tiles = λ r c. c;
  media = λ r c. c;
  rows = λ r c. c;
  identities = λ r c. c;
  tiles_media = λ r c. c;
  rows_media = λ r c. c;
  rows_tiles = stand_left _ t.rows_tiles;
}

-- other receipts change none of them
pub entries_beside : (receipts : List ReceiptRow) (moved : List MovedRow) (t : Tables)
    → KeepRows t (record t { receipts = receipts; moved = moved })
entries_beside receipts moved t = record {
  tiles = λ r c. c;
  media = λ r c. c;
  rows = λ r c. c;
  identities = λ r c. c;
  tiles_media = λ r c. c;
  rows_media = λ r c. c;
  rows_tiles = λ r c. c;
}

-- ---- the change alone

pub grown : {E : Type 0} {Fits : Package → Type 0} {after : Package → Package} {old new : State}
    {r : Result (Unit {0}) E} → Steps (λ _. Grows Fits after) old new r
    → Steps (λ _. Becomes Fits after) old new r
grown {E} {Fits} {after} = steps_weaker (λ _. Becomes Fits after) (λ _ it f p reads fits. (it f p reads fits).0)

pub shrunk : {E : Type 0} {Fits : Package → Type 0} {after : Package → Package} {old new : State}
    {r : Result (Unit {0}) E} → Steps (λ _. Shrinks Fits after) old new r
    → Steps (λ _. Becomes Fits after) old new r
shrunk {E} {Fits} {after} = steps_weaker (λ _. Becomes Fits after) (λ _ it f p reads fits. (it f p reads fits).0)
