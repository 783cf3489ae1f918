-- Each list of the tables meets what it has to: a write to one table is a change of that one list.
use Rattle.std.proofs.Common.{◌≡◌, ℕ, zero, suc, List, [], ◌∷◌, Bool, true, refl, sym, subst, get_or}
use Rattle.std.specs.Prelude.{◌&&◌, ⊤}
use Rattle.std.proofs.lemmas.Bool.{and_parts}
use Rattle.sqlite.specs.Effect.{Database, IsDatabase}
use Rattle.sqlite.specs.Table.{Table}
use Rattle.store_sql.specs.Known.{IsQuiet, is_other, sequence_name}
use Rattle.store_sql.specs.Writing.{Spares}
use Rattle.store_sql.specs.Spelling.{Spelling, spelled}
use Rattle.sheet_types.specs.declared.command.Mapping.{Mapping}
use Rattle.sheet_types.specs.declared.command.Mapping.TheVariants.{TilesMedia, RowsMedia, RowsTiles}
use Rattle.package_tables.specs.Shape.{Shape, IsShape, IsFormed, rows_of}
use Rattle.package_tables.specs.Shapes.{spatial_ref_sys_shape, contents_shape, tile_matrix_set_shape}
use Rattle.package_tables.specs.Shapes.{tile_matrix_shape, relation_shape, tile_shape, medium_shape, attribute_shape}
use Rattle.package_tables.specs.Shapes.{head_shape, identity_shape, receipt_shape, moved_shape}
use Rattle.package_tables.specs.Mappings.{pair_shape}
use Rattle.package_tables.specs.Package.{Tables, tables_of, AreFormed}
use Rattle.package_tables.specs.declared.rows.AttributeRow.{AttributeRow}
use Rattle.package_tables.specs.declared.rows.ContentsRow.{ContentsRow}
use Rattle.package_tables.specs.declared.rows.HeadRow.{HeadRow}
use Rattle.package_tables.specs.declared.rows.IdentityRow.{IdentityRow}
use Rattle.package_tables.specs.declared.rows.MappingRow.{MappingRow}
use Rattle.package_tables.specs.declared.rows.MediaRow.{MediaRow}
use Rattle.package_tables.specs.declared.rows.MovedRow.{MovedRow}
use Rattle.package_tables.specs.declared.rows.ReceiptRow.{ReceiptRow}
use Rattle.package_tables.specs.declared.rows.RelationRow.{RelationRow}
use Rattle.package_tables.specs.declared.rows.SpatialRefSysRow.{SpatialRefSysRow}
use Rattle.package_tables.specs.declared.rows.TileMatrixRow.{TileMatrixRow}
use Rattle.package_tables.specs.declared.rows.TileMatrixSetRow.{TileMatrixSetRow}
use Rattle.package_tables.specs.declared.rows.TileRow.{TileRow}
use Rattle.package_tables.specs.Listed.{systems, contents, matrix_sets, matrices, relations, tiles, media, attributes}
use Rattle.package_tables.specs.Listed.{pairs, heads, identities, receipts, moved}
use Rattle.package_tables.proofs.Shapes.{spared}
use Rattle.package_tables.proofs.Lists.{IsListed}

-- ---- the tables by their names

data Name : Type 0 where
  SpatialRefSys : Name
  Contents : Name
  TileMatrixSet : Name
  TileMatrix : Name
  Relations : Name
  Tiles : Name
  Media : Name
  Rows : Name
  Pairs : Mapping → Name
  Heads : Name
  Identities : Name
  Receipts : Name
  Moved : Name

abbrev RowOf : Name → Type 0
RowOf SpatialRefSys = SpatialRefSysRow
RowOf Contents = ContentsRow
RowOf TileMatrixSet = TileMatrixSetRow
RowOf TileMatrix = TileMatrixRow
RowOf Relations = RelationRow
RowOf Tiles = TileRow
RowOf Media = MediaRow
RowOf Rows = AttributeRow
RowOf (Pairs m) = MappingRow
RowOf Heads = HeadRow
RowOf Identities = IdentityRow
RowOf Receipts = ReceiptRow
RowOf Moved = MovedRow

abbrev shape_of : (n : Name) → Shape (RowOf n)
shape_of SpatialRefSys = spatial_ref_sys_shape
shape_of Contents = contents_shape
shape_of TileMatrixSet = tile_matrix_set_shape
shape_of TileMatrix = tile_matrix_shape
shape_of Relations = relation_shape
shape_of Tiles = tile_shape
shape_of Media = medium_shape
shape_of Rows = attribute_shape
shape_of (Pairs m) = pair_shape m
shape_of Heads = head_shape
shape_of Identities = identity_shape
shape_of Receipts = receipt_shape
shape_of Moved = moved_shape

shape_of_is : (n : Name) → IsShape (shape_of n)
shape_of_is SpatialRefSys = record {
  named = λ tree. refl;
  treed = λ tree. refl;
  says = λ v x. refl;
  again = λ v x. refl;
  numbered = λ v x h. refl;
}
shape_of_is Contents = record {
  named = λ tree. refl;
  treed = λ tree. refl;
  says = λ v x. refl;
  again = λ v x. refl;
  numbered = λ v x h. h;
}
shape_of_is TileMatrixSet = record {
  named = λ tree. refl;
  treed = λ tree. refl;
  says = λ v x. refl;
  again = λ v x. refl;
  numbered = λ v x h. h;
}
shape_of_is TileMatrix = record {
  named = λ tree. refl;
  treed = λ tree. refl;
  says = λ v x. refl;
  again = λ v x. refl;
  numbered = λ v x h. h;
}
shape_of_is Relations = record {
  named = λ tree. refl;
  treed = λ tree. refl;
  says = λ v x. refl;
  again = λ v x. refl;
  numbered = λ v x h. refl;
}
shape_of_is Tiles = record {
  named = λ tree. refl;
  treed = λ tree. refl;
  says = λ v x. refl;
  again = λ v x. refl;
  numbered = λ v x h. refl;
}
shape_of_is Media = record {
  named = λ tree. refl;
  treed = λ tree. refl;
  says = λ v x. refl;
  again = λ v x. refl;
  numbered = λ v x h. refl;
}
shape_of_is Rows = record {
  named = λ tree. refl;
  treed = λ tree. refl;
  says = λ v x. refl;
  again = λ v x. refl;
  numbered = λ v x h. refl;
}
shape_of_is (Pairs TilesMedia) = record {
  named = λ tree. refl;
  treed = λ tree. refl;
  says = λ v x. refl;
  again = λ v x. refl;
  numbered = λ v x h. h;
}
shape_of_is (Pairs RowsMedia) = record {
  named = λ tree. refl;
  treed = λ tree. refl;
  says = λ v x. refl;
  again = λ v x. refl;
  numbered = λ v x h. h;
}
shape_of_is (Pairs RowsTiles) = record {
  named = λ tree. refl;
  treed = λ tree. refl;
  says = λ v x. refl;
  again = λ v x. refl;
  numbered = λ v x h. h;
}
shape_of_is Heads = record {
  named = λ tree. refl;
  treed = λ tree. refl;
  says = λ v x. refl;
  again = λ v x. refl;
  numbered = λ v x h. refl;
}
shape_of_is Identities = record {
  named = λ tree. refl;
  treed = λ tree. refl;
  says = λ v x. refl;
  again = λ v x. refl;
  numbered = λ v x h. h;
}
shape_of_is Receipts = record {
  named = λ tree. refl;
  treed = λ tree. refl;
  says = λ v x. refl;
  again = λ v x. refl;
  numbered = λ v x h. refl;
}
shape_of_is Moved = record {
  named = λ tree. refl;
  treed = λ tree. refl;
  says = λ v x. refl;
  again = λ v x. refl;
  numbered = λ v x h. h;
}

abbrev all : List Name
all = SpatialRefSys ∷ Contents ∷ TileMatrixSet ∷ TileMatrix ∷ Relations ∷ Tiles ∷ Media ∷ Rows
    ∷ Pairs TilesMedia ∷ Pairs RowsMedia ∷ Pairs RowsTiles ∷ Heads ∷ Identities ∷ Receipts ∷ Moved
    ∷ []

-- the lists of some tables, one after the other
abbrev Lists : List Name → Type 0
Lists [] = ⊤
Lists (n ∷ ns) = List (RowOf n) × Lists ns

abbrev lists_of : (ns : List Name) → Database → Lists ns
lists_of [] db = tt
lists_of (n ∷ ns) db = (rows_of (shape_of n) db, lists_of ns db)

-- all fifteen, as the tables of a package
abbrev as_tables : Lists all → Tables
as_tables l = record {
  spatial_ref_sys = l.0;
  contents = l.1.0;
  tile_matrix_set = l.1.1.0;
  tile_matrix = l.1.1.1.0;
  relations = l.1.1.1.1.0;
  tiles = l.1.1.1.1.1.0;
  media = l.1.1.1.1.1.1.0;
  rows = l.1.1.1.1.1.1.1.0;
  tiles_media = l.1.1.1.1.1.1.1.1.0;
  rows_media = l.1.1.1.1.1.1.1.1.1.0;
  rows_tiles = l.1.1.1.1.1.1.1.1.1.1.0;
  heads = l.1.1.1.1.1.1.1.1.1.1.1.0;
  identities = l.1.1.1.1.1.1.1.1.1.1.1.1.0;
  receipts = l.1.1.1.1.1.1.1.1.1.1.1.1.1.0;
  moved = l.1.1.1.1.1.1.1.1.1.1.1.1.1.1.0;
}

-- some tables are there and hold rows of their kinds
abbrev Formed : List Name → Database → Type 0
Formed [] db = ⊤
Formed (n ∷ ns) db = IsFormed (shape_of n) db × Formed ns db

-- ---- one table is written

-- the list of the table at this place is another
abbrev put_at : (ns : List Name) (place : ℕ) → List (RowOf (get_or ns place Moved)) → Lists ns → Lists ns
put_at [] place rows l = l
put_at (n ∷ ns) zero rows l = (rows, l.1)
put_at (n ∷ ns) (suc place) rows l = (l.0, put_at ns place rows l.1)

-- a table is neither the one of this name nor that of the counts
abbrev is_apart : List ℕ → Name → Bool
is_apart name n = is_other ((shape_of n).table 0).name name && is_other ((shape_of n).table 0).name sequence_name

abbrev all_apart : List ℕ → List Name → Bool
all_apart name [] = true
all_apart name (n ∷ ns) = is_apart name n && all_apart name ns

abbrev others_apart : List ℕ → List Name → ℕ → Bool
others_apart name [] place = true
others_apart name (n ∷ ns) zero = all_apart name ns
others_apart name (n ∷ ns) (suc place) = is_apart name n && others_apart name ns place

module _ (t : Table) (old new : Database) (spares : Spares t old new) where
  kept : (n : Name) → is_apart t.name n ≡ true → IsFormed (shape_of n) old → IsFormed (shape_of n) new
      × (rows_of (shape_of n) new ≡ rows_of (shape_of n) old)
  kept n apart formed =
      let parts = and_parts (is_other ((shape_of n).table 0).name t.name)
      (is_other ((shape_of n).table 0).name sequence_name) apart in
      spared (shape_of n) (shape_of_is n) t old new spares parts.0 parts.1 formed

  all_kept : (ns : List Name) → all_apart t.name ns ≡ true → Formed ns old → Formed ns new
      × (lists_of ns new ≡ lists_of ns old)
  all_kept [] apart formed = (tt, refl)
  all_kept (n ∷ ns) apart formed =
      let parts = and_parts (is_apart t.name n) (all_apart t.name ns) apart in
      let first = kept n parts.0 formed.0 in
      let rest = all_kept ns parts.1 formed.1 in
      ((first.0, rest.0), λ i. (first.1 i, rest.1 i))

  others_kept : (ns : List Name) (place : ℕ) → others_apart t.name ns place ≡ true → Formed ns old
      → IsFormed (shape_of (get_or ns place Moved)) new
      → Formed ns new × (lists_of ns new ≡ put_at ns place (rows_of (shape_of (get_or ns place Moved)) new)
      (lists_of ns old))
  others_kept [] place apart formed here = (tt, refl)
  others_kept (n ∷ ns) zero apart formed here =
      let rest = all_kept ns apart formed.1 in
      ((here, rest.0), λ i. (rows_of (shape_of n) new, rest.1 i))
  others_kept (n ∷ ns) (suc place) apart formed here =
      let parts = and_parts (is_apart t.name n) (others_apart t.name ns place) apart in
      let first = kept n parts.0 formed.0 in
      let rest = others_kept ns place parts.1 formed.1 here in
      ((first.0, rest.0), λ i. (first.1 i, rest.1 i))

-- one after the other, and by their names
each_formed : (db : Database) → AreFormed db → Formed all db
each_formed db f = (
  f.spatial_ref_sys,
  (
    f.contents,
    (
      f.tile_matrix_set,
      (
        f.tile_matrix,
        (
          f.relations,
          (
            f.tiles,
            (
              f.media,
              (
                f.rows,
                (f.tiles_media, (f.rows_media, (f.rows_tiles, (f.heads, (f.identities, (f.receipts, (f.moved, tt))))))),
              ),
            ),
          ),
        ),
      ),
    ),
  ),
)

are_formed : (db : Database) → IsDatabase db → IsQuiet db.schema → Formed all db → AreFormed db
are_formed db sound quiet f = record {
  sound = sound;
  quiet = quiet;
  spatial_ref_sys = f.0;
  contents = f.1.0;
  tile_matrix_set = f.1.1.0;
  tile_matrix = f.1.1.1.0;
  relations = f.1.1.1.1.0;
  tiles = f.1.1.1.1.1.0;
  media = f.1.1.1.1.1.1.0;
  rows = f.1.1.1.1.1.1.1.0;
  tiles_media = f.1.1.1.1.1.1.1.1.0;
  rows_media = f.1.1.1.1.1.1.1.1.1.0;
  rows_tiles = f.1.1.1.1.1.1.1.1.1.1.0;
  heads = f.1.1.1.1.1.1.1.1.1.1.1.0;
  identities = f.1.1.1.1.1.1.1.1.1.1.1.1.0;
  receipts = f.1.1.1.1.1.1.1.1.1.1.1.1.1.0;
  moved = f.1.1.1.1.1.1.1.1.1.1.1.1.1.1.0;
}

-- the table at a place is written
abbrev ShapeAt : (place : ℕ) → Shape (RowOf (get_or all place Moved))
ShapeAt place = shape_of (get_or all place Moved)

written : (place : ℕ) (spelling : Spelling) (old new : Database)
    → others_apart (spelled (ShapeAt place).table spelling).name all place ≡ true
    → Spares (spelled (ShapeAt place).table spelling) old new → AreFormed old → IsFormed (ShapeAt place) new
    → AreFormed new × (tables_of new ≡ as_tables (put_at all place (rows_of (ShapeAt place) new)
    (lists_of all old)))
written place spelling old new apart spares formed here =
    let did = others_kept (spelled (ShapeAt place).table spelling) old new spares all place apart
    (each_formed old formed) here in
    (are_formed new spares.sound (subst IsQuiet (sym spares.schema) formed.quiet) did.0, λ i. as_tables (did.1 i))

-- ---- each list

pub systems_listed : IsListed systems
systems_listed = record {
  laws = shape_of_is SpatialRefSys;
  formed = λ db f. f.spatial_ref_sys;
  lists = λ db. refl;
  written = λ spelling old new. written 0 spelling old new refl;
  reads = λ l t. refl;
  again = λ k l t. refl;
  same = λ t. refl;
}

pub contents_listed : IsListed contents
contents_listed = record {
  laws = shape_of_is Contents;
  formed = λ db f. f.contents;
  lists = λ db. refl;
  written = λ spelling old new. written 1 spelling old new refl;
  reads = λ l t. refl;
  again = λ k l t. refl;
  same = λ t. refl;
}

pub matrix_sets_listed : IsListed matrix_sets
matrix_sets_listed = record {
  laws = shape_of_is TileMatrixSet;
  formed = λ db f. f.tile_matrix_set;
  lists = λ db. refl;
  written = λ spelling old new. written 2 spelling old new refl;
  reads = λ l t. refl;
  again = λ k l t. refl;
  same = λ t. refl;
}

pub matrices_listed : IsListed matrices
matrices_listed = record {
  laws = shape_of_is TileMatrix;
  formed = λ db f. f.tile_matrix;
  lists = λ db. refl;
  written = λ spelling old new. written 3 spelling old new refl;
  reads = λ l t. refl;
  again = λ k l t. refl;
  same = λ t. refl;
}

pub relations_listed : IsListed relations
relations_listed = record {
  laws = shape_of_is Relations;
  formed = λ db f. f.relations;
  lists = λ db. refl;
  written = λ spelling old new. written 4 spelling old new refl;
  reads = λ l t. refl;
  again = λ k l t. refl;
  same = λ t. refl;
}

pub tiles_listed : IsListed tiles
tiles_listed = record {
  laws = shape_of_is Tiles;
  formed = λ db f. f.tiles;
  lists = λ db. refl;
  written = λ spelling old new. written 5 spelling old new refl;
  reads = λ l t. refl;
  again = λ k l t. refl;
  same = λ t. refl;
}

pub media_listed : IsListed media
media_listed = record {
  laws = shape_of_is Media;
  formed = λ db f. f.media;
  lists = λ db. refl;
  written = λ spelling old new. written 6 spelling old new refl;
  reads = λ l t. refl;
  again = λ k l t. refl;
  same = λ t. refl;
}

pub attributes_listed : IsListed attributes
attributes_listed = record {
  laws = shape_of_is Rows;
  formed = λ db f. f.rows;
  lists = λ db. refl;
  written = λ spelling old new. written 7 spelling old new refl;
  reads = λ l t. refl;
  again = λ k l t. refl;
  same = λ t. refl;
}

pub pairs_listed : (m : Mapping) → IsListed (pairs m)
pairs_listed TilesMedia = record {
  laws = shape_of_is (Pairs TilesMedia);
  formed = λ db f. f.tiles_media;
  lists = λ db. refl;
  written = λ spelling old new. written 8 spelling old new refl;
  reads = λ l t. refl;
  again = λ k l t. refl;
  same = λ t. refl;
}
pairs_listed RowsMedia = record {
  laws = shape_of_is (Pairs RowsMedia);
  formed = λ db f. f.rows_media;
  lists = λ db. refl;
  written = λ spelling old new. written 9 spelling old new refl;
  reads = λ l t. refl;
  again = λ k l t. refl;
  same = λ t. refl;
}
pairs_listed RowsTiles = record {
  laws = shape_of_is (Pairs RowsTiles);
  formed = λ db f. f.rows_tiles;
  lists = λ db. refl;
  written = λ spelling old new. written 10 spelling old new refl;
  reads = λ l t. refl;
  again = λ k l t. refl;
  same = λ t. refl;
}

pub heads_listed : IsListed heads
heads_listed = record {
  laws = shape_of_is Heads;
  formed = λ db f. f.heads;
  lists = λ db. refl;
  written = λ spelling old new. written 11 spelling old new refl;
  reads = λ l t. refl;
  again = λ k l t. refl;
  same = λ t. refl;
}

pub identities_listed : IsListed identities
identities_listed = record {
  laws = shape_of_is Identities;
  formed = λ db f. f.identities;
  lists = λ db. refl;
  written = λ spelling old new. written 12 spelling old new refl;
  reads = λ l t. refl;
  again = λ k l t. refl;
  same = λ t. refl;
}

pub receipts_listed : IsListed receipts
receipts_listed = record {
  laws = shape_of_is Receipts;
  formed = λ db f. f.receipts;
  lists = λ db. refl;
  written = λ spelling old new. written 13 spelling old new refl;
  reads = λ l t. refl;
  again = λ k l t. refl;
  same = λ t. refl;
}

pub moved_listed : IsListed moved
moved_listed = record {
  laws = shape_of_is Moved;
  formed = λ db f. f.moved;
  lists = λ db. refl;
  written = λ spelling old new. written 14 spelling old new refl;
  reads = λ l t. refl;
  again = λ k l t. refl;
  same = λ t. refl;
}
