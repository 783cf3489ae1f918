-- A new package has the form of a package, and no rows.
use Rattle.std.proofs.Common.{◌≡◌, List, [], ◌∷◌, Ok, Err, Result, OnOk, IfErr, refl, sym, subst}
use Rattle.std.specs.List.{AllByRecursion}
use Rattle.sqlite.specs.Table.{Table}
use Rattle.sqlite.specs.Schema.{Schema}
use Rattle.sqlite.specs.Tree.{Trees}
use Rattle.sqlite.specs.Effect.{Database, IsDatabase}
use Rattle.sqlite_schema.specs.Names.{same_name}
use Rattle.store_sql.specs.Writing.{IsKeyed}
use Rattle.store_sql.specs.Known.{IsQuiet}
use Rattle.store_sql.specs.Blank.{IsBlank, no_schema}
use Rattle.package_tables.specs.Tables.{gpkg_spatial_ref_sys, gpkg_contents, gpkg_tile_matrix_set, gpkg_tile_matrix}
use Rattle.package_tables.specs.Tables.{gpkgext_relations, sheet_tiles, sheet_media, sheet_rows, tiles_media}
use Rattle.package_tables.specs.Tables.{rows_media, rows_tiles, sheet_package, sheet_identity, sheet_receipts}
use Rattle.package_tables.specs.Tables.{sheet_items}
use Rattle.package_tables.specs.Form.{IsPlaced, HasForm, tree_named}
use Rattle.package_tables.specs.Shape.{Shape, IsFormed, stored_rows, rows_of}
use Rattle.package_tables.specs.Shapes.{spatial_ref_sys_shape, contents_shape, tile_matrix_set_shape}
use Rattle.package_tables.specs.Shapes.{tile_matrix_shape, relation_shape, tile_shape, medium_shape, attribute_shape}
use Rattle.package_tables.specs.Shapes.{tiles_media_shape, rows_media_shape, rows_tiles_shape, head_shape}
use Rattle.package_tables.specs.Shapes.{identity_shape, receipt_shape, moved_shape}
use Rattle.package_tables.specs.Package.{tables_of, AreFormed}
use Rattle.package_tables.specs.SchemaMaking.{MadeBy, ChangedInside, FailsInside, FailsToMakeBy}
use Rattle.package_tables.proofs.Placed.{own_placed, plain_keys}
use Rattle.package_creation.proofs.Texts.{texts, plan}
use Rattle.sqlite.specs.State.{State}
use Rattle.sqlite.specs.declared.error.Error.{Error}
use Rattle.package_tables.specs.SchemaMade.{package_schema, table_names, empty_tables, IsEmptyForm, IsNewPackage}
use Rattle.package_tables.specs.SchemaMade.{BecomesPackage}

quiet : IsQuiet package_schema
unfolding same_name
quiet = record {
  seq_at = 6;
  seq = 12;
  counts = record { named = refl; there = refl; stored = refl; by_tree = refl };
  inert = (
    tt,
    (
      ((refl, refl), tt),
      (
        ((refl, refl), ((refl, refl), tt)),
        (((refl, refl), tt), (tt, (tt, (tt, (tt, (tt, (tt, (tt, (tt, (tt, (tt, (tt, (tt, tt))))))))))))),
      ),
    ),
  );
}

spatial_ref_sys : IsPlaced package_schema gpkg_spatial_ref_sys
unfolding same_name
spatial_ref_sys = own_placed package_schema gpkg_spatial_ref_sys (plain_keys (gpkg_spatial_ref_sys 0).uniques) 0 0
    (record { named = refl; there = refl; stored = refl; by_tree = refl })

contents : IsPlaced package_schema gpkg_contents
unfolding same_name
contents = own_placed package_schema gpkg_contents (plain_keys (gpkg_contents 0).uniques) 1 1
    (record { named = refl; there = refl; stored = refl; by_tree = refl })

tile_matrix_set : IsPlaced package_schema gpkg_tile_matrix_set
unfolding same_name
tile_matrix_set = own_placed package_schema gpkg_tile_matrix_set (plain_keys (gpkg_tile_matrix_set 0).uniques) 2 4
    (record { named = refl; there = refl; stored = refl; by_tree = refl })

tile_matrix : IsPlaced package_schema gpkg_tile_matrix
unfolding same_name
tile_matrix = own_placed package_schema gpkg_tile_matrix (plain_keys (gpkg_tile_matrix 0).uniques) 3 6
    (record { named = refl; there = refl; stored = refl; by_tree = refl })

relations : IsPlaced package_schema gpkgext_relations
unfolding same_name
relations = own_placed package_schema gpkgext_relations (plain_keys (gpkgext_relations 0).uniques) 4 8
    (record { named = refl; there = refl; stored = refl; by_tree = refl })

tiles : IsPlaced package_schema sheet_tiles
unfolding same_name
tiles = own_placed package_schema sheet_tiles (plain_keys (sheet_tiles 0).uniques) 5 10
    (record { named = refl; there = refl; stored = refl; by_tree = refl })

media : IsPlaced package_schema sheet_media
unfolding same_name
media = own_placed package_schema sheet_media (plain_keys (sheet_media 0).uniques) 7 13
    (record { named = refl; there = refl; stored = refl; by_tree = refl })

rows : IsPlaced package_schema sheet_rows
unfolding same_name
rows = own_placed package_schema sheet_rows (plain_keys (sheet_rows 0).uniques) 8 14
    (record { named = refl; there = refl; stored = refl; by_tree = refl })

has_tiles_media : IsPlaced package_schema tiles_media
unfolding same_name
has_tiles_media = own_placed package_schema tiles_media (plain_keys (tiles_media 0).uniques) 9 15
    (record { named = refl; there = refl; stored = refl; by_tree = refl })

has_rows_media : IsPlaced package_schema rows_media
unfolding same_name
has_rows_media = own_placed package_schema rows_media (plain_keys (rows_media 0).uniques) 10 17
    (record { named = refl; there = refl; stored = refl; by_tree = refl })

has_rows_tiles : IsPlaced package_schema rows_tiles
unfolding same_name
has_rows_tiles = own_placed package_schema rows_tiles (plain_keys (rows_tiles 0).uniques) 11 19
    (record { named = refl; there = refl; stored = refl; by_tree = refl })

head : IsPlaced package_schema sheet_package
unfolding same_name
head = own_placed package_schema sheet_package (plain_keys (sheet_package 0).uniques) 12 21
    (record { named = refl; there = refl; stored = refl; by_tree = refl })

identities : IsPlaced package_schema sheet_identity
unfolding same_name
identities = own_placed package_schema sheet_identity (plain_keys (sheet_identity 0).uniques) 13 22
    (record { named = refl; there = refl; stored = refl; by_tree = refl })

receipts : IsPlaced package_schema sheet_receipts
unfolding same_name
receipts = own_placed package_schema sheet_receipts (plain_keys (sheet_receipts 0).uniques) 14 25
    (record { named = refl; there = refl; stored = refl; by_tree = refl })

receipt_items : IsPlaced package_schema sheet_items
unfolding same_name
receipt_items = own_placed package_schema sheet_items (plain_keys (sheet_items 0).uniques) 15 27
    (record { named = refl; there = refl; stored = refl; by_tree = refl })

pub form : HasForm package_schema
form = record {
  quiet = quiet;
  spatial_ref_sys = spatial_ref_sys;
  contents = contents;
  tile_matrix_set = tile_matrix_set;
  tile_matrix = tile_matrix;
  relations = relations;
  tiles = tiles;
  media = media;
  rows = rows;
  tiles_media = has_tiles_media;
  rows_media = has_rows_media;
  rows_tiles = has_rows_tiles;
  head = head;
  identities = identities;
  receipts = receipts;
  receipt_items = receipt_items;
}

no_rows : (trees : Trees) → AllByRecursion (λ (t : Table). trees t.tree ≡ []) package_schema.tables
    → AllByRecursion (λ name. trees (tree_named package_schema name) ≡ []) table_names
unfolding same_name
no_rows trees (
  spatial,
  (
    contents,
    (
      sets,
      (
        matrices,
        (
          relations,
          (
            tiles,
            (
              counts,
              (
                media,
                (
                  rows,
                  (
                    links,
                    (
                      others,
                      (
                        shown,
                        (head, (identities, (receipts, (items, end)))),
                      ),
                    ),
                  ),
                ),
              ),
            ),
          ),
        ),
      ),
    ),
  ),
) = (
  spatial,
  (
    contents,
    (
      sets,
      (
        matrices,
        (
          relations,
          (
            tiles,
            (media, (rows, (links, (others, (shown, (head, (identities, (receipts, (items, end))))))))),
          ),
        ),
      ),
    ),
  ),
)

-- a table that is there and has no rows holds rows of its kinds
no_rows_formed : {R : Type 0} (shape : Shape R) (db : Database) → IsPlaced db.schema shape.table
    → stored_rows shape db ≡ [] → IsFormed shape db
no_rows_formed shape db placed none = record {
  placed = placed;
  keyed = rw none (record { ints = refl; rises = tt });
  stored = rw none tt;
}

no_rows_say : {R : Type 0} (shape : Shape R) (db : Database) → stored_rows shape db ≡ [] → rows_of shape db ≡ []
no_rows_say shape db none = rw none refl

empty_form : (db : Database) → IsBlank package_schema db → IsEmptyForm db
empty_form db blank = record {
  form = subst HasForm (sym blank.is) form;
  empty = subst (λ (s : Schema). AllByRecursion (λ name. db.trees (tree_named s name) ≡ []) table_names)
      (sym blank.is) (no_rows db.trees blank.empty);
}

module _ (db : Database) (it : IsEmptyForm db) where
  formed : IsDatabase db → AreFormed db
  formed sound = record {
    sound = sound;
    quiet = it.form.quiet;
    spatial_ref_sys = no_rows_formed spatial_ref_sys_shape db it.form.spatial_ref_sys it.empty.0;
    contents = no_rows_formed contents_shape db it.form.contents it.empty.1.0;
    tile_matrix_set = no_rows_formed tile_matrix_set_shape db it.form.tile_matrix_set it.empty.1.1.0;
    tile_matrix = no_rows_formed tile_matrix_shape db it.form.tile_matrix it.empty.1.1.1.0;
    relations = no_rows_formed relation_shape db it.form.relations it.empty.1.1.1.1.0;
    tiles = no_rows_formed tile_shape db it.form.tiles it.empty.1.1.1.1.1.0;
    media = no_rows_formed medium_shape db it.form.media it.empty.1.1.1.1.1.1.0;
    rows = no_rows_formed attribute_shape db it.form.rows it.empty.1.1.1.1.1.1.1.0;
    tiles_media = no_rows_formed tiles_media_shape db it.form.tiles_media it.empty.1.1.1.1.1.1.1.1.0;
    rows_media = no_rows_formed rows_media_shape db it.form.rows_media it.empty.1.1.1.1.1.1.1.1.1.0;
    rows_tiles = no_rows_formed rows_tiles_shape db it.form.rows_tiles it.empty.1.1.1.1.1.1.1.1.1.1.0;
    heads = no_rows_formed head_shape db it.form.head it.empty.1.1.1.1.1.1.1.1.1.1.1.0;
    identities = no_rows_formed identity_shape db it.form.identities it.empty.1.1.1.1.1.1.1.1.1.1.1.1.0;
    receipts = no_rows_formed receipt_shape db it.form.receipts it.empty.1.1.1.1.1.1.1.1.1.1.1.1.1.0;
    moved = no_rows_formed moved_shape db it.form.receipt_items it.empty.1.1.1.1.1.1.1.1.1.1.1.1.1.1.0;
  }

  says : tables_of db ≡ empty_tables
  says = rw (
    no_rows_say spatial_ref_sys_shape db it.empty.0,
    no_rows_say contents_shape db it.empty.1.0,
    no_rows_say
        tile_matrix_set_shape db it.empty.1.1.0,
    no_rows_say tile_matrix_shape db it.empty.1.1.1.0,
    no_rows_say
        relation_shape db it.empty.1.1.1.1.0,
    no_rows_say tile_shape db it.empty.1.1.1.1.1.0,
    no_rows_say medium_shape
        db it.empty.1.1.1.1.1.1.0,
    no_rows_say attribute_shape db it.empty.1.1.1.1.1.1.1.0,
    no_rows_say
        tiles_media_shape db it.empty.1.1.1.1.1.1.1.1.0,
    no_rows_say rows_media_shape db it.empty.1.1.1.1.1.1.1.1.1.0,
    no_rows_say rows_tiles_shape db it.empty.1.1.1.1.1.1.1.1.1.1.0,
    no_rows_say head_shape db
        it.empty.1.1.1.1.1.1.1.1.1.1.1.0,
    no_rows_say identity_shape db it.empty.1.1.1.1.1.1.1.1.1.1.1.1.0,
    no_rows_say
        receipt_shape db it.empty.1.1.1.1.1.1.1.1.1.1.1.1.1.0,
    no_rows_say moved_shape db
        it.empty.1.1.1.1.1.1.1.1.1.1.1.1.1.1.0,
  ) refl

keyed_if_empty : (trees : Trees) (tables : List Table) → AllByRecursion (λ (t : Table). trees t.tree ≡ []) tables
    → AllByRecursion (λ (t : Table). IsKeyed (trees t.tree)) tables
keyed_if_empty trees [] h = tt
keyed_if_empty trees (t ∷ tables) h = (
  subst IsKeyed (sym h.0) (record { ints = refl; rises = tt }),
  keyed_if_empty
      trees tables h.1,
)

pub new_package : (db : Database) → IsBlank package_schema db → IsDatabase db → IsNewPackage db
new_package db blank sound = let it = empty_form db blank in record {
  blank = blank;
  form = it;
  formed = formed db it sound;
  sound = sound;
  keyed =
      subst (λ (s : Schema). AllByRecursion (λ (t : Table). IsKeyed (db.trees t.tree)) s.tables) (sym blank.is)
      (keyed_if_empty db.trees package_schema.tables blank.empty);
  says = says db it;
}

pub package_made : (old new : State) (r : Result (Unit {0}) Error) → OnOk r (ChangedInside (MadeBy texts) old new)
    → OnOk r (ChangedInside BecomesPackage old new)
package_made old new (Ok done) made = record {
  shown = made.shown;
  changed = λ blank. let it =
      made.changed no_schema package_schema plan blank in new_package new.now it.0 it.1;
}
package_made old new (Err e) made = tt

pub package_failed : (old new : State) (r : Result (Unit {0}) Error) → IfErr r (FailsToMakeBy texts old new)
    → IsBlank no_schema old.now → IfErr r (FailsInside old new)
package_failed old new (Ok done) failed blank = tt
package_failed old new (Err e) failed blank = failed no_schema package_schema plan blank
