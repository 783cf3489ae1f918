-- A connection over files that was just opened holds what it shows, each table in the order of its rowids: the pages
-- of its last commit are those of a sound file.
use Rattle.std.proofs.Common.{◌≡◌, ◌∙◌, refl, sym, ap, subst, true, false, List, IsTrue}
use Rattle.std.proofs.Math.Logic.{∥∥₁_elim}
use Rattle.sqlite_disk.specs.declared.Disk.{Ghosts}
use Rattle.sqlite_catalog.specs.Listing.{IsSound}
use Rattle.sqlite_wal.proofs.StateLemmas.{clean_of}
use Rattle.sqlite_trees.specs.Tree.{Trees}
use Rattle.sqlite_trees.specs.View.{View, IsOrdered}
use Rattle.sqlite_trees.specs.Props.{IsOrdered-prop}
use Rattle.sqlite_trees.specs.Objects.{catalog_tree, IsListed}
use Rattle.sqlite_store.specs.declared.catalog.Wanted.{Wanted}
use Rattle.sqlite_store.specs.declared.store.FileStore.{FileStore}
use Rattle.sqlite_store.specs.FileStore as store
use Rattle.sqlite_store.specs.Saved.{kept_schema}
use Rattle.sqlite_store.specs.Listing.{file_trees, all_shapes, all_reals}
use Rattle.sqlite_store.specs.Listed.{catalog_rows, is_listed}
use Rattle.sqlite_store.specs.Laws.{settled_at, shut_if_dirty_at}
use Rattle.sqlite_store.proofs.ListingLemmas.{all_ordered}
use Rattle.sqlite.specs.Effect.{Database}
use Rattle.sqlite.specs.Files.{file_state, over_files, IsOpened}
use Rattle.sqlite.specs.Held.{Held}
use Rattle.store_sql.specs.Transactions.{Holds, Rests}
use Rattle.store_sql.specs.Writing.{AreKeyed}
use Rattle.store_sql.proofs.Opened.{tables_keyed}
use Rattle.store_sql.proofs.Transactions.{at_rest}

module _ {D : Type 0} {g : Ghosts D} where
  abbrev schema_of : FileStore D g → List Wanted
  schema_of it = kept_schema it.saved it.schema.items

  abbrev trees_of : FileStore D g → Trees
  trees_of it = file_trees (store.state it).page_size (schema_of it) (store.state it).committed

  committed_is : (it : FileStore D g) → IsTrue (store.view it).is_open → (store.view it).committed ≡ trees_of it
  committed_is it is_open = rw (clean_of (store.state it) is_open)

  ordered : (it : FileStore D g) → IsTrue (store.view it).is_open
      → IsOrdered (all_shapes (schema_of it)) (trees_of it)
  ordered it is_open = ∥∥₁_elim (it.stored is_open) (IsOrdered-prop _ _)
      (λ stored. all_ordered stored.ours.file.db _)

  listed : (it : FileStore D g) → IsListed (trees_of it catalog_tree) (all_shapes (schema_of it))
      (all_reals (schema_of it))
  listed it = rw (catalog_rows (store.state it).page_size (schema_of it) _) (is_listed (schema_of it))

  -- A view of the committed trees, of which the lemma asks no more than shapes and order.
  abbrev seen : FileStore D g → View
  seen it = record (store.view it) {
    trees = trees_of it;
    shape = all_shapes (schema_of it);
    reals = all_reals (schema_of it);
    is_broken = false;
    is_numbered = true;
  }

  pub files_keyed : (c : Held (FileStore D g)) → IsOpened c → AreKeyed (file_state c).now
  files_keyed c opened =
      let it = c.store in
      let is_open = opened.0.is_open in
      let same : trees_of it ≡ (store.view it).trees = sym (committed_is it is_open)
      ∙ ap (λ (db : Database). db.trees) (sym opened.0.clean) in
      let sound = (opened.1 is_open).0 in
      subst (λ (trees : Trees). AreKeyed (record { schema = c.schema; trees = trees })) same
      (tables_keyed (seen it) c.schema refl refl (subst (λ (trees : Trees). IsSound c.schema trees) (sym same) sound)
      (listed it) (ordered it is_open))

  -- `stays` is the law of a disk that a crash may leave what a read returns
  pub files_held : (stays : (file : D) → g.may_leave file (g.seen file)) → (c : Held (FileStore D g)) → IsOpened c
      → Holds (file_state c) (file_state c).now
  files_held stays c opened =
      let rests : Rests (file_state c) = record { autocommit = opened.0.autocommit; settled = λ _. opened.0.clean } in
      at_rest over_files shut_if_dirty_at (λ it. settled_at it stays) c rests opened.0.is_open
