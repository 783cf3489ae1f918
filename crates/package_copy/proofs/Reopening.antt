-- A store that is opened again shows the database that it held.
use Rattle.std.proofs.Common.{◌≡◌, ◌∙◌, true, refl, sym, ap, subst}
use Rattle.sqlite.specs.Effect.{Database, IsDatabase}
use Rattle.sqlite.specs.Schema.{Schema}
use Rattle.sqlite.specs.State.{State, HasCleanDisk, IsLive}
use Rattle.sqlite.specs.Tree.{Trees}
use Rattle.sqlite_catalog.specs.Listing.{IsSound}
use Rattle.sqlite_trees.specs.View.{doubt}
use Rattle.sqlite_trees.proofs.Doubt.{no_doubt}
use Rattle.store_sql.specs.Transactions.{Rests, Holds, IsAdopted}
use Rattle.store_sql.specs.Writing.{AreKeyed}
use Rattle.store_sql.proofs.Schemas.{sound_alone}

-- trees have one schema
pub same_database : (old new : Database) → IsDatabase old → IsDatabase new → new.trees ≡ old.trees
    → new ≡ old
same_database old new one two same =
    let schemas : new.schema ≡ old.schema = sound_alone new.schema old.schema old.trees
    (subst (IsSound new.schema) same two) one in
    ap {A = Schema} (λ s. record { schema = s; trees = new.trees }) schemas
    ∙ ap {A = Trees} (λ t. record { schema = old.schema; trees = t }) same

-- a store in memory gives back what was written to it
pub clean : doubt true ≡ 0
clean = no_doubt true refl

module _ (old new : State) (is_clean : HasCleanDisk new) (adopted : HasCleanDisk new
    → IsAdopted new old.committed.trees) where
  pub rests_again : Rests new
  rests_again = (adopted is_clean).holds.rests

  pub keyed_again : AreKeyed new.now
  keyed_again = (adopted is_clean).keyed

  pub shows_again : IsLive old → Holds old old.now → new.now ≡ old.now
  shows_again live holds =
      let it = adopted is_clean in
      same_database old.now new.now (live holds.is_open).0 it.sound
      (it.trees_are ∙ ap (λ (db : Database). db.trees) (sym (holds.rests.settled holds.is_open)))
