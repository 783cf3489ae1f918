-- A store keeps each table in the order of its rowids, so a connection that was just made over one shows them so.
use Rattle.std.proofs.Common.{◌≡◌, inl, inr, true, false, List, [], ◌∷◌, IsTrue, Result, Ok, Err, refl}
use Rattle.std.proofs.Common.{sym, subst, arith, ◌≤◌}
use Rattle.std.specs.Prelude.{IfOk}
use Rattle.std.specs.List.{AllByRecursion}
use Rattle.std.proofs.lemmas.Bool.{cases_Bool, both_ways}
use Rattle.sqlite_trees.specs.declared.store.Shape.TheVariants as shape
use Rattle.sqlite_trees.specs.View.{View, IsShaped, IsOrdered, IsClean, doubt, is_int}
use Rattle.sqlite_trees.specs.Objects.{catalog_tree, IsListed}
use Rattle.sqlite_catalog.specs.Listing.{IsSound}
use Rattle.sqlite_catalog.proofs.LayoutLemmas.{held}
use Rattle.sqlite_catalog.proofs.StepLemmas.{is_table}
use Rattle.sqlite.specs.Held.{Serves}
use Rattle.sqlite.specs.Steps.{IsFresh}
use Rattle.sqlite.proofs.StateLemmas.{fit_to_run}
use Rattle.sqlite_rules.proofs.ListLemmas.{all_from}
use Rattle.sqlite.specs.Order.{Row}
use Rattle.sqlite.specs.Table.{Table}
use Rattle.sqlite.specs.Tree.{Trees, rowid}
use Rattle.sqlite.specs.Edit.{have_rowids}
use Rattle.sqlite.specs.Schema.{Schema}
use Rattle.sqlite.specs.Effect.{Database}
use Rattle.sqlite.specs.Store.{Ghosts}
use Rattle.sqlite.specs.Held.{Held, state}
use Rattle.sqlite.specs.State.{HasCleanDisk, Opens, IsLive}
use Rattle.store_sql.specs.Transactions.{Rests, IsAdopted}
use Rattle.store_sql.specs.Writing.{IsKeyed, AreKeyed}
use Rattle.store_sql.proofs.Transactions.{Shuts, Settles, at_rest}

have_ints : (rows : List Row) → AllByRecursion (λ r. is_int (rowid r) ≡ true) rows → have_rowids rows ≡ true
have_ints [] h = refl
have_ints (r ∷ rows) h = rw (h.0) (have_ints rows h.1)

shaped_keyed : (rows : List Row) → IsShaped shape.Table rows → IsKeyed rows
shaped_keyed rows h = record { ints = have_ints rows h.1; rises = h.0 }

-- the tables of a sound schema
pub tables_keyed : (v : View) (schema : Schema) → v.is_broken ≡ false → IsTrue v.is_numbered
    → IsSound schema v.trees → IsListed (v.trees catalog_tree) v.shape v.reals → IsOrdered v.shape v.trees
    → AreKeyed (record { schema = schema; trees = v.trees })
tables_keyed v schema unbroken numbered sound listed ordered =
    let serves : Serves v schema = record { unbroken = unbroken; numbered = numbered; sound = sound } in
    let holds = held (fit_to_run v schema serves) in
    all_from (λ (t : Table). IsKeyed (v.trees t.tree)) schema.tables
    (λ t has. shaped_keyed (v.trees t.tree) (subst (λ s. IsShaped s (v.trees t.tree))
    (is_table holds listed ordered t has).0 (ordered t.tree)))

-- a connection over a fresh store, whose schema is sound
pub fresh_keyed : (v : View) (db : Database) → IsFresh v → IsSound db.schema db.trees → db.trees ≡ v.trees
    → IsListed (v.trees catalog_tree) v.shape v.reals → IsOrdered v.shape v.trees → AreKeyed db
fresh_keyed v db fresh sound same listed ordered =
    subst (λ (trees : Trees). AreKeyed (record { schema = db.schema; trees = trees })) (sym same)
    (tables_keyed v db.schema fresh.sound fresh.numbered (subst (IsSound db.schema) same sound) listed ordered)

module _ {S : Type 0} (g : Ghosts S) (shuts : Shuts g) (settles : Settles g) (store : S)
    (listed : (g.view store).is_broken ≡ false → IsListed ((g.view store).trees catalog_tree) (g.view store).shape
    (g.view store).reals)
    (ordered : (g.view store).is_broken ≡ false → IsOrdered (g.view store).shape (g.view store).trees)
    (fresh : IsClean (g.view store) → IsFresh (g.view store)) where
  one_adopted : (c : Held S) → (HasCleanDisk (state g c) → Opens (state g c) × IsLive (state g c))
      → doubt (g.view store).is_clean ≤ doubt (state g c).is_clean
      → (HasCleanDisk (state g c) → (state g c).now.trees ≡ (g.view store).trees)
      → HasCleanDisk (state g c) → IsAdopted (state g c) (g.view store).trees
  one_adopted c opens clean same now =
      let opened = (opens now).0 in
      let sound = ((opens now).1 opened.is_open).0 in
      let new = fresh (omega (arith, clean, now)) in
      let rests : Rests (state g c) = record { autocommit = opened.autocommit; settled = λ _. opened.clean } in
      record {
        holds = at_rest g shuts settles c rests opened.is_open;
        trees_are = same now;
        sound = sound;
        keyed = fresh_keyed (g.view store) (state g c).now new sound (same now) (listed new.sound) (ordered new.sound);
      }

  -- by the clauses of `Connection::over`
  pub over_adopted : {X : Type 0} (r : Result (Held S) X) → IfOk r
      (λ c. HasCleanDisk (state g c) → Opens (state g c) × IsLive (state g c))
      → IfOk r (λ c. doubt (g.view store).is_clean ≤ doubt (state g c).is_clean)
      → IfOk r (λ c. HasCleanDisk (state g c) → (state g c).now.trees ≡ (g.view store).trees)
      → IfOk r (λ c. HasCleanDisk (state g c) → IsAdopted (state g c) (g.view store).trees)
  over_adopted (Ok c) opens clean same = one_adopted c opens clean same
  over_adopted (Err e) opens clean same = tt

-- a store that is not broken is open
pub open_if_whole : (v : View) → (v.is_open ≡ false → IsTrue v.is_broken) → v.is_broken ≡ false
    → IsTrue v.is_open
open_if_whole v law whole = elim (cases_Bool v.is_open) [
  | inl is_open ↦ is_open
  | inr shut ↦ absurd (both_ways v.is_broken whole (law shut))
]
