-- What a crash leaves of a store in which a package was to be made and was not.
use Rattle.std.proofs.Common.{◌≡◌, inl, inr, ℕ, List, Option, true, false, IsTrue, Ok, Err, refl, arith}
use Rattle.sqlite.specs.Effect.{Database}
use Rattle.sqlite.specs.State.{State}
use Rattle.sheet_types.specs.Lines.{IsUuid}
use Rattle.sheet_types.specs.Matrix.{is_good_frame}
use Rattle.sheet_types.specs.Texts.{is_moment}
use Rattle.sheet_types.specs.declared.frame.Frame.{Frame}
use Rattle.store_sql.specs.Transactions.{Holds, Turns}
use Rattle.package_tables.specs.Creation.{head_of, new_tables, Fills, HoldsTables}
use Rattle.package_tables.specs.declared.fault.Fault.{Fault}
use Rattle.identity_register.specs.Creation.{new_package, Keeps}
use Rattle.identity_register.specs.Reads.{Reads, is_fit_end}
use Rattle.identity_register.proofs.NewPackage.{new_keeps}
use Rattle.package_creation.specs.Unmaking.{IsUnmade}

-- a state that shows this database, at rest
abbrev showing : State → Database → State
showing s db = record s {
  now = db;
  committed = db;
  in_transaction = false;
  is_open = true;
  may_leave = λ trees. trees ≡ db.trees;
}

module _ (f : Frame) (uuid : List ℕ) (parent : Option (List ℕ)) (depth loan : ℕ) (created : List ℕ)
    (good : IsTrue (is_good_frame f)) (fit : IsUuid uuid) (fit_parent : is_fit_end parent ≡ true) where
  -- a database with the tables of a new package reads as it
  reads_new : (s : State) (db : Database) → is_moment created ≡ true
      → HoldsTables db (new_tables f (head_of uuid parent depth loan created))
      → Reads f (new_package uuid parent depth loan) db
  reads_new s db moment it =
      let holds : Holds (showing s db) db = record {
        is_open = refl;
        rests = record { autocommit = refl; settled = λ opened. refl };
        now_is = refl;
        left = λ trees same. same;
      } in
      let keeps : Keeps f (new_package uuid parent depth loan) (showing s db) =
      new_keeps f uuid parent depth loan created good moment fit fit_parent (showing s db) it holds in
      keeps.reads

  pub unmade_by : (why : Fault) (old new : State) → Turns {X = Unit {0}} {E = Fault}
      (λ _. Fills (new_tables f (head_of uuid parent depth loan created))) old new (Err why)
      → IsUnmade f (new_package uuid parent depth loan) created old new
  unmade_by why old new turns = record {
    rests = turns.rests;
    undone = turns.undone;
    clean = λ clean. omega (arith, turns.survives.clean, clean);
    left = λ clean blank trees may. elim (turns.survives.crash clean trees may) [
      | inl before ↦ inl before
      | inr made ↦ inr (λ moment. (made.1, made.3, reads_new old made.1 moment (made.2 blank)))
    ];
  }
