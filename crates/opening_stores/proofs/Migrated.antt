-- A store whose names are free goes through the migration, and another is left: nothing else in it changes.
use Rattle.std.proofs.Common.{inl, inr, Ok, Err, IsTrue, refl, sym, ◌∙◌}
use Rattle.std.specs.Prelude.{IfOk}
use Rattle.sqlite.specs.Tree.{Trees}
use Rattle.sqlite.specs.Store.{Ghosts}
use Rattle.sqlite.specs.Held.{Held, state}
use Rattle.sqlite.specs.Effect.{Database}
use Rattle.sqlite.specs.State.{State}
use Rattle.store_sql.specs.Transactions.{Rests, Holds, Turns, WouldLeave}
use Rattle.store_sql.proofs.Transactions.{Shuts, Settles, at_rest, same_survives}
use Rattle.sheet_types.specs.World.{Package}
use Rattle.sheet_types.specs.declared.frame.Frame.{Frame}
use Rattle.identity_register.specs.Reads.{Reads}
use Rattle.package_tables.proofs.InTurn.{Done, done}
use Rattle.package_v1.specs.FirstVersion.{AreFree}
use Rattle.package_v1.specs.Migrating.{Brings, BringsIfFirst}
use Rattle.opening_stores.specs.Brought.{BringsOnly}

-- a store of the second version has the table
not_free : (f : Frame) (p : Package) (db : Database) → Reads f p db → AreFree db.schema → ⊥
not_free f p db reads free = let e = sym free.table.table ∙ reads.formed.rows_tiles.placed.has.named in cc

brings_either : (old new : Database) → AreFree old.schema → Brings old new → BringsIfFirst old new
brings_either old new free brings f p (inl first) =
    let it = brings f p first in (it.reads, λ _. it.sound, λ second. absurd (not_free f p old second free))
brings_either old new free brings f p (inr second) = absurd (not_free f p old second free)

stays_either : (db : Database) → (AreFree db.schema → ⊥) → BringsIfFirst db db
stays_either db taken f p (inl first) = absurd (taken first.free)
stays_either db taken f p (inr second) = (second, λ sound. sound, λ _. refl)

brings_only : (old new : Database) → AreFree old.schema → Brings old new → BringsOnly old new
brings_only old new free brings = record { either = brings_either old new free brings; first = brings }

stays_only : (db : Database) → (AreFree db.schema → ⊥) → BringsOnly db db
stays_only db taken = record { either = stays_either db taken; first = λ f p first. absurd (taken first.free) }

abbrev First : Unit {0} → Database → Database → Type 0
First _ = Brings

abbrev pub Only : Unit {0} → Database → Database → Type 0
Only _ = BringsOnly

would : (old : Database) → AreFree old.schema → (trees : Trees) → WouldLeave First old trees
    → WouldLeave Only old trees
would old free trees (x, new, brings, same) = (x, new, brings_only old new free brings, same)

-- the turn of a store whose names are free
pub turn_only : (old new : State) (r : Done) → AreFree old.now.schema → Turns First old new r
    → Turns Only old new r
turn_only old new r free turn = record {
  rests = turn.rests;
  done = λ clean. at r (turn.done clean);
  undone = turn.undone;
  left = λ clean is_open trees may. elim (turn.left clean is_open trees may) [
    | inl before ↦ inl before
    | inr after ↦ inr (would old.now free trees after)
  ];
  survives = record {
    clean = turn.survives.clean;
    shield = turn.survives.shield;
    counts = turn.survives.counts;
    limit = turn.survives.limit;
    closes = turn.survives.closes;
    crash = λ clean trees may. elim (turn.survives.crash clean trees may) [
      | inl before ↦ inl before
      | inr after ↦ inr (would old.now free trees after)
    ];
  };
}
  where
    at : (r : Done) → IfOk r (λ x. Brings old.now new.now × Holds new new.now)
        → IfOk r (λ x. BringsOnly old.now new.now × Holds new new.now)
    at (Ok x) it = (brings_only old.now new.now free it.0, it.1)
    at (Err e) it = it

-- and of one whose names are not, which is left as it is
module _ {S : Type 0} (g : Ghosts S) (shuts : Shuts g) (settles : Settles g) (h : Held S) (rests : Rests (state g h))
    (is_open : IsTrue (state g h).is_open) (taken : AreFree (state g h).now.schema → ⊥) where
  pub turn_left : Turns Only (state g h) (state g h) done
  turn_left =
      let holds = at_rest g shuts settles h rests is_open in
      let same = same_survives (state g h) in
      record {
        rests = rests;
        done = λ clean. (stays_only (state g h).now taken, holds);
        undone = tt;
        left = λ clean opened trees may. inl (holds.left trees may);
        survives = record {
          clean = same.clean;
          shield = same.shield;
          counts = same.counts;
          limit = same.limit;
          closes = same.closes;
          crash = λ clean trees may. inl may;
        };
      }
