-- What one member tells of its package is told of all: the others were not looked at.
use Rattle.std.proofs.Common.{◌≡◌, refl, ℕ, List, slice_get, Some, Result, Ok, Err}
use Rattle.sqlite.specs.Store.{Ghosts}
use Rattle.sheet_types.specs.World.{World, Package}
use Rattle.sheet_types.specs.declared.frame.Frame.{Frame}
use Rattle.store_sql.specs.Transactions.{Looks}
use Rattle.store_sql.proofs.Staying.{looks_stays}
use Rattle.store_sql.proofs.Transactions.{Shuts, Settles}
use Rattle.identity_register.specs.Calls.{Sees}
use Rattle.world_members.specs.Members.{AllRest, IsMember, TurnsAt}
use Rattle.world_queries.specs.Asking.{AsksAll}
use Rattle.world_members.specs.declared.members.Member.{Member}
use Rattle.world_members.specs.Calls.{Judges}
use Rattle.world_members.proofs.Standing.{zip_at, turn_rests, turn_open, turn_stays, turn_clean, told_at}

module _ {S : Type 0} (g : Ghosts S) (shuts : Shuts g) (settles : Settles g) where
  -- a look at the package at a place
  pub looked_at : {X E : Type 0} (Look : Frame → Package → X → Type 0) {Answer : World → X → Type 0}
      (old new : List (Member S)) (at : ℕ) (r : Result X E) → TurnsAt g old new at
      (λ a b. Looks {X = X} {E = E} (Sees Look) a b r) → AllRest g old
      → ((x : X) (w : World) (p : Package) → slice_get w.packages at ≡ Some p → Look w.frame p x → Answer w x)
      → AsksAll g {X = X} {E = E} Answer old new r
  looked_at Look old new at (Ok x) turn rests so = record {
    rests = turn_rests g old new at turn turn.turned.rests rests;
    stay = turn_stays g shuts settles old new at turn (looks_stays turn.turned) rests;
    stays_open = λ clean was. turn_open g old new at turn (λ opened.
        (turn.turned.done (turn_clean g old new at turn clean)).0) was;
    told = λ clean w count are.
        let one : (p : Package) × (slice_get w.packages at ≡ Some p) × Look w.frame p x =
        told_at g Look old new at (Ok x) x turn refl clean count w are in
        so x w one.0 one.1 one.2;
  }
  looked_at Look old new at (Err e) turn rests so = record {
    rests = turn_rests g old new at turn turn.turned.rests rests;
    stay = turn_stays g shuts settles old new at turn (looks_stays turn.turned) rests;
    stays_open = λ clean. tt;
    told = λ clean. tt;
  }

  -- and a judgement of it, which a shut store may give too
  pub judged_at : {X E : Type 0} (Look : Frame → Package → X → Type 0) {Answer : World → X → Type 0}
      (old new : List (Member S)) (at : ℕ) (r : Result X E) → TurnsAt g old new at
      (λ a b. Judges {X = X} {E = E} Look a b r) → AllRest g old
      → ((x : X) (w : World) (p : Package) → slice_get w.packages at ≡ Some p → Look w.frame p x → Answer w x)
      → AsksAll g {X = X} {E = E} Answer old new r
  judged_at Look old new at (Ok x) turn rests so = record {
    rests = turn_rests g old new at turn turn.turned.stays.rests rests;
    stay = turn_stays g shuts settles old new at turn turn.turned.stays rests;
    stays_open = λ clean was. turn_open g old new at turn (turn.turned.stays_open
        (turn_clean g old new at turn clean)) was;
    told = λ clean w count are.
        let here : (p : Package) × (slice_get w.packages at ≡ Some p) × IsMember g w turn.was p =
        zip_at (IsMember g w) old w.packages at turn.was are.each turn.place in
        so x w here.0 here.1 (turn.turned.told (turn_clean g old new at turn clean) w.frame here.0 here.2.reads);
  }
  judged_at Look old new at (Err e) turn rests so = record {
    rests = turn_rests g old new at turn turn.turned.stays.rests rests;
    stay = turn_stays g shuts settles old new at turn turn.turned.stays rests;
    stays_open = λ clean. tt;
    told = λ clean. tt;
  }
