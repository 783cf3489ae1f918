-- Looks at the package of one store, one after the other, and what is judged by them.
use Rattle.std.proofs.Common.{◌≡◌, subst, Result, Ok, Err, IsTrue}
use Rattle.sqlite.specs.Store.{Ghosts}
use Rattle.sqlite.specs.Held.{Held, state}
use Rattle.sqlite.specs.State.{State, HasCleanDisk}
use Rattle.store_sql.specs.Transactions.{Rests, Looks}
use Rattle.store_sql.specs.Staying.{Stays}
use Rattle.store_sql.proofs.Staying.{looks_stays}
use Rattle.store_sql.proofs.Transactions.{Shuts, Settles, at_rest, same_survives}
use Rattle.sheet_types.specs.World.{Package}
use Rattle.sheet_types.specs.declared.frame.Frame.{Frame}
use Rattle.identity_register.specs.Calls.{Sees}
use Rattle.identity_register.specs.Reads.{Reads}
use Rattle.world_members.specs.Calls.{Judges}

-- what some looks have found of the package so far, the store left as it was
pub record Seen (Fact : Frame → Package → Type 0) (old new : State) : Type 0 where
  pub stays : Stays old new
  pub stays_open : HasCleanDisk new → IsTrue new.is_open
  pub told : HasCleanDisk new → IsTrue old.is_open × ((new.now ≡ old.now)
      × ((f : Frame) (p : Package) → Reads f p old.now → Fact f p))

-- one look that answered
pub seen : {X E : Type 0} (Answer : Frame → Package → X → Type 0) {old new : State} {r : Result X E} {x : X}
    → r ≡ Ok x → Looks {X = X} {E = E} (Sees Answer) old new r → Seen (λ f p. Answer f p x) old new
seen {X} {E} Answer {old} {new} {r} {x} is looks = record {
  stays = looks_stays looks;
  stays_open = λ clean. (it.done clean).0;
  told = λ clean. let d = it.done clean in (it.was_open d.0, (d.1.0, d.1.1));
}
  where
    it : Looks {X = X} {E = E} (Sees Answer) old new (Ok x)
    it = subst (Looks (Sees Answer) old new) is looks

-- what was found is judged
pub judges : {X E : Type 0} {Fact : Frame → Package → Type 0} {Answer : Frame → Package → X → Type 0}
    {old new : State} {x : X} → Seen Fact old new
    → ((f : Frame) (p : Package) → Reads f p old.now → Fact f p → Answer f p x)
    → Judges {X = X} {E = E} Answer old new (Ok x)
judges it so = record {
  stays = it.stays;
  stays_open = λ clean was. it.stays_open clean;
  told = λ clean f p reads. let t = it.told clean in so f p (reads t.0) (t.1.1 f p (reads t.0));
}

-- a judgement says what follows from it
pub judges_so : {X E : Type 0} (Given : Frame → Package → X → Type 0)
    {Answer : Frame → Package → X → Type 0}
    {old new : State} (r : Result X E) → ((x : X) (f : Frame) (p : Package) → Given f p x → Answer f p x)
    → Judges {X = X} {E = E} Given old new r → Judges {X = X} {E = E} Answer old new r
judges_so Given (Ok x) so it = record {
  stays = it.stays;
  stays_open = it.stays_open;
  told = λ clean f p reads. so x f p (it.told clean f p reads);
}
judges_so Given (Err e) so it = record { stays = it.stays; stays_open = λ clean. tt; told = λ clean. tt }

module _ {S : Type 0} (g : Ghosts S) (shuts : Shuts g) (settles : Settles g) where
  -- a store at rest that no one looks at stays as it is
  pub stays_still : (h : Held S) → Rests (state g h) → Stays (state g h) (state g h)
  stays_still h rests = record {
    rests = rests;
    was_open = λ is_open. is_open;
    holds = λ is_open. at_rest g shuts settles h rests is_open;
    survives = same_survives (state g h);
  }

  -- what is judged without a look
  pub judges_still : {X E : Type 0} {Answer : Frame → Package → X → Type 0} {x : X} (h : Held S)
      → Rests (state g h)
      → ((f : Frame) (p : Package) → Answer f p x) → Judges {X = X} {E = E} Answer (state g h) (state g h) (Ok x)
  judges_still h rests so = record {
    stays = stays_still h rests;
    stays_open = λ clean was. was;
    told = λ clean f p reads. so f p;
  }
