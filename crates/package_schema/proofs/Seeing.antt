-- Calls that look at one store, one after the other, and what they tell of its database.
use Rattle.std.proofs.Common.{◌≡◌, subst, ◌∙◌, Result, Ok, Err, IsTrue, IsErr, refl, arith}
use Rattle.sqlite.specs.Effect.{Database, IsDatabase}
use Rattle.sqlite.specs.Schema.{Schema}
use Rattle.sqlite.specs.State.{State, HasCleanDisk, IsLive}
use Rattle.store_sql.specs.Transactions.{Looks}
use Rattle.store_sql.specs.Staying.{Stays}
use Rattle.store_sql.proofs.Staying.{looks_stays, stays_then}
use Rattle.package_schema.specs.Looking.{Sees}

-- what some calls have found of the database so far, the store left as it was
pub record Seen (Fact : Database → Type 0) (old new : State) : Type 0 where
  pub stays : Stays old new
  pub told : HasCleanDisk new → IsTrue new.is_open × (new.now ≡ old.now) × Fact old.now

-- one call that answered
pub seen : {X E : Type 0} (Says : Database → X → Type 0) {old new : State} {r : Result X E} {x : X} → r ≡ Ok x
    → Looks {X = X} {E = E} (Sees Says) old new r → Seen (λ db. Says db x) old new
seen {X} {E} Says {old} {new} {r} {x} is looks = record {
  stays = looks_stays looks;
  told = λ clean. let d =
      it.done clean in (d.0, d.1.0, d.1.1);
}
  where
    it : Looks {X = X} {E = E} (Sees Says) old new (Ok x)
    it = subst (Looks (Sees Says) old new) is looks

-- and one more
pub seen_then : {X E : Type 0} {Fact : Database → Type 0} (Says : Database → X → Type 0) {a b c : State}
    {r : Result X E} {x : X} → Seen Fact a b → r ≡ Ok x → Looks {X = X} {E = E} (Sees Says) b c r
    → Seen (λ db. Fact db × Says db x) a c
seen_then {Fact} Says {a} {b} {c} {r} {x} first is looks = record {
  stays = stays_then first.stays next.stays;
  told = λ clean.
      let before : HasCleanDisk b = omega (arith, next.stays.survives.clean, clean) in
      let d = first.told before in
      let e = next.told clean in
      (e.0, e.1 ∙ d.1, (d.2, subst (λ db. Says db x) d.1 e.2));
}
  where
    next : Seen (λ db. Says db x) b c
    next = seen Says is looks

-- what was found is an answer
pub sees : {X E : Type 0} {Fact : Database → Type 0} (Says : Database → X → Type 0) {old new : State} {x : X}
    → Seen Fact old new → ((db : Database) → Fact db → Says db x)
    → Looks {X = X} {E = E} (Sees Says) old new (Ok x)
sees Says {old} it says = record {
  rests = it.stays.rests;
  done = λ clean. let d = it.told clean in (d.0, (d.1, says old.now d.2));
  was_open = it.stays.was_open;
  holds = it.stays.holds;
  survives = it.stays.survives;
}

-- a call that failed tells nothing
pub fails : {X E : Type 0} {Changes : X → Database → Database → Type 0} {old new : State} (r : Result X E)
    → IsErr r
    → Stays old new → Looks {X = X} {E = E} Changes old new r
fails (Ok x) failed it = cc
fails (Err e) failed it = record {
  rests = it.rests;
  done = λ clean. tt;
  was_open = it.was_open;
  holds = it.holds;
  survives = it.survives;
}

-- the last call's answer
pub sees_last : {X E : Type 0} {Fact : Database → Type 0} (Last Says : Database → X → Type 0) {a b c : State}
    (r : Result X E) → Seen Fact a b → Looks {X = X} {E = E} (Sees Last) b c r
    → ((db : Database) (x : X) → Fact db → Last db x → Says db x)
    → Looks {X = X} {E = E} (Sees Says) a c r
sees_last Last Says (Ok x) first next says = sees Says (seen_then Last first refl next)
    (λ db both. says db x both.0 both.1)
sees_last Last Says (Err e) first next says = fails (Err e) refl (stays_then first.stays (looks_stays next))

-- a connection that answered shows a sound database, of whose schema this is so
pub sees_schema : {X E : Type 0} {Fact : Database → Type 0} (Says : Schema → X → Type 0) {old new : State} {x : X}
    → Seen Fact old new → IsLive new → Says new.now.schema x
    → Looks {X = X} {E = E} (Sees (λ db y. IsDatabase db × Says db.schema y)) old new (Ok x)
sees_schema Says {old} {new} {x} it live said = record {
  rests = it.stays.rests;
  done = λ clean. let d = it.told clean in (
    d.0,
    (
      d.1,
      (
        subst IsDatabase d.1 (live d.0).0,
        subst
            (λ db. Says db.schema x) d.1 said,
      ),
    ),
  );
  was_open = it.stays.was_open;
  holds = it.stays.holds;
  survives = it.stays.survives;
}
