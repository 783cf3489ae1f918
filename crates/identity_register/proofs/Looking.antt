-- Calls that look at the tables of one store, one after the other, and what they tell of its package.
use Rattle.std.proofs.Common.{◌≡◌, refl, sym, subst, ◌∙◌, Result, Ok, Err, IsTrue, IsErr, arith}
use Rattle.sqlite.specs.Effect.{Database}
use Rattle.sqlite.specs.State.{State, HasCleanDisk}
use Rattle.store_sql.specs.Transactions.{Looks}
use Rattle.store_sql.specs.Staying.{Stays}
use Rattle.store_sql.proofs.Staying.{looks_stays, stays_then}
use Rattle.sheet_types.specs.World.{Package}
use Rattle.sheet_types.specs.declared.frame.Frame.{Frame}
use Rattle.package_tables.specs.Calls.{Answers}
use Rattle.package_tables.specs.Package.{Tables, tables_of, AreFormed}
use Rattle.identity_register.specs.Calls.{Sees}
use Rattle.identity_register.specs.Reads.{Says}

-- what some calls have found in the tables so far, the store left as it was
pub record Looked (Fact : Tables → Type 0) (old new : State) : Type 0 where
  pub stays : Stays old new
  pub told : HasCleanDisk new → IsTrue new.is_open × (new.now ≡ old.now)
      × (AreFormed old.now → Fact (tables_of old.now))

-- one call that answered
pub looked : {X E : Type 0} (Answer : Tables → X → Type 0) {old new : State} {r : Result X E} {x : X} → r ≡ Ok x
    → Looks {X = X} {E = E} (Answers Answer) old new r → Looked (λ t. Answer t x) old new
looked {X} {E} Answer {old} {new} {r} {x} is looks = record {
  stays = looks_stays looks;
  told = λ clean. let d =
      it.done clean in (d.0, d.1.0, d.1.1);
}
  where
    it : Looks {X = X} {E = E} (Answers Answer) old new (Ok x)
    it = subst (Looks (Answers Answer) old new) is looks

-- and one more
pub looked_then : {X E : Type 0} {Fact : Tables → Type 0} (Answer : Tables → X → Type 0) {a b c : State}
    {r : Result X E} {x : X} → Looked Fact a b → r ≡ Ok x → Looks {X = X} {E = E} (Answers Answer) b c r
    → Looked (λ t. Fact t × Answer t x) a c
looked_then {Fact} Answer {a} {b} {c} {r} {x} first is looks = record {
  stays = stays_then first.stays next.stays;
  told = λ clean.
      let before : HasCleanDisk b = omega (arith, next.stays.survives.clean, clean) in
      let d = first.told before in
      let e = next.told clean in (
        e.0,
        e.1 ∙ d.1,
        λ formed. (
          d.2 formed,
          subst (λ db. Answer (tables_of db) x) d.1
              (e.2 (subst AreFormed (sym d.1) formed)),
        ),
      );
}
  where
    next : Looked (λ t. Answer t x) b c
    next = looked Answer is looks

-- what was found says what the package has
pub sees : {X E : Type 0} {Fact : Tables → Type 0} {Answer : Frame → Package → X → Type 0} {old new : State}
    {x : X}
    → Looked Fact old new
    → ((f : Frame) (p : Package) (t : Tables) → Says f p t → Fact t → Answer f p x)
    → Looks {X = X} {E = E} (Sees Answer) old new (Ok x)
sees {old} it says = record {
  rests = it.stays.rests;
  done = λ clean. let d = it.told clean in (
    d.0,
    (
      d.1,
      λ f p reads. says f p (tables_of old.now) reads.says
          (d.2 reads.formed),
    ),
  );
  was_open = it.stays.was_open;
  holds = it.stays.holds;
  survives = it.stays.survives;
}

-- what was found answers a question of the tables
pub tells : {X E : Type 0} {Fact : Tables → Type 0} (Answer : Tables → X → Type 0) {old new : State} {x : X}
    → Looked Fact old new → ((t : Tables) → Fact t → Answer t x)
    → Looks {X = X} {E = E} (Answers Answer) old new (Ok x)
tells Answer {old} it says = record {
  rests = it.stays.rests;
  done = λ clean. let d = it.told clean in (d.0, (d.1, λ formed. says (tables_of old.now) (d.2 formed)));
  was_open = it.stays.was_open;
  holds = it.stays.holds;
  survives = it.stays.survives;
}

-- a call that failed tells nothing
pub fails : {X E : Type 0} {Changes : X → Database → Database → Type 0} {old new : State} (r : Result X E)
    → IsErr r
    → Stays old new → Looks {X = X} {E = E} Changes old new r
fails (Ok x) failed it = cc
fails (Err e) failed it = record {
  rests = it.rests;
  done = λ clean. tt;
  was_open = it.was_open;
  holds = it.holds;
  survives = it.survives;
}

-- an answer to a question that has two forms
pub asked : {A X E : Type 0} (Answer : A → Tables → X → Type 0) {a b : A} {old new : State} {r : Result X E}
    → a ≡ b
    → Looks {X = X} {E = E} (Answers (Answer a)) old new r → Looks {X = X} {E = E} (Answers (Answer b)) old new r
asked Answer {a} {b} {old} {new} {r} e it = subst (λ x. Looks (Answers (Answer x)) old new r) e it

-- the last call's answer is what the package has
pub sees_last : {X E : Type 0} {Fact : Tables → Type 0} (Last : Tables → X → Type 0)
    {Answer : Frame → Package → X → Type 0} {a b c : State} (r : Result X E) → Looked Fact a b
    → Looks {X = X} {E = E} (Answers Last) b c r
    → ((f : Frame) (p : Package) (t : Tables) (x : X) → Says f p t → Fact t → Last t x → Answer f p x)
    → Looks {X = X} {E = E} (Sees Answer) a c r
sees_last Last (Ok x) first next says = sees (looked_then Last first refl next)
    (λ f p t known both. says f p t x known both.0 both.1)
sees_last Last (Err e) first next says = fails (Err e) refl (stays_then first.stays (looks_stays next))

-- an answer says what follows from it
pub tells_so : {X E : Type 0} (Last Answer : Tables → X → Type 0) {a b : State} (r : Result X E)
    → Looks {X = X} {E = E} (Answers Last) a b r → ((t : Tables) (x : X) → Last t x → Answer t x)
    → Looks {X = X} {E = E} (Answers Answer) a b r
tells_so Last Answer (Ok x) it so = tells Answer (looked Last refl it) (λ t. so t x)
tells_so Last Answer (Err e) it so = fails (Err e) refl (looks_stays it)

-- what a look tells of the package says what follows from it
pub sees_so : {X Y E E' : Type 0} (Given : Frame → Package → X → Type 0)
    {Answer : Frame → Package → Y → Type 0}
    {old new : State} {r : Result X E} {x : X} {y : Y} → r ≡ Ok x → Looks {X = X} {E = E} (Sees Given) old new r
    → ((f : Frame) (p : Package) (t : Tables) → Says f p t → Given f p x → Answer f p y)
    → Looks {X = Y} {E = E'} (Sees Answer) old new (Ok y)
sees_so {X} {E} Given {old} {new} {r} {x} is looks so = record {
  rests = it.rests;
  done = λ clean. let d = it.done clean in (
    d.0,
    (
      d.1.0,
      λ f p reads. so f p (tables_of old.now) reads.says
          (d.1.1 f p reads),
    ),
  );
  was_open = it.was_open;
  holds = it.holds;
  survives = it.survives;
}
  where
    it : Looks {X = X} {E = E} (Sees Given) old new (Ok x)
    it = subst (Looks (Sees Given) old new) is looks
