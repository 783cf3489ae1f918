-- Questions to a store at rest that answers afterwards: it was open all along, so they were answered by what it held.
use Rattle.std.proofs.Common.{◌≡◌, ◌∙◌, sym, subst, Result, Ok, arith}
use Rattle.sqlite.specs.Effect.{Database}
use Rattle.sqlite.specs.Held.{Held, state}
use Rattle.sqlite.specs.State.{HasCleanDisk}
use Rattle.sqlite.specs.Store.{Ghosts}
use Rattle.store_sql.specs.Staying.{Stays}
use Rattle.store_sql.specs.Transactions.{Looks, Rests}
use Rattle.store_sql.proofs.Staying.{stays_then}
use Rattle.sheet_types.specs.World.{Package}
use Rattle.package_tables.specs.Calls.{Answers}
use Rattle.package_tables.specs.Package.{Tables}
use Rattle.identity_register.specs.Calls.{Sees}
use Rattle.identity_register.specs.Reach.{ShowsPackage}
use Rattle.identity_register.specs.Reads.{Reads}
use Rattle.identity_register.proofs.Looking.{Looked, looked}
use Rattle.cut.proofs.Asking.{Asked}

-- questions to a connection
abbrev pub AskedOf : {S : Type 0} → Ghosts S → (Package → Type 0) → Held S → Held S → Type 0
AskedOf g Fact = Asked (λ c. Rests (state g c)) (λ was now. Stays (state g was) (state g now))
    (λ c. ShowsPackage (state g c)) Fact

-- the store was only read
pub asked_stays : {S : Type 0} (g : Ghosts S) {Fact : Package → Type 0} {a b : Held S}
    → Stays (state g a) (state g a)
    → AskedOf g Fact a b → Stays (state g a) (state g b)
asked_stays g {a = a} itself it = it.stays a itself

-- and it answers still
pub asked_sees : {S X Y E F : Type 0} (g : Ghosts S) (Answer : Package → X → Type 0)
    (Last : Tables → Y → Type 0)
    {a b : Held S} (c : Held S) {x : X} {y : Y} {r : Result Y F} → Stays (state g a) (state g a)
    → AskedOf g (λ p. Answer p x) a b
    → r ≡ Ok y → Looks {X = Y} {E = F} (Answers Last) (state g b) (state g c) r
    → Looks {X = X} {E = E} (Sees (λ f. Answer)) (state g a) (state g c) (Ok x)
asked_sees g Answer Last {a} {b} c {y = y} itself first is looks = record {
  rests = both.rests;
  done = λ clean.
      let before : HasCleanDisk (state g b) = omega (arith, next.stays.survives.clean, clean) in
      let d = next.told clean in
      let is_open = next.stays.was_open d.0 in
      let now = (early.holds is_open).now_is in (
        d.0,
        (
          d.1 ∙ now,
          λ f p reads. first.told p (record {
            clean = before;
            is_open = is_open;
            frame = f;
            reads = subst (Reads f p) (sym now) reads;
          }),
        ),
      );
  was_open = both.was_open;
  holds = both.holds;
  survives = both.survives;
}
  where
    early : Stays (state g a) (state g b)
    early = asked_stays g itself first

    next : Looked (λ t. Last t y) (state g b) (state g c)
    next = looked Last is looks

    both : Stays (state g a) (state g c)
    both = stays_then early next.stays
