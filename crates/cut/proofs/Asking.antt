-- Questions one after the other to one reach, and what they tell of its package.
use Rattle.std.proofs.Common.{◌≡◌, refl, subst, Result, Ok, Err, IsErr}
use Rattle.std.specs.Prelude.{⊤}
use Rattle.sheet_types.specs.World.{Package}
use Rattle.identity_register.specs.Reach.{Asks}

-- what some questions have told so far
pub record Asked {R : Type 0} (CanAsk : R → Type 0) (Stays : R → R → Type 0) (Shows : R → Package → Type 0)
    (Fact : Package → Type 0) (old new : R) : Type 0 where
  pub again : CanAsk new
  pub stays : (was : R) → Stays was old → Stays was new
  pub showed : (p : Package) → Shows new p → Shows old p
  pub told : (p : Package) → Shows new p → Fact p

module _ {R : Type 0} {CanAsk : R → Type 0} {Stays : R → R → Type 0} {Shows : R → Package → Type 0} where
  -- before the first question
  pub at_first : (Fact : Package → Type 0) (old : R) → CanAsk old → ((p : Package) → Fact p)
      → Asked CanAsk Stays Shows Fact old old
  at_first Fact old ready facts = record {
    again = ready;
    stays = λ was h. h;
    showed = λ p h. h;
    told = λ p h. facts p;
  }

  -- a question that was answered
  pub asked : {X E : Type 0} (Answer : Package → X → Type 0) {old new : R} {r : Result X E} {x : X} → r ≡ Ok x
      → Asks {X = X} {E = E} CanAsk Stays Shows Answer old new r
      → Asked CanAsk Stays Shows (λ p. Answer p x) old new
  asked {X} {E} Answer {old} {new} {r} {x} is asks = record {
    again = it.again;
    stays = it.stays;
    showed = it.showed;
    told = it.told;
  }
    where
      it : Asks {X = X} {E = E} CanAsk Stays Shows Answer old new (Ok x)
      it = subst (Asks CanAsk Stays Shows Answer old new) is asks

  -- whatever it answered
  pub stayed : {X E : Type 0} {Answer : Package → X → Type 0} {old new : R} {r : Result X E}
      → Asks {X = X} {E = E} CanAsk Stays Shows Answer old new r → Asked CanAsk Stays Shows (λ p. ⊤) old new
  stayed it = record { again = it.again; stays = it.stays; showed = it.showed; told = λ p h. tt }

  -- one after the other
  pub asked_then : {First Second : Package → Type 0} {a b c : R} → Asked CanAsk Stays Shows First a b
      → Asked CanAsk Stays Shows Second b c → Asked CanAsk Stays Shows (λ p. First p × Second p) a c
  asked_then first second = record {
    again = second.again;
    stays = λ was h. second.stays was (first.stays was h);
    showed = λ p h. first.showed p (second.showed p h);
    told = λ p h. (first.told p (second.showed p h), second.told p h);
  }

  -- what follows from what was told
  pub asked_so : {Fact Other : Package → Type 0} {a b : R} → Asked CanAsk Stays Shows Fact a b
      → ((p : Package) → Fact p → Other p) → Asked CanAsk Stays Shows Other a b
  asked_so it so = record { again = it.again; stays = it.stays; showed = it.showed; told = λ p h. so p (it.told p h) }

  -- what was told is an answer
  pub answers : {X E : Type 0} {Fact : Package → Type 0} {Answer : Package → X → Type 0} {a b : R} {x : X}
      → Asked CanAsk Stays Shows Fact a b → ((p : Package) → Fact p → Answer p x)
      → Asks {X = X} {E = E} CanAsk Stays Shows Answer a b (Ok x)
  answers it so = record { again = it.again; stays = it.stays; showed = it.showed; told = λ p h. so p (it.told p h) }

  -- a question that failed tells nothing
  pub fails : {X E : Type 0} {Fact : Package → Type 0} {Answer : Package → X → Type 0} {a b : R} (r : Result X E)
      → IsErr r → Asked CanAsk Stays Shows Fact a b → Asks {X = X} {E = E} CanAsk Stays Shows Answer a b r
  fails (Ok x) failed it = cc
  fails (Err e) failed it = record { again = it.again; stays = it.stays; showed = it.showed; told = tt }

  -- the last answer says what follows from it
  pub answers_last : {X E : Type 0} {Fact : Package → Type 0} (Last : Package → X → Type 0)
      {Answer : Package → X → Type 0} {a b c : R} (r : Result X E) → Asked CanAsk Stays Shows Fact a b
      → Asks {X = X} {E = E} CanAsk Stays Shows Last b c r
      → ((p : Package) (x : X) → Fact p → Last p x → Answer p x)
      → Asks {X = X} {E = E} CanAsk Stays Shows Answer a c r
  answers_last Last (Ok x) first next so = answers (asked_then first (asked Last refl next))
      (λ p both. so p x both.0 both.1)
  answers_last Last (Err e) first next so = fails (Err e) refl (asked_then first (stayed next))
