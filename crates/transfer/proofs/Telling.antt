-- What reads of a package tell, one after the other.
use Rattle.std.specs.Prelude.{◌≡◌, ℕ, ◌+◌, ◌<◌, List, [], ◌∷◌, ◌++◌, take, length, Option}
use Rattle.std.specs.Prelude.{Some, None, Result, Ok}
use Rattle.std.specs.Prelude.{Err, IsTrue, refl}
use Rattle.std.proofs.Common.{sym, ap, subst, ◌∙◌, arith, get_or}
use Rattle.std.specs.List.{filter_map, cons_option}
use Rattle.sqlite.specs.State.{State, HasCleanDisk}
use Rattle.store_sql.specs.Staying.{Stays}
use Rattle.store_sql.specs.Transactions.{Looks, Rests, Holds}
use Rattle.store_sql.proofs.Staying.{looks_stays, stays_then}
use Rattle.sheet_types.specs.World.{Package, item_of}
use Rattle.sheet_types.specs.declared.frame.Frame.{Frame}
use Rattle.sheet_types.specs.declared.command.Item.{Item}
use Rattle.identity_register.specs.Calls.{Sees}
use Rattle.identity_register.specs.Reads.{Reads}
use Rattle.store_sql.proofs.Transactions.{same_survives}
use Rattle.transfer.specs.Moves.{OfSource}

-- what some reads have told of the package so far, the store left as it was
pub record Told (Fact : Package → Type 0) (old new : State) : Type 0 where
  pub stays : Stays old new
  pub told : HasCleanDisk new → (f : Frame) (p : Package) → (IsTrue old.is_open → Reads f p old.now) → Fact p

-- one read
pub told_by : {X E : Type 0} (Answer : Package → X → Type 0) {old new : State} {r : Result X E} {x : X}
    → r ≡ Ok x
    → Looks {X = X} {E = E} (Sees (λ f p y. Answer p y)) old new r → Told (λ p. Answer p x) old new
told_by {X} {E} Answer {old} {new} {r} {x} is looks = record {
  stays = looks_stays looks;
  told = λ clean f p reads. let it = subst (Looks {X = X} {E = E} (Sees (λ f p y. Answer p y)) old new) is looks in
      let d = it.done clean in d.1.1 f p (reads (it.was_open d.0));
}

-- and one more
pub told_then : {First Next : Package → Type 0} {a b c : State} → Told First a b → Told Next b c
    → Told (λ p. First p × Next p) a c
told_then {First} {Next} {a} {b} {c} one two = record {
  stays = stays_then one.stays two.stays;
  told = λ clean f p reads. (
    one.told (omega (arith, two.stays.survives.clean, clean)) f p reads,
    two.told clean f p
        (λ is_open. subst (Reads f p) (sym (one.stays.holds is_open).now_is) (reads (one.stays.was_open is_open))),
  );
}

pub told_so : {First Next : Package → Type 0} {a b : State} → ((p : Package) → First p → Next p)
    → Told First a b
    → Told Next a b
told_so so it = record { stays = it.stays; told = λ clean f p reads. so p (it.told clean f p reads) }

-- nothing yet
pub told_none : {Fact : Package → Type 0} {s : State} → Rests s → ((p : Package) → Fact p)
    → (IsTrue s.is_open → Holds s s.now) → Told Fact s s
told_none {Fact} {s} rests so holds = record {
  stays = record
      { rests = rests; was_open = λ h. h; holds = holds; survives = same_survives s };
  told = λ clean f p reads. so p;
}

-- by its clauses
pub told_of : {Fact : Package → Type 0} {old new : State} → Stays old new
    → (HasCleanDisk new → OfSource old Fact)
    → Told Fact old new
told_of stays told = record { stays = stays; told = told }

-- the item of one identity more
pub item_more : (p : Package) (ids : List (List ℕ)) (id : List ℕ) (i : Item) → item_of p id ≡ Some i
    → filter_map (item_of p) (ids ++ id ∷ []) ≡ filter_map (item_of p) ids ++ i ∷ []
item_more p [] id i is = ap (λ o. cons_option o []) is
item_more p (x ∷ ids) id i is = one (item_of p x) (item_more p ids id i is)
  where
    one : (o : Option Item) → filter_map (item_of p) (ids ++ id ∷ []) ≡ filter_map (item_of p) ids ++ i ∷ []
        → cons_option o (filter_map (item_of p) (ids ++ id ∷ [])) ≡ cons_option o (filter_map (item_of p) ids)
        ++ i
        ∷ []
    one None rest = rest
    one (Some y) rest = ap (λ l. y ∷ l) rest
