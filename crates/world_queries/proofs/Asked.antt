-- Members that are looked at one after the other, and what the first of them have told.
use Rattle.std.proofs.Common.{◌≡◌, sym, subst, ℕ, zero, suc, ◌+◌, ◌≤◌, List, [], ◌∷◌, take}
use Rattle.std.proofs.Common.{length, slice_get, Some}
use Rattle.std.proofs.Common.{Result, Ok, Err, IsErr, arith}
use Rattle.std.specs.List.{AllByRecursion}
use Rattle.std.proofs.lemmas.List.{take_all}
use Rattle.std.proofs.lemmas.Slice.Zip.{AllZip-long}
use Rattle.sqlite.specs.Store.{Ghosts}
use Rattle.sqlite.specs.Held.{state}
use Rattle.sqlite_trees.proofs.ListLemmas.{all-slice_get}
use Rattle.sheet_types.specs.World.{World, Package}
use Rattle.sheet_types.specs.Register.{IsRegister}
use Rattle.sheet_types.specs.declared.frame.Frame.{Frame}
use Rattle.sheet_types.proofs.Same.{In, In-all}
use Rattle.store_sql.specs.Transactions.{Looks}
use Rattle.store_sql.proofs.Staying.{looks_stays}
use Rattle.store_sql.proofs.Transactions.{Shuts, Settles}
use Rattle.identity_register.specs.Calls.{Sees}
use Rattle.world_members.specs.Members.{AllRest, AllClean, AllOpen, IsMember, AreMembers, AllStay, TurnsAt}
use Rattle.world_queries.specs.Asking.{AsksAll}
use Rattle.world_members.specs.declared.members.Member.{Member}
use Rattle.world_members.proofs.Standing.{all_still, all_stay_then, members_stay, clean_before, turn_rests, turn_open}
use Rattle.world_members.proofs.Standing.{turn_clean, turn_stays, told_at}

-- the first elements and one more
pub take_one_more : {X : Type 0} (P : X → Type 0) (xs : List X) (n : ℕ) (x : X) → AllByRecursion P (take n xs)
    → slice_get xs n ≡ Some x → P x → AllByRecursion P (take (n + 1) xs)
take_one_more P [] n x each place is = absurd (let e = place in cc)
take_one_more P (y ∷ ys) zero x each place is = let same : x ≡ y = cc in (subst P same is, tt)
take_one_more P (y ∷ ys) (suc n) x each place is = let on : suc n + 1 ≡ suc (n + 1) =
    omega arith in subst (λ k. AllByRecursion P (take k (y ∷ ys))) (sym on)
    (each.0, take_one_more P ys n x each.1 place is)

module _ {S : Type 0} (g : Ghosts S) where
  -- all were only read, and each of the first n packages has told this
  pub record Asked (Fact : Package → Type 0) (old now : List (Member S)) (n : ℕ) : Type 0 where
    pub rests : AllRest g now
    pub stay : AllStay g old now
    pub stays_open : AllClean g now → AllOpen g old → AllOpen g now
    pub told : AllClean g now → (count : ℕ) (w : World) → AreMembers g old count w
        → AllByRecursion Fact (take n w.packages)

  -- all have told it
  pub asked_all : {X E : Type 0} (Fact : Package → Type 0) (Answer : World → X → Type 0)
      (old now : List (Member S))
      (n : ℕ) (x : X) → length old ≤ n → ((w : World) → IsRegister w → AllByRecursion Fact w.packages
      → Answer w x)
      → Asked Fact old now n
      → AsksAll g {X = X} {E = E} Answer old now (Ok x)
  asked_all Fact Answer old now n x past so it = record {
    rests = it.rests;
    stay = it.stay;
    stays_open = it.stays_open;
    told = λ clean w count are.
        let long : length w.packages ≡ length old = AllZip-long (IsMember g w) old w.packages are.each in
        so w are.register (subst (AllByRecursion Fact) (take_all n w.packages (omega (arith, long, past)))
        (it.told clean count w are));
  }

  module _ (shuts : Shuts g) (settles : Settles g) where
    -- none is asked yet
    pub asked_none : (Fact : Package → Type 0) (old : List (Member S)) → AllRest g old → Asked Fact old old 0
    asked_none Fact old rests = record {
      rests = rests;
      stay = all_still g shuts settles old rests;
      stays_open = λ clean was. was;
      told = λ clean count w are. tt;
    }

    module _ {X E : Type 0} (Look : Frame → Package → X → Type 0) (Fact : Package → Type 0)
        (old now new : List (Member S)) (n : ℕ) (r : Result X E) (it : Asked Fact old now n)
        (turn : TurnsAt g now new n (λ a b. Looks {X = X} {E = E} (Sees Look) a b r)) where
      next_rests : AllRest g new
      next_rests = turn_rests g now new n turn turn.turned.rests it.rests

      here : AllStay g now new
      here = turn_stays g shuts settles now new n turn (looks_stays turn.turned) it.rests

      next_stay : AllStay g old new
      next_stay = all_stay_then g old now new it.stay here

      next_open : (x : X) → r ≡ Ok x → AllClean g new → AllOpen g old → AllOpen g new
      next_open x is clean was =
          let looks : Looks {X = X} {E = E} (Sees Look) (state g turn.was.conn) (state g turn.last) (Ok x) =
          subst (Looks (Sees Look) (state g turn.was.conn) (state g turn.last)) is turn.turned in
          turn_open g now new n turn (λ opened. (looks.done (turn_clean g now new n turn clean)).0)
          (it.stays_open (clean_before g now new here clean) was)

      one_told : (x : X) → r ≡ Ok x → AllClean g new → (count : ℕ) (w : World) → AreMembers g old count w
          → (p : Package) × (slice_get w.packages n ≡ Some p) × Look w.frame p x
      one_told x is clean count w are = told_at g Look now new n r x turn is clean count w
          (members_stay g old now count w it.stay are)

      -- one more has told it
      pub asked_one : (x : X) → r ≡ Ok x → ((f : Frame) (p : Package) → Look f p x → Fact p)
          → Asked Fact old new (n + 1)
      asked_one x is so = record {
        rests = next_rests;
        stay = next_stay;
        stays_open = λ clean was. next_open x is clean was;
        told = λ clean count w are.
            let one : (p : Package) × (slice_get w.packages n ≡ Some p) × Look w.frame p x =
            one_told x is clean count w are in
            take_one_more Fact w.packages n one.0 (it.told (clean_before g now new here clean) count w are) one.1
            (so w.frame one.0 one.2);
      }

      -- one package answers for the world
      pub asked_here : {Y E' : Type 0} (Answer : World → Y → Type 0) (x : X) (y : Y) → r ≡ Ok x
          → ((w : World) (p : Package) → IsRegister w → In p w.packages → Look w.frame p x → Answer w y)
          → AsksAll g {X = Y} {E = E'} Answer old new (Ok y)
      asked_here Answer x y is so = record {
        rests = next_rests;
        stay = next_stay;
        stays_open = λ clean was. next_open x is clean was;
        told = λ clean w count are.
            let one : (p : Package) × (slice_get w.packages n ≡ Some p) × Look w.frame p x =
            one_told x is clean count w are in
            so w one.0 are.register (all-slice_get (λ y. In y w.packages) w.packages n one.0 one.1
            (In-all w.packages)) one.2;
      }

      -- a look that failed tells nothing
      pub asked_fails : {Y E' : Type 0} (Answer : World → Y → Type 0) (q : Result Y E') → IsErr q
          → AsksAll g {X = Y} {E = E'} Answer old new q
      asked_fails Answer (Ok y) failed = cc
      asked_fails Answer (Err e) failed = record {
        rests = next_rests;
        stay = next_stay;
        stays_open = λ clean. tt;
        told = λ clean. tt;
      }
