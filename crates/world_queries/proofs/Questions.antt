-- Questions to the members one after the other, and what they have told together.
use Rattle.std.proofs.Common.{◌≡◌, subst, ℕ, List, Result, Ok, Err, IsErr}
use Rattle.sqlite.specs.Store.{Ghosts}
use Rattle.sheet_types.specs.World.{World}
use Rattle.store_sql.proofs.Transactions.{Shuts, Settles}
use Rattle.world_members.specs.Members.{AllRest, AreMembers}
use Rattle.world_queries.specs.Asking.{AsksAll}
use Rattle.world_members.specs.declared.members.Member.{Member}
use Rattle.world_members.proofs.Standing.{all_still, all_stay_then, members_stay, clean_before}

module _ {S : Type 0} (g : Ghosts S) where
  -- an answer said in other words, of the worlds that the members stand for
  pub asks_weaker : {X E : Type 0} {A B : World → X → Type 0} {old new : List (Member S)} (r : Result X E)
      → ((x : X) (w : World) (count : ℕ) → AreMembers g old count w → A w x → B w x)
      → AsksAll g {X = X} {E = E} A old new r → AsksAll g {X = X} {E = E} B old new r
  asks_weaker (Ok x) so it = record {
    rests = it.rests;
    stay = it.stay;
    stays_open = it.stays_open;
    told = λ clean w count are. so x w count are (it.told clean w count are);
  }
  asks_weaker (Err e) so it = record {
    rests = it.rests;
    stay = it.stay;
    stays_open = λ clean. tt;
    told = λ clean. tt;
  }

  -- and in another form
  pub asks_answer : {X Y E E' : Type 0} {A : World → X → Type 0} {B : World → Y → Type 0}
      {old new : List (Member S)}
      {r : Result X E} {x : X} {y : Y} → r ≡ Ok x
      → ((w : World) (count : ℕ) → AreMembers g old count w → A w x → B w y)
      → AsksAll g {X = X} {E = E} A old new r
      → AsksAll g {X = Y} {E = E'} B old new (Ok y)
  asks_answer {X} {E} {A} {old} {new} {x} is so it =
      let answered : AsksAll g {X = X} {E = E} A old new (Ok x) = subst (AsksAll g {X = X} {E = E} A old new) is it in
      record {
        rests = it.rests;
        stay = it.stay;
        stays_open = answered.stays_open;
        told = λ clean w count are. so w count are (answered.told clean w count are);
      }

  -- a question that failed, or after which something failed, tells nothing
  pub asks_failed : {X Y E E' : Type 0} {A : World → X → Type 0} {B : World → Y → Type 0}
      {old new : List (Member S)}
      {r : Result X E} (q : Result Y E') → IsErr q → AsksAll g {X = X} {E = E} A old new r
      → AsksAll g {X = Y} {E = E'} B old new q
  asks_failed (Ok y) failed it = cc
  asks_failed (Err e) failed it = record {
    rests = it.rests;
    stay = it.stay;
    stays_open = λ clean. tt;
    told = λ clean. tt;
  }

  -- one question after another that was answered
  pub asks_then : {X Y E E' : Type 0} {A : World → X → Type 0} {B : World → Y → Type 0}
      {old mid new : List (Member S)} {r : Result X E} {x : X} (q : Result Y E') → r ≡ Ok x
      → AsksAll g {X = X} {E = E} A old mid r → AsksAll g {X = Y} {E = E'} B mid new q
      → AsksAll g {X = Y} {E = E'} (λ w y. A w x × B w y) old new q
  asks_then {old} {mid} {new} (Err e) is first next = record {
    rests = next.rests;
    stay = all_stay_then g old mid new first.stay next.stay;
    stays_open = λ clean. tt;
    told = λ clean. tt;
  }
  asks_then {X} {E} {A} {old} {mid} {new} {x} (Ok y) is first next =
      let answered : AsksAll g {X = X} {E = E} A old mid (Ok x) =
      subst (AsksAll g {X = X} {E = E} A old mid) is first in
      record {
        rests = next.rests;
        stay = all_stay_then g old mid new first.stay next.stay;
        stays_open = λ clean was. next.stays_open clean (answered.stays_open (clean_before g mid new next.stay clean)
            was);
        told = λ clean w count are. (
          answered.told (clean_before g mid new next.stay clean) w count are,
          next.told
              clean w count (members_stay g old mid count w first.stay are),
        );
      }

  -- what is known without a question
  pub asks_still : {X E : Type 0} {A : World → X → Type 0} {old : List (Member S)} {x : X} → Shuts g → Settles g
      → AllRest g old → ((w : World) (count : ℕ) → AreMembers g old count w → A w x)
      → AsksAll g {X = X} {E = E} A old old (Ok x)
  asks_still {old} shuts settles rests so = record {
    rests = rests;
    stay = all_still g shuts settles old rests;
    stays_open = λ clean was. was;
    told = λ clean w count are. so w count are;
  }
