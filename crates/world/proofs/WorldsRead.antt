-- A world whose stores were only read stands for what it stood for, and what its members told is told of it.
use Rattle.std.proofs.Common.{◌≡◌, ◌∙◌, refl, sym, ap, subst, ℕ, Bool, List, Result, Ok, Err, OnOk}
use Rattle.sqlite.specs.Store.{Ghosts}
use Rattle.sqlite.specs.Held.{Held}
use Rattle.sheet_types.specs.World.{World}
use Rattle.sheet_types.specs.declared.frame.Frame.{Frame}
use Rattle.world_known.specs.Known.{Knows}
use Rattle.world_queries.specs.Asking.{AsksAll}
use Rattle.world_members.specs.Members.{AllStay, AllClean, AllOpen}
use Rattle.world.specs.Worlds.{Seen, StandsFor, IsHeld, IsRead, TellsOf}
use Rattle.world_members.specs.declared.members.Member.{Member}
use Rattle.world_queries.proofs.Questions.{asks_weaker}
use Rattle.world_members.proofs.Standing.{all_stay_then, members_stay, clean_before}

module _ {S : Type 0} (g : Ghosts S) where
  -- one read of a world after another
  pub read_then : (a b c : Seen S) → IsRead g a b → IsRead g b c → IsRead g a c
  read_then a b c first next = record {
    same = next.same ∙ ap (λ (s : Seen S). record s { members = c.members }) first.same;
    stay = all_stay_then g a.members b.members c.members first.stay next.stay;
    clean = λ clean. first.clean (next.clean clean);
    stands = λ w stands. next.stands w (first.stands w stands);
  }

  -- what rests on no UUID that is known
  pub asks_known : {X E : Type 0} {Answer : World → X → Type 0} {old new : List (Member S)}
      {known : List (List ℕ)}
      {r : Result X E} → AsksAll g {X = X} {E = E} Answer old new r
      → AsksAll g {X = X} {E = E} (λ w x. Knows known w → Answer w x) old new r
  asks_known {X} {E} {Answer} {old} {new} {known} {r} it = asks_weaker g r (λ x w count are told knows. told) it

  module _ (f : Frame) (old new : List (Member S)) (count : ℕ) (has_failed : Bool) (strays : List (Held S))
      (known : List (List ℕ)) where
    abbrev before : Seen S
    before = record { frame = f; members = old; count = count; has_failed = has_failed; strays = strays; known = known }

    abbrev after : Seen S
    after = record { frame = f; members = new; count = count; has_failed = has_failed; strays = strays; known = known }

    stands_after : AllStay g old new → (w : World) → StandsFor g before w → StandsFor g after w
    stands_after stay w stands = record {
      frame = stands.frame;
      members = members_stay g old new count w stay stands.members;
      known = stands.known;
    }

    read_members : AllStay g old new → IsRead g before after
    read_members stay = record {
      same = refl;
      stay = stay;
      clean = clean_before g old new stay;
      stands = stands_after stay;
    }

    tells_members : {X E : Type 0} {Answer : World → X → Type 0} (r : Result X E)
        → AsksAll g {X = X} {E = E} (λ w x. Knows known w → Answer w x) old new r
        → TellsOf g {X = X} {E = E} Answer before after r
    tells_members (Ok x) it = λ clean w stands. it.told clean w count stands.members stands.known
    tells_members (Err e) it = λ clean. tt

    opens_members : {X E : Type 0} {Answer : World → X → Type 0} (r : Result X E)
        → AsksAll g {X = X} {E = E} Answer old new r → {Was : Type 0} → (Was → AllOpen g old) → AllClean g new
        → OnOk r (Was → AllOpen g new)
    opens_members (Ok x) it so clean = λ was. it.stays_open clean (so was)
    opens_members (Err e) it so clean = tt

    module _ {X E : Type 0} {Answer : World → X → Type 0} (r : Result X E)
        (it : AsksAll g {X = X} {E = E} (λ w x. Knows known w → Answer w x) old new r) where
      -- what the members told is told of the world
      pub world_tells : (was : Seen S) → before ≡ was → TellsOf g {X = X} {E = E} Answer was after r
      world_tells was seen = subst (λ s. TellsOf g {X = X} {E = E} Answer s after r) seen (tells_members r it)

      -- which was only read
      pub world_is_read : (was : Seen S) → before ≡ was → IsRead g was after
      world_is_read was seen = subst (λ s. IsRead g s after) seen (read_members it.stay)

      -- and open stores are still open where there was an answer
      pub world_opens : (was : Seen S) → before ≡ was → AllClean g new
          → OnOk r (AllOpen g was.members → AllOpen g new)
      world_opens was seen clean = opens_members r it (subst (AllOpen g) (sym (ap (λ s. s.members) seen))) clean

      -- and keeps what each world keeps
      pub world_is_held : IsHeld g before → IsHeld g after
      world_is_held held = record {
        gone = held.gone;
        rests = it.rests;
        stray_rests = held.stray_rests;
        none = held.none;
        good = held.good;
        counted = held.counted;
        stands = λ clean gone.
            let one : (w : World) × StandsFor g before w = held.stands (clean_before g old new it.stay clean) gone in
            (one.0, stands_after it.stay one.0 one.1);
      }
