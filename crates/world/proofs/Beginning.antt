-- The world of an archive with nothing in it.
use Rattle.std.proofs.Common.{◌≡◌, ◌≤◌, refl, ℕ, List, [], ◌∷◌, true, false, None, arith}
use Rattle.std.proofs.Common.{sym, subst}
use Rattle.std.specs.List.{AllByRecursion}
use Rattle.std.proofs.lemmas.List.Elements.{All-from_recursion}
use Rattle.store_sql.specs.Transactions.{Rests}
use Rattle.sqlite.specs.Store.{Ghosts}
use Rattle.sqlite.specs.Held.{Held, state}
use Rattle.sheet_types.specs.Lines.{IsUuid}
use Rattle.sheet_types.specs.Matrix.{is_good_frame}
use Rattle.sheet_types.specs.Refuse.{greatest_receipts}
use Rattle.sheet_types.specs.World.{new_world, no_package}
use Rattle.sheet_types.specs.declared.frame.Frame.{Frame}
use Rattle.sheet_laws.proofs.First.{new_world_is_register}
use Rattle.identity_register.specs.Creation.{new_package, Keeps}
use Rattle.world_members.specs.Members.{AllRest, AllClean, IsMember, AreMembers}
use Rattle.world.specs.Worlds.{StandsFor, StandsBeside, IsHeld, seen_of}
use Rattle.world_members.specs.declared.members.Member.{Member}

module _ {S : Type 0} (g : Ghosts S) where
  -- the archive's own member
  abbrev pub first_member : List ℕ → Held S → Member S
  first_member archive conn = record {
    conn = conn;
    uuid = archive;
    parent = None;
    depth = 0;
    loan = 0;
    sums = record { tiles = 0; media = 0; rows = 0; links = 0; bytes = 0 };
    ticket = 0;
  }

  -- stands for its world, where its store keeps the package
  pub alone : (archive : List ℕ) (f : Frame) (conn : Held S) → IsUuid archive → is_good_frame f ≡ true
      → Keeps f (new_package archive None 0 0) (state g conn)
      → AreMembers g (first_member archive conn ∷ []) 0 (new_world archive f)
  alone archive f conn uuid good keeps = record {
    each = (is_member, tt);
    counted = refl;
    register = new_world_is_register archive f uuid good;
  }
    where
      is_member : IsMember g (new_world archive f) (first_member archive conn) (record no_package { uuid = archive })
      is_member = record {
        uuid = refl;
        parent = refl;
        depth = refl;
        loan = refl;
        sums = refl;
        ticket = refl;
        reads = λ is_open. keeps.reads;
      }

  -- so does a world of it
  pub begins : (archive : List ℕ) (f : Frame) (members : List (Member S)) (strays : List (Held S))
      (known : List (List ℕ)) → (AllClean g members → AreMembers g members 0 (new_world archive f))
      → AllClean g members → StandsFor g (record {
        frame = f;
        members = members;
        count = 0;
        has_failed = false;
        strays = strays;
        known = known;
      }) (new_world archive f)
  begins archive f members strays known made clean = record { frame = refl; members = made clean; known = tt }

  pub held_first : (archive : List ℕ) (f : Frame) (members : List (Member S)) (strays : List (Held S))
      (known : List (List ℕ)) → strays ≡ [] → AllRest g members → is_good_frame f ≡ true
      → (AllClean g members → AreMembers g members 0 (new_world archive f))
      → IsHeld g (record {
        frame = f;
        members = members;
        count = 0;
        has_failed = false;
        strays = strays;
        known = known;
      })
  held_first archive f members strays known none rests good made = record {
    gone = [];
    rests = rests;
    stray_rests = All-from_recursion (λ h. Rests (state g h)) strays
        (subst (AllByRecursion (λ h. Rests (state g h))) (sym none) tt);
    none = λ usable. none;
    good = good;
    counted = omega arith;
    stands = λ clean gone. (new_world archive f, begins archive f members strays known made clean);
  }

  -- so are members that stand for some world
  pub held_gathered : (f : Frame) (members : List (Member S)) (count : ℕ) (strays : List (Held S))
      (known : List (List ℕ)) → strays ≡ [] → AllRest g members → is_good_frame f ≡ true
      → count ≤ greatest_receipts
      → StandsBeside g (seen_of f members count known) → IsHeld g
      (record { frame = f; members = members; count = count; has_failed = false; strays = strays; known = known })
  held_gathered f members count strays known none rests good low beside = record {
    gone = beside.others;
    rests = rests;
    stray_rests = All-from_recursion (λ h. Rests (state g h)) strays
        (subst (AllByRecursion (λ h. Rests (state g h))) (sym none) tt);
    none = λ usable. none;
    good = good;
    counted = low;
    stands = λ clean others. let some = beside.stands clean others in
        (some.0, record { frame = some.1.frame; members = some.1.members; known = some.1.known });
  }
