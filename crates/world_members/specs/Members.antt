-- When the members that a register holds stand for the packages of a world. Profile.
use Rattle.std.specs.Prelude.{◌≡◌, ℕ, List, All, Some, slice_get, slice_set, length, IsTrue}
use Rattle.std.specs.List.{AllZip}
use Rattle.sqlite.specs.Store.{Ghosts}
use Rattle.sqlite.specs.Held.{Held, state}
use Rattle.sqlite.specs.State.{State}
use Rattle.sheet_types.specs.World.{World, Package, receipts_of}
use Rattle.sheet_types.specs.Custody.{ticket}
use Rattle.sheet_types.specs.Answers.{sums_held}
use Rattle.sheet_types.specs.Register.{IsRegister}
use Rattle.store_sql.specs.Staying.{Stays}
use Rattle.store_sql.specs.Stores.{AllRest as AllRestIn, AllClean as AllCleanIn}
use Rattle.sheet_types.specs.declared.frame.Frame.{Frame}
use Rattle.identity_register.specs.Creation.{IsMadeAt}
use Rattle.identity_register.specs.Reads.{Reads}
use Rattle.world_members.specs.declared.members.Member.{Member}

module _ {S : Type 0} (g : Ghosts S) where
  -- no store is inside a transaction
  abbrev pub AllRest : List (Member S) → Type 0
  AllRest = AllRestIn g (λ m. m.conn)

  -- each disk has given back what was written
  abbrev pub AllClean : List (Member S) → Type 0
  AllClean = AllCleanIn g (λ m. m.conn)

  -- all stores are open
  abbrev pub AllOpen : List (Member S) → Type 0
  AllOpen members = All (λ m. IsTrue (state g m.conn).is_open) members

  -- each store says that its package was made at this moment
  abbrev pub AllMadeAt : Frame → List ℕ → List (Member S) → Type 0
  AllMadeAt f at members = All (λ m. IsMadeAt f at (state g m.conn)) members

  -- The member is that package of the world: what is kept of it is right and its store, where it is open, reads as it.
  pub record IsMember (w : World) (m : Member S) (p : Package) : Type 0 where
    pub uuid : m.uuid ≡ p.uuid
    pub parent : m.parent ≡ p.parent
    pub depth : m.depth ≡ p.depth
    pub loan : m.loan ≡ p.loan
    pub sums : m.sums ≡ sums_held p
    pub ticket : m.ticket ≡ ticket w p.uuid
    pub reads : IsTrue (state g m.conn).is_open → Reads w.frame p (state g m.conn).now

  -- The members are the packages of the world, in its order, and the count is that of its receipts.
  pub record AreMembers (members : List (Member S)) (count : ℕ) (w : World) : Type 0 where
    pub each : AllZip (IsMember w) members w.packages
    pub counted : count ≡ length (receipts_of w)
    pub register : IsRegister w

  -- the member's store was only read
  pub record StaysMember (m n : Member S) : Type 0 where
    pub same : n ≡ record m { conn = n.conn }
    pub stays : Stays (state g m.conn) (state g n.conn)

  -- all members were only read
  abbrev pub AllStay : List (Member S) → List (Member S) → Type 0
  AllStay old new = AllZip StaysMember old new

  -- The store of the member at a place took a turn, and all else is as it was.
  pub record TurnsAt (old new : List (Member S)) (at : ℕ) (Turn : State → State → Type 0) : Type 0 where
    pub was : Member S
    pub place : slice_get old at ≡ Some was
    pub last : Held S
    pub others : new ≡ slice_set old at (record was { conn = last })
    pub turned : Turn (state g was.conn) (state g last)
