-- What a crash may leave of the stores that a world holds, where a split or a merge was to be. Profile.
use Rattle.std.specs.Prelude.{◌≡◌, ◌⊎◌, ℕ, ⊤, false, List, [], ◌∷◌, ◌++◌, All, Some}
use Rattle.std.specs.Prelude.{bytes_eq, is_some, slice_get, true}
use Rattle.std.specs.List.{AllByRecursion, AllZip}
use Rattle.std.specs.List.Sorted.{IsPermutation}
use Rattle.sqlite.specs.Held.{Held, state}
use Rattle.sqlite.specs.State.{HasCleanDisk, Survives}
use Rattle.sqlite.specs.Store.{Ghosts}
use Rattle.sqlite.specs.Tree.{Trees}
use Rattle.sheet_types.specs.World.{Package}
use Rattle.sheet_types.specs.declared.frame.Frame.{Frame}
use Rattle.store_sql.specs.Staying.{Stays}
use Rattle.store_sql.specs.Transactions.{Rests}
use Rattle.world_members.specs.Turning.{LeftAs}
use Rattle.world_members.specs.declared.members.Member.{Member}

-- The content reads as a loan, and no package of the world has its UUID: so no open split of the world means it, and
-- it is left alone when the world is opened.
pub record IsBeside (f : Frame) (packages : List Package) (trees : Trees) : Type 0 where
  pub other : Package
  pub reads : LeftAs f trees other
  pub lent : is_some other.parent ≡ true
  pub apart : AllByRecursion (λ p. bytes_eq p.uuid other.uuid ≡ false) packages

-- The same, as the package of this UUID.
abbrev pub IsChildBeside : Frame → List Package → List ℕ → Trees → Type 0
IsChildBeside f packages child trees = (it : IsBeside f packages trees) × (it.other.uuid ≡ child)

-- Of some contents, each package is read from one, and the rest are beside them.
pub record StandsAmong (f : Frame) (packages : List Package) (contents : List Trees) : Type 0 where
  pub read : List Trees
  pub rest : List Trees
  pub all : IsPermutation contents (read ++ rest)
  pub each : AllZip (LeftAs f) read packages
  pub beside : AllByRecursion (IsBeside f packages) rest

module _ {S : Type 0} (g : Ghosts S) where
  -- each of these disks has given back what was written
  abbrev pub AreClean : List (Held S) → Type 0
  AreClean = All (λ h. HasCleanDisk (state g h))

  -- none of these stores is inside a transaction
  abbrev pub AreAtRest : List (Held S) → Type 0
  AreAtRest = All (λ h. Rests (state g h))

  -- these contents, one for each store, are what a crash may leave
  abbrev pub MayBeLeft : List (Held S) → List Trees → Type 0
  MayBeLeft = AllZip (λ h trees. (state g h).may_leave trees)

  -- whatever a crash leaves of these is beside a world's packages
  abbrev pub AreBeside : Frame → List Package → List (Held S) → Type 0
  AreBeside f packages = All (λ h. HasCleanDisk (state g h) → (trees : Trees) → (state g h).may_leave trees
      → IsBeside f packages trees)

  -- A crash leaves one of two worlds, whole; what else is held is beside it.
  abbrev pub LeavesOneOf : Frame → List (Held S) → List Package → List Package → Type 0
  LeavesOneOf f stores before after = AreClean stores → (contents : List Trees) → MayBeLeft stores contents
      → StandsAmong f before contents ⊎ StandsAmong f after contents

  -- Of each of these members' stores no failure of its disk is forgotten, and nothing but such a failure has shut it.
  abbrev pub AllSurvive : List (Member S) → List (Member S) → Type 0
  AllSurvive old new = AllZip (λ m n. Survives (state g m.conn) (state g n.conn) (λ trees. ⊤)) old new

  -- These are the last states of the connections that were dropped where members left the list: of none, or of one,
  -- whose store was only read since.
  abbrev pub WereRead : List (Member S) → List (Held S) → Type 0
  WereRead members [] = ⊤
  WereRead members (last ∷ others) = (at : ℕ) × (member : Member S) × (slice_get members at ≡ Some member)
      × Stays (state g member.conn) (state g last) × (others ≡ [])
