-- The packages that a request changes, and that their stores say its moment as that of the last change. Profile.
use Rattle.std.specs.Prelude.{◌≡◌, ℕ, List, [], ◌∷◌, Contains}
use Rattle.std.specs.List.{AllByRecursion}
use Rattle.sqlite.specs.Held.{Held, state}
use Rattle.sqlite.specs.State.{HasCleanDisk}
use Rattle.sqlite.specs.Store.{Ghosts}
use Rattle.sheet_types.specs.declared.command.Command.{Command}
use Rattle.sheet_types.specs.declared.command.Command.TheVariants.{Add, Delete, Link, Unlink, Split, Merge}
use Rattle.sheet_types.specs.declared.frame.Frame.{Frame}
use Rattle.identity_register.specs.Calls.{HasLastChange}
use Rattle.world_members.specs.declared.members.Member.{Member}

-- the packages that a command changes and that are live after it
abbrev pub packages_changed : Command → List (List ℕ)
packages_changed (Add uuid identity content) = uuid ∷ []
packages_changed (Delete uuid identity) = uuid ∷ []
packages_changed (Link uuid mapping base other) = uuid ∷ []
packages_changed (Unlink uuid mapping base other) = uuid ∷ []
packages_changed (Split uuid child mode rect) = uuid ∷ child ∷ []
packages_changed (Merge child into ticket) = into ∷ []

module _ {S : Type 0} (g : Ghosts S) where
  -- The package of this UUID is a member, and its store says this moment as that of its last change (OGC GeoPackage
  -- 1.3, 1.1.3).
  pub record SaysLastChange (f : Frame) (moment uuid : List ℕ) (members : List (Member S)) : Type 0 where
    pub member : Member S
    pub stands : Contains members member
    pub named : member.uuid ≡ uuid
    pub dated : HasLastChange f moment (state g member.conn).now

  -- It is so of each of these packages.
  abbrev pub AreDated : Frame → List ℕ → List (List ℕ) → List (Member S) → Type 0
  AreDated f moment uuids members = AllByRecursion (λ uuid. SaysLastChange f moment uuid members) uuids

  -- The store says this moment, where its disk has given back what was written.
  abbrev pub IsDated : Frame → List ℕ → Held S → Type 0
  IsDated f moment held = HasCleanDisk (state g held) → HasLastChange f moment (state g held).now
