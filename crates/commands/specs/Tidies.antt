-- What is printed of a folder that is made tidy, and how the program ends. Profile.
use Rattle.std.specs.Prelude.{◌≡◌, ◌⊎◌, ℕ, ⊤, List, Option, Some, None, Result, Ok, Err}
use Rattle.sqlite.specs.Held.{Held, state}
use Rattle.sqlite.specs.State.{HasCleanDisk}
use Rattle.sqlite.specs.Store.{Ghosts}
use Rattle.store_sql.specs.Writing.{AreKeyed}
use Rattle.package_tables.specs.declared.fault.Fault.{Fault}
use Rattle.opening_v1.specs.Either.{IsSeenAtEither}
use Rattle.opening_verdict.specs.declared.seen.StoreSeen.{StoreSeen}
use Rattle.store_folder.specs.declared.fault.FolderFault.{FolderFault}
use Rattle.store_folder.specs.declared.fault.FolderFault.TheVariants as folder
use Rattle.world.specs.Worlds.{Seen, TellsOf}
use Rattle.command_words.specs.Failures.{of_fault}
use Rattle.command_words.specs.declared.statuses.Outcome.TheVariants.{Stopped}
use Rattle.command_tidying.specs.Lines.{removed_lines}
use Rattle.command_tidying.specs.Tidying.{IsTidied}
use Rattle.command_tidying.specs.declared.register.Register.{Register}
use Rattle.command_tidying.specs.declared.tidying.Tidied.{Tidied}
use Rattle.commands.specs.Registers.{IsRegisterOf}
use Rattle.view_world.specs.Looks.{IsLookedAt as IsWorldLookedAt, LooksInto}
use Rattle.command_folder.specs.Endings.{done, failed, no_memory}
use Rattle.command_folder.specs.Folders.{IsFolderWorld}
use Rattle.command_folder.specs.Printing.{Prints}
use Rattle.command_folder.specs.declared.endings.Ending.{Ending}
use Rattle.command_folder.specs.declared.endings.Ending.TheVariants.{Unopened, Usual}
use Rattle.command_folder.specs.declared.endings.OpenFault.{OpenFault}

-- after files were taken out, perhaps not all
abbrev pub tidy_ending : Option FolderFault → Ending
tidy_ending None = done
tidy_ending (Some folder.OutOfMemory) = no_memory
tidy_ending (Some fault) = failed

-- A line for each file that was taken out went out; or there was no memory for them, and nothing was written.
abbrev pub TellsTidied : {W : Type 0} → Tidied → W → W → Option (List ℕ) → Option (List ℕ) → Ending
    → Type 0
TellsTidied made writer writer' before after ending =
    Prints (removed_lines made.names.items) (tidy_ending made.fault) before after ending
    ⊎ ((ending ≡ no_memory) × (writer' ≡ writer))

-- what is told of it, or why nothing was done
abbrev pub TellsTidy : {W : Type 0} → Result Tidied Fault → W → W → Option (List ℕ) → Option (List ℕ)
    → Ending → Type 0
TellsTidy (Ok made) writer writer' before after ending = TellsTidied made writer writer' before after ending
TellsTidy (Err fault) writer writer' before after ending =
    (ending ≡ Usual (Stopped (of_fault fault))) × (writer' ≡ writer)

-- What was taken out by a register, as far as it can be said of files that no clause speaks of: each may go, by what
-- was seen of a store, or by some names.
abbrev pub MayBeTidied : Register → Tidied → Type 0
MayBeTidied register made =
    IsTidied {Y = Unit {0}} (λ bytes. ⊤) (λ uuid seen. ⊤) (λ name old new. ⊤) register tt tt made

-- by what a register tells that was done; or nothing was
abbrev pub MakesFolderTidy : Result Register Fault → Result Tidied Fault → Type 0
MakesFolderTidy (Ok register) (Ok made) = MayBeTidied register made
MakesFolderTidy (Err fault) (Err told) = told ≡ fault
MakesFolderTidy register made = ⊥

module _ {S : Type 0} (g : Ghosts S) where
  -- A store was looked at, and this was seen of it, rightly: where its disk has given back what was written, and its
  -- tables are in the order of their rowids.
  abbrev pub IsLookedAt : Held S → Held S → StoreSeen → Type 0
  IsLookedAt old new seen =
      HasCleanDisk (state g new) → AreKeyed (state g old).now → IsSeenAtEither (state g old).now seen

  module _ {Y : Type 0} (Listed : List ℕ → Type 0) (Shown : List ℕ → StoreSeen → Type 0)
      (Removes : List ℕ → Y → Y → Type 0) where
    -- By what a register tells files were taken out; or nothing was done.
    abbrev pub MakesTidy : Result Register Fault → Y → Y → Result Tidied Fault → Type 0
    MakesTidy (Ok register) old new (Ok made) = IsTidied Listed Shown Removes register old new made
    MakesTidy (Err fault) old new (Err told) = (told ≡ fault) × (new ≡ old)
    MakesTidy register old new made = ⊥

    -- What the register tells is true of each world that the value stood for, and by it the folder was made tidy.
    pub record TidiesWorld (seen : Seen S) (stores : List (Held S)) (old new : Y)
        (made : Result Tidied Fault) : Type 0 where
      pub register : Result Register Fault
      pub looked : LooksInto g IsRegisterOf seen stores register
      pub tidied : MakesTidy register old new made

    -- The folder of a world was made tidy, and what was done is told.
    pub record EndsTidy {W : Type 0} (seen : Seen S) (stores : List (Held S)) (old new : Y) (writer writer' : W)
        (before after : Option (List ℕ)) (ending : Ending) : Type 0 where
      pub made : Result Tidied Fault
      pub tidied : TidiesWorld seen stores old new made
      pub told : TellsTidy made writer writer' before after ending

    -- The same of a world that stays: it was only read, and what the register tells is true of each world that it stood
    -- for. By that its folder was made tidy, and what was done is told.
    pub record StaysTidy {W : Type 0} (seen seen' : Seen S) (old new : Y) (writer writer' : W)
        (before after : Option (List ℕ)) (ending : Ending) : Type 0 where
      pub register : Result Register Fault
      pub known : TellsOf g IsRegisterOf seen seen' register
      pub read : IsWorldLookedAt g seen seen'
      pub made : Result Tidied Fault
      pub tidied : MakesTidy register old new made
      pub told : TellsTidy made writer writer' before after ending

    -- The folder was not opened, and nothing was done; or its world was, and its folder was made tidy.
    abbrev pub Tidies : {W : Type 0} → Y → Y → W → W → Option (List ℕ) → Option (List ℕ) → Ending
        → Type 0
    Tidies old new writer writer' before after ending =
        ((fault : OpenFault) × (ending ≡ Unopened fault) × (writer' ≡ writer) × (new ≡ old))
        ⊎ ((seen : Seen S) × (stores : List (Held S)) × IsFolderWorld g seen
        × EndsTidy seen stores old new writer writer' before after ending)

  -- The same of a folder of the file system.
  pub record TidiesBeside {W : Type 0} (seen seen' : Seen S) (writer writer' : W) (before after : Option (List ℕ))
      (ending : Ending) : Type 0 where
    pub register : Result Register Fault
    pub known : TellsOf g IsRegisterOf seen seen' register
    pub read : IsWorldLookedAt g seen seen'
    pub made : Result Tidied Fault
    pub tidied : MakesFolderTidy register made
    pub told : TellsTidy made writer writer' before after ending

  -- The same of a world that ends with it, and of which these stores are left.
  pub record EndsBeside {W : Type 0} (seen : Seen S) (stores : List (Held S)) (writer writer' : W)
      (before after : Option (List ℕ)) (ending : Ending) : Type 0 where
    pub register : Result Register Fault
    pub looked : LooksInto g IsRegisterOf seen stores register
    pub made : Result Tidied Fault
    pub tidied : MakesFolderTidy register made
    pub told : TellsTidy made writer writer' before after ending

  -- A folder of the file system was not opened, and nothing was written; or its world was, and the folder was made
  -- tidy.
  abbrev pub TidiesFolder : {W : Type 0} → W → W → Option (List ℕ) → Option (List ℕ) → Ending → Type 0
  TidiesFolder writer writer' before after ending =
      ((fault : OpenFault) × (ending ≡ Unopened fault) × (writer' ≡ writer))
      ⊎ ((seen : Seen S) × (stores : List (Held S)) × IsFolderWorld g seen
      × EndsBeside seen stores writer writer' before after ending)
