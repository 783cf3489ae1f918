-- What a rehearsal leaves whose world is then served to connections. Profile.
use Rattle.std.specs.Prelude.{◌≢◌, ◌≤◌, ℕ, List, length, Option, Result, Ok, Err}
use Rattle.sqlite.specs.Files.{over_files}
use Rattle.sqlite.specs.Steps.{over_memory}
use Rattle.sqlite.specs.Store.{Ghosts}
use Rattle.sheet_types.specs.World.{World}
use Rattle.sheet_types.specs.declared.command.Request.{Request}
use Rattle.sheet_types.specs.declared.receipt.Receipt.{Receipt}
use Rattle.sheet_types.specs.declared.refusal.Refusal.{Refusal}
use Rattle.world.specs.Worlds.{RunsOverRegisters, Seen, StandsFor}
use Rattle.cli.specs.Rehearsals.{Rehearses}
use Rattle.cli.specs.declared.serving.LeftWorld.{LeftWorld}
use Rattle.cli.specs.declared.serving.LeftWorld.TheVariants.{Arrays, Files}
use Rattle.command_words.specs.declared.statuses.Outcome.{Outcome}
use Rattle.command_words.specs.declared.statuses.Outcome.TheVariants.{Done}

module _ {S : Type 0} (g : Ghosts S) where
  -- A rehearsal that hands on its world: it was done, and the value stands for the world that its list led to; or it
  -- ended otherwise.
  abbrev pub HandsOn : {W : Type 0} → World → Option (List ℕ) → W → W → Option (List ℕ)
      → Option (List ℕ)
      → Result (Seen S) Outcome → Type 0
  HandsOn w text writer writer' before after (Ok seen) = (done : Rehearses w text writer writer' before after Done)
      × StandsFor g seen done.0.next
  HandsOn w text writer writer' before after (Err outcome) = (outcome ≢ Done)
      × Rehearses w text writer writer' before after outcome

  -- Some requests, so many at most, were carried out one after the other from a world on, each world on the way a
  -- register, and the value stands for the world that they lead to.
  pub record IsLeftBy (w : World) (most : ℕ) (seen : Seen S) : Type 0 where
    pub requests : List Request
    pub few : length requests ≤ most
    pub replies : List (Result Receipt Refusal)
    pub next : World
    pub run : RunsOverRegisters w requests replies next
    pub stands : StandsFor g seen next

  -- A rehearsal whose world was then served: it was done, and so many requests at most were carried out after those
  -- of its list, and nothing else; or it ended otherwise, and nothing was served.
  abbrev pub RehearsesAndServes : {W : Type 0} → World → ℕ → Option (List ℕ) → W → W → Option (List ℕ)
      → Option (List ℕ) → Result (Seen S) Outcome → Type 0
  RehearsesAndServes w most text writer writer' before after (Ok seen) =
      (done : Rehearses w text writer writer' before after Done) × IsLeftBy done.0.next most seen
  RehearsesAndServes w most text writer writer' before after (Err outcome) = (outcome ≢ Done)
      × Rehearses w text writer writer' before after outcome

-- The same, of a world whose stores are of one kind or of the other.
abbrev pub Leaves : {W : Type 0} → World → ℕ → Option (List ℕ) → W → W → Option (List ℕ)
    → Option (List ℕ)
    → Result LeftWorld Outcome → Type 0
Leaves w most text writer writer' before after (Ok (Arrays seen)) =
    RehearsesAndServes over_memory w most text writer writer' before after (Ok seen)
Leaves w most text writer writer' before after (Ok (Files seen)) =
    RehearsesAndServes over_files w most text writer writer' before after (Ok seen)
Leaves w most text writer writer' before after (Err outcome) = (outcome ≢ Done)
    × Rehearses w text writer writer' before after outcome
