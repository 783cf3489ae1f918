-- What is made of a world by dropping the item that a word names, what is printed, and how the program ends. Profile.
use Rattle.std.specs.Prelude.{◌≡◌, ℕ, List, Option, None, Result, Ok, Err, MatchResult}
use Rattle.sqlite.specs.Held.{Held}
use Rattle.sqlite.specs.Store.{Ghosts}
use Rattle.package_tables.specs.declared.fault.Fault.{Fault}
use Rattle.world.specs.Worlds.{Seen, held}
use Rattle.command_folder.specs.Endings.{done}
use Rattle.command_folder.specs.declared.endings.Ending.{Ending}
use Rattle.command_folder.specs.declared.endings.Ending.TheVariants.{NoRequest}
use Rattle.command_lines.specs.Drops.{linked_text, outcomes_text, requests_text}
use Rattle.command_names.specs.declared.hints.Hint.{Hint}
use Rattle.command_names.specs.declared.hints.Whose.TheVariants.{Item}
use Rattle.command_naming.specs.Drops.{DropsNamed}
use Rattle.command_naming.specs.declared.drops.DropOutcome.{DropOutcome}
use Rattle.command_naming.specs.declared.drops.DropOutcome.TheVariants.{Unnamed, Linked, Planned, Dropped}
use Rattle.command_naming.specs.declared.drops.Dropping.{Dropping}
use Rattle.command_requests.specs.Listing.{IsUntouched}
use Rattle.command_searches.specs.Hints.{hint_of}
use Rattle.command_verbs.specs.Faults.{verb_line}
use Rattle.command_verbs.specs.declared.verbs.VerbFault.TheVariants.{Unfound}
use Rattle.command_ordering.specs.Orders.{PrintsLine}
use Rattle.command_ordering.specs.Folders.{OpensHinting}
use Rattle.command_ordering.specs.Telling.{replies_ending, stopped}

-- what comes nearest to a word that names no item
abbrev pub drop_hint : Dropping → Result DropOutcome Fault → Option Hint
drop_hint d (Ok (Unnamed fault found)) = hint_of Item d.word found
drop_hint d (Ok (Linked links)) = None
drop_hint d (Ok (Planned requests)) = None
drop_hint d (Ok (Dropped dropped)) = None
drop_hint d (Err fault) = None

module _ {W : Type 0} (writer writer' : W) (before after : Option (List ℕ)) where
  -- why the item stays, or its requests as JSON, or what came of them; or memory or a store gave out
  abbrev pub TellsDrop : Result DropOutcome Fault → Ending → Type 0
  TellsDrop (Ok (Unnamed fault found)) ending =
      PrintsLine writer writer' before after (verb_line (Unfound fault)) NoRequest ending
  TellsDrop (Ok (Linked links)) ending =
      PrintsLine writer writer' before after (linked_text links.items) NoRequest ending
  TellsDrop (Ok (Planned requests)) ending =
      PrintsLine writer writer' before after (requests_text requests.items) done ending
  TellsDrop (Ok (Dropped dropped)) ending =
      PrintsLine writer writer' before after (outcomes_text dropped.requests.items dropped.replies.items)
      (replies_ending dropped.replies.items) ending
  TellsDrop (Err fault) ending = (ending ≡ stopped fault) × (writer' ≡ writer)

module _ {S N : Type 0} (g : Ghosts S) (Gives : Option (List ℕ) → N → N → Type 0) (d : Dropping) where
  -- An item was dropped, or its requests were told, or it stays;
  -- where a store or memory gave out before, the world was only read.
  pub record DropsIn {W : Type 0} (old new : Seen S) (ids ids' : N) (writer writer' : W)
      (before after : Option (List ℕ)) (ending : Ending) (hint : Option Hint) : Type 0 where
    pub outcome : Result DropOutcome Fault
    -- how often the shelf had failed before and after
    pub faults : ℕ
    pub more : ℕ
    pub made : MatchResult outcome (λ o. DropsNamed g Gives d old new ids ids' o faults more)
        (λ fault. IsUntouched g old new)
    pub told : TellsDrop writer writer' before after outcome ending
    pub hinted : hint ≡ drop_hint d outcome

  -- The same of a world that ended with it, and of which these stores are left.
  abbrev pub EndsDrop : {W : Type 0} → Seen S → List (Held S) → N → N → W → W → Option (List ℕ)
      → Option (List ℕ)
      → Ending → Option Hint → Type 0
  EndsDrop old stores ids ids' writer writer' before after ending hint =
      (new : Seen S) × (stores ≡ held g new) × DropsIn old new ids ids' writer writer' before after ending hint

  abbrev pub DropsFor : {W : Type 0} → N → N → W → W → Option (List ℕ) → Option (List ℕ) → Ending
      → Option Hint → Type 0
  DropsFor ids ids' writer writer' before after ending hint =
      OpensHinting g (λ old new. DropsIn old new ids ids' writer writer' before after ending hint)
      writer writer' ending hint
