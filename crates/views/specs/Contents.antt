-- What is printed of the item that a word names, and how the program ends. Profile.
use Rattle.std.specs.Prelude.{◌≡◌, ◌⊎◌, ℕ, List, Option, Result, Ok, Err, MatchResult}
use Rattle.sqlite.specs.Store.{Ghosts}
use Rattle.package_tables.specs.declared.fault.Fault.{Fault}
use Rattle.world.specs.Worlds.{Seen, TellsOf}
use Rattle.command_verbs.specs.Faults.{verb_line}
use Rattle.command_verbs.specs.Items.{the_item}
use Rattle.command_verbs.specs.declared.names.NameFault.{NameFault}
use Rattle.command_verbs.specs.declared.verbs.VerbFault.TheVariants.{Unfound}
use Rattle.command_requests.specs.Contents.{IsNamedData}
use Rattle.command_requests.specs.Listing.{IsUntouched, world_items}
use Rattle.command_folder.specs.Endings.{no_memory}
use Rattle.command_folder.specs.Printing.{Prints}
use Rattle.command_folder.specs.declared.endings.Ending.{Ending as CommandEnding}
use Rattle.command_folder.specs.declared.endings.Ending.TheVariants.{NoRequest}
use Rattle.views.specs.Showing.{PrintsAll, stopped}
use Rattle.views.specs.declared.endings.Ending.{Ending}
use Rattle.views.specs.declared.endings.Ending.TheVariants.{Usual}

-- what was found, as bytes
abbrev pub named : {T : Type 0} → Result T NameFault → (T → List ℕ) → Result (List ℕ) NameFault
named (Ok found) bytes = Ok (bytes found)
named (Err fault) bytes = Err fault

module _ {W : Type 0} (writer writer' : W) (before after : Option (List ℕ)) where
  -- The line by which a word names no item; or memory is wanting for it, and nothing is written.
  abbrev pub TellsUnfound : NameFault → Ending → Type 0
  TellsUnfound fault ending =
      ((told : CommandEnding) × (ending ≡ Usual told) × Prints (verb_line (Unfound fault)) NoRequest before after
      told)
      ⊎ ((ending ≡ Usual no_memory) × (writer' ≡ writer))

  -- the bytes that were found, to the last
  abbrev pub ShowsData : Result (Result (List ℕ) NameFault) Fault → Ending → Type 0
  ShowsData (Ok (Ok bytes)) ending = PrintsAll bytes before after ending
  ShowsData (Ok (Err fault)) ending = TellsUnfound fault ending
  ShowsData (Err fault) ending = (ending ≡ stopped fault) × (writer' ≡ writer)

module _ {S : Type 0} (g : Ghosts S) where
  -- They are those of the one item that the word names, or it names none; the world was only read.
  pub record Gets {W : Type 0} (word : List ℕ) (old new : Seen S) (writer writer' : W)
      (before after : Option (List ℕ)) (ending : Ending) : Type 0 where
    pub found : Result (Result (List ℕ) NameFault) Fault
    pub told : TellsOf g (λ w r. MatchResult r (IsNamedData w word)
        (λ fault. the_item (world_items w) word ≡ Err fault)) old new found
    pub read : IsUntouched g old new
    pub shown : ShowsData writer writer' before after found ending
