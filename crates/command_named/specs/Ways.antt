-- What is printed of the way of the item that a word names, and told beside. Profile.
use Rattle.std.specs.Prelude.{◌≡◌, ℕ, List, Option, Some, None, Result, Ok, Err, option_map, string_bytes}
use Rattle.std.specs.Borrow.{Bor}
use Rattle.sqlite.specs.Held.{Held}
use Rattle.sqlite.specs.Store.{Ghosts}
use Rattle.package_tables.specs.declared.fault.Fault.{Fault}
use Rattle.sheet_types.specs.World.{receipts_of}
use Rattle.world.specs.Worlds.{Seen, TellsOf}
use Rattle.command_names.specs.declared.hints.Hint.{Hint}
use Rattle.command_names.specs.declared.hints.Whose.TheVariants as whose
use Rattle.command_names.specs.declared.searching.Found.{Found}
use Rattle.command_names.specs.declared.searching.Found.TheVariants as found
use Rattle.command_searches.specs.Hints.{hint_of}
use Rattle.command_verbs.specs.Faults.{verb_line}
use Rattle.command_verbs.specs.declared.names.NameFault.TheVariants.{Two}
use Rattle.command_verbs.specs.declared.verbs.VerbFault.TheVariants.{Unfound}
use Rattle.view_json.specs.declared.forms.Form.{Form}
use Rattle.view_searches.specs.Ways.{IsNamedWay}
use Rattle.view_searches.specs.declared.ways.NamedWay.{NamedWay}
use Rattle.view_world.specs.Looks.{IsLookedAt, LooksInto}
use Rattle.views.specs.Showing.{PrintsAll, stopped}
use Rattle.views.specs.declared.endings.Ending.{Ending}
use Rattle.views.specs.declared.endings.Ending.TheVariants.{NoSuchIdentity}
use Rattle.command_named.specs.Telling.{TellsLine}

-- what comes nearest to a word that names none
abbrev pub way_hint : Bor (List ℕ) → Result NamedWay Fault → Option Hint
way_hint word (Ok it) = hint_of whose.Item word it.found
way_hint word (Err fault) = None

module _ {W : Type 0} (writer writer' : W) (before after : Option (List ℕ)) where
  -- a way, or that there is none
  abbrev pub TellsText : Option (List ℕ) → Ending → Type 0
  TellsText (Some text) ending = PrintsAll text before after ending
  TellsText None ending = (ending ≡ NoSuchIdentity) × (writer' ≡ writer)

  -- both of two that may be named; else the way
  abbrev pub TellsFound : Found → Option (List ℕ) → Ending → Type 0
  TellsFound (found.Two one other) text ending =
      TellsLine writer writer' before after (verb_line (Unfound (Two one other))) ending
  TellsFound (found.One id) text ending = TellsText text ending
  TellsFound (found.Nearest nearest) text ending = TellsText text ending

  abbrev pub TellsWay : Result NamedWay Fault → Ending → Type 0
  TellsWay (Ok it) ending = TellsFound it.found (option_map (λ text. string_bytes text) it.text) ending
  TellsWay (Err fault) ending = (ending ≡ stopped fault) × (writer' ≡ writer)

module _ {S : Type 0} (g : Ghosts S) (form : Form) (word : Bor (List ℕ)) where
  -- So much is found for the word among all items that the receipts of each world added that the value stood for,
  -- and it is told. The stores were only read.
  pub record ShowsNamed {W : Type 0} (seen : Seen S) (stores : List (Held S)) (writer writer' : W)
      (before after : Option (List ℕ)) (ending : Ending) (hint : Option Hint) : Type 0 where
    pub way : Result NamedWay Fault
    pub looked : LooksInto g (λ w it. IsNamedWay form (receipts_of w) word.now it) seen stores way
    pub told : TellsWay writer writer' before after way ending
    pub hinted : hint ≡ way_hint word way

  -- The same of a world that stays.
  pub record TellsNamed {W : Type 0} (old new : Seen S) (writer writer' : W)
      (before after : Option (List ℕ)) (ending : Ending) (hint : Option Hint) : Type 0 where
    pub way : Result NamedWay Fault
    pub looked : TellsOf g (λ w it. IsNamedWay form (receipts_of w) word.now it) old new way
    pub read : IsLookedAt g old new
    pub told : TellsWay writer writer' before after way ending
    pub hinted : hint ≡ way_hint word way
