-- What is made of a world by adding the tiles of a tree, what is printed, and how the program ends. Profile.
use Rattle.std.specs.Prelude.{◌≡◌, ℕ, List, Option, None, Result, Ok, Err, MatchResult}
use Rattle.sqlite.specs.Held.{Held}
use Rattle.sqlite.specs.Store.{Ghosts}
use Rattle.package_tables.specs.declared.fault.Fault.{Fault}
use Rattle.world.specs.Worlds.{Seen, held}
use Rattle.command_folder.specs.Endings.{done}
use Rattle.command_folder.specs.declared.endings.Ending.{Ending}
use Rattle.command_folder.specs.declared.endings.Ending.TheVariants.{BadBody, NoRequest}
use Rattle.command_lines.specs.Trees.{counts_line}
use Rattle.command_names.specs.declared.hints.Hint.{Hint}
use Rattle.command_names.specs.declared.hints.Whose.TheVariants.{Package}
use Rattle.command_naming.specs.Trees.{AddsNamed}
use Rattle.command_naming.specs.declared.trees.TreeOutcome.{TreeOutcome}
use Rattle.command_naming.specs.declared.trees.TreeOutcome.TheVariants as tree
use Rattle.command_naming.specs.declared.trees.TreeWords.{TreeWords}
use Rattle.command_requests.specs.Listing.{IsUntouched}
use Rattle.command_searches.specs.Hints.{hint_of}
use Rattle.command_trees.specs.Adding.{Work}
use Rattle.command_trees.specs.declared.adding.AddFault.{AddFault}
use Rattle.command_trees.specs.declared.adding.AddFault.TheVariants.{BadPlace, Failed, Refused, Unread}
use Rattle.command_trees.specs.declared.adding.Counts.{Counts}
use Rattle.command_verbs.specs.Faults.{verb_line}
use Rattle.command_verbs.specs.declared.areas.Place.{Place}
use Rattle.command_verbs.specs.declared.verbs.VerbFault.TheVariants as verb
use Rattle.command_ordering.specs.Orders.{PrintsLine}
use Rattle.command_ordering.specs.Folders.{OpensHinting}
use Rattle.command_ordering.specs.Telling.{TellsRefused, stopped}

-- what comes nearest to a word that names no package
abbrev pub tree_hint : TreeWords → Result TreeOutcome Fault → Option Hint
tree_hint words (Ok (tree.Unnamed fault found)) = hint_of Package words.«package» found
tree_hint words (Ok (tree.Added counts added)) = None
tree_hint words (Err fault) = None

module _ {W : Type 0} (writer writer' : W) (before after : Option (List ℕ)) where
  -- why no more tiles were added
  abbrev pub TellsFault : AddFault → Ending → Type 0
  TellsFault BadPlace ending = PrintsLine writer writer' before after (verb_line verb.BadPlace) NoRequest ending
  TellsFault Unread ending = (ending ≡ BadBody) × (writer' ≡ writer)
  TellsFault (Failed fault) ending = (ending ≡ stopped fault) × (writer' ≡ writer)
  TellsFault (Refused why) ending = TellsRefused writer writer' before after why ending

module _ {W : Type 0} (contents : W → Option (List ℕ)) where
  -- how many were added and passed over; and behind it why no more were, if so
  abbrev pub TellsAdded : W → W → Counts → Result Unit AddFault → Ending → Type 0
  TellsAdded writer writer' counts (Ok done') ending =
      PrintsLine writer writer' (contents writer) (contents writer')
      (counts_line counts.added counts.passed) done ending
  TellsAdded writer writer' counts (Err fault) ending =
      (mid : W) × (told : Ending)
      × PrintsLine writer mid (contents writer) (contents mid) (counts_line counts.added counts.passed) done told
      × TellsFault mid writer' (contents mid) (contents writer') fault ending

  abbrev pub TellsTree : W → W → Result TreeOutcome Fault → Ending → Type 0
  TellsTree writer writer' (Ok (tree.Unnamed fault found)) ending =
      PrintsLine writer writer' (contents writer) (contents writer') (verb_line (verb.Unnamed fault)) NoRequest ending
  TellsTree writer writer' (Ok (tree.Added counts added)) ending = TellsAdded writer writer' counts added ending
  TellsTree writer writer' (Err fault) ending = (ending ≡ stopped fault) × (writer' ≡ writer)

module _ {S N F : Type 0} (g : Ghosts S) (Gives : Option (List ℕ) → N → N → Type 0)
    (Reads : Place → Option (List ℕ) → F → F → Type 0) (words : TreeWords) (files : List Place) {W : Type 0}
    (contents : W → Option (List ℕ)) where
  -- The tiles were added, all or those before a fault; where a store or memory gave out before, the
  -- world was only read.
  pub record PutsIn (old new : Work S N F) (writer writer' : W) (ending : Ending) (hint : Option Hint) :
      Type 0 where
    pub outcome : Result TreeOutcome Fault
    pub made : MatchResult outcome (AddsNamed g Gives Reads words files old new)
        (λ fault. IsUntouched g old.world new.world)
    pub told : TellsTree contents writer writer' outcome ending
    pub hinted : hint ≡ tree_hint words outcome

  -- The same of a world that ended with it, and of which these stores are left.
  abbrev pub EndsPut : Work S N F → List (Held S) → N → F → W → W → Ending → Option Hint → Type 0
  EndsPut old stores ids sheets writer writer' ending hint =
      (new : Seen S) × (stores ≡ held g new)
      × PutsIn old (record { world = new; ids = ids; sheets = sheets }) writer writer' ending hint

  abbrev pub PutsFor : N → N → F → F → W → W → Ending → Option Hint → Type 0
  PutsFor ids ids' sheets sheets' writer writer' ending hint =
      OpensHinting g (λ old new. PutsIn (record { world = old; ids = ids; sheets = sheets })
      (record { world = new; ids = ids'; sheets = sheets' }) writer writer' ending hint) writer writer' ending hint
