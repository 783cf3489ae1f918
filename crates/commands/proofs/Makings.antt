-- What was made of a world, in the words of the subcommands.
use Rattle.std.proofs.Common.{ℕ, List, Option, inl, inr}
use Rattle.sqlite.specs.Store.{Ghosts}
use Rattle.world.specs.Worlds.{Seen}
use Rattle.commands.specs.Subcommands.{EndsImport, EndsTwice, ImportsFile}
use Rattle.command_folder.specs.declared.endings.Ending.{Ending}

pub imports_of : {S W : Type 0} (g : Ghosts S) (text : Option (List ℕ)) (old new : Seen S) (faults more : ℕ)
    (writer writer' : W) (before after : Option (List ℕ)) (ending : Ending)
    → EndsImport g text old new faults more writer writer' before after ending
    → ImportsFile g old new writer writer' before after ending
imports_of g text old new faults more writer writer' before after ending it = inr (inl (text, faults, more, it))

pub twice_of : {S W : Type 0} (g : Ghosts S) (text again : Option (List ℕ)) (old new : Seen S) (faults more : ℕ)
    (writer writer' : W) (before after : Option (List ℕ)) (ending : Ending)
    → EndsTwice g text again old new faults more writer writer' before after ending
    → ImportsFile g old new writer writer' before after ending
twice_of g text again old new faults more writer writer' before after ending it =
    inr (inr (text, again, faults, more, it))
