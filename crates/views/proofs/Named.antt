-- What stands in an item that was found, as bytes, is what was told.
use Rattle.std.proofs.Common.{◌≡◌, ℕ, List, Result, Ok, Err}
use Rattle.std.specs.Prelude.{MatchResult}
use Rattle.sqlite.specs.Store.{Ghosts}
use Rattle.package_tables.specs.declared.fault.Fault.{Fault}
use Rattle.world.specs.Worlds.{Seen, TellsOf}
use Rattle.command_verbs.specs.Items.{the_item}
use Rattle.command_verbs.specs.declared.names.NameFault.{NameFault}
use Rattle.command_requests.specs.Contents.{IsNamedData}
use Rattle.command_requests.specs.Listing.{world_items}
use Rattle.views.specs.Contents.{named}

-- an answer, and no fault
abbrev pub answered : {T : Type 0} → T → Result T Fault
answered x = Ok x

module _ {S : Type 0} (g : Ghosts S) {T : Type 0} (bytes : T → List ℕ) (word : List ℕ) (old new : Seen S) where
  pub tells_named : (found : Result T NameFault)
      → TellsOf g (λ w r. MatchResult r (λ t. IsNamedData w word (bytes t))
      (λ fault. the_item (world_items w) word ≡ Err fault)) old new (answered found)
      → TellsOf g (λ w r. MatchResult r (IsNamedData w word)
      (λ fault. the_item (world_items w) word ≡ Err fault)) old
      new (answered (named found bytes))
  tells_named (Ok t) it = it
  tells_named (Err fault) it = it
