-- What stands in the content of an item that a word names.
use Rattle.std.proofs.Common.{◌≡◌, ℕ, List, Some, Result, Ok, Err, IfOk, subst, sym}
use Rattle.sqlite.specs.Store.{Ghosts}
use Rattle.sheet_types.specs.Answers.{holdings_answer}
use Rattle.sheet_types.specs.Ordered.{entry}
use Rattle.sheet_types.specs.World.{World, holdings}
use Rattle.sheet_types.specs.declared.command.Item.{Item}
use Rattle.sheet_types.specs.declared.command.Relation.{Relation}
use Rattle.command_verbs.specs.declared.items.ItemEntry.{ItemEntry}
use Rattle.world.specs.Worlds.{Seen, StandsFor}
use Rattle.command_requests.specs.Contents.{IsDataOf, IsListedData}
use Rattle.command_requests.proofs.Listed.{held_items}

module _ {S : Type 0} (g : Ghosts S) (seen : Seen S) (e : ItemEntry) (items : List Item) (links : List Relation) where
  -- what stands in an item of the package stands in the one that is listed
  pub data_held : {X E : Type 0} (bytes : X → List ℕ) (r : Result X E)
      → ((w : World) → StandsFor g seen w → Some (items, links) ≡ holdings_answer w e.holder)
      → IfOk r (λ x. IsDataOf (entry (λ (i : Item). i.identity) e.identity items) (bytes x))
      → IfOk r (λ x. (w : World) → StandsFor g seen w → IsListedData w e (bytes x))
  data_held bytes (Ok x) found it = λ w stands. subst (λ is. IsDataOf
      (entry (λ (i : Item). i.identity) e.identity is)
      (bytes x)) (held_items w e.holder items links (found w stands)) it
  data_held bytes (Err fault) found it = tt
