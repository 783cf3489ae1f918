-- Clean disks of members, of strays, and of both.
use Rattle.std.specs.Prelude.{List, ◌++◌, map}
use Rattle.std.proofs.lemmas.List.Elements.{All-from_recursion, recursion_from_All}
use Rattle.sqlite.specs.Held.{Held, state}
use Rattle.sqlite.specs.State.{HasCleanDisk}
use Rattle.sqlite.specs.Store.{Ghosts}
use Rattle.sheet_types.proofs.Every.{All-append, All-map}
use Rattle.world_changes.specs.Leaving.{AreClean}
use Rattle.world_members.specs.Members.{AllClean}
use Rattle.world_members.specs.declared.members.Member.{Member}

module _ {S : Type 0} (g : Ghosts S) where
  abbrev Cleanly : Held S → Type 0
  Cleanly h = HasCleanDisk (state g h)

  pub both_clean : (xs ys : List (Held S)) → AreClean g xs → AreClean g ys → AreClean g (xs ++ ys)
  both_clean xs ys one two = All-from_recursion Cleanly (xs ++ ys)
      (All-append Cleanly xs ys (recursion_from_All Cleanly xs one) (recursion_from_All Cleanly ys two))

  pub stores_clean : (members : List (Member S)) → AllClean g members → AreClean g (map (λ m. m.conn) members)
  stores_clean members clean =
      All-from_recursion Cleanly (map (λ (m : Member S). m.conn) members)
      (All-map Cleanly (λ (m : Member S). m.conn) members (recursion_from_All (λ (m : Member S). Cleanly m.conn)
      members clean))
