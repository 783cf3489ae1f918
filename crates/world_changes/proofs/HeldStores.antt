-- The stores that a world holds: those of the strays, and those of its members.
use Rattle.std.specs.Prelude.{List, [], ◌∷◌, ◌++◌, map}
use Rattle.std.specs.List.{AllByRecursion}
use Rattle.std.proofs.lemmas.List.Elements.{All-from_recursion, recursion_from_All}
use Rattle.sqlite.specs.Tree.{Trees}
use Rattle.sqlite.specs.Store.{Ghosts}
use Rattle.sqlite.specs.Held.{Held, state}
use Rattle.sqlite.specs.State.{HasCleanDisk}
use Rattle.sheet_types.proofs.Every.{All-left, All-right}
use Rattle.store_sql.specs.Stores.{MayLeave}
use Rattle.world_changes.specs.Leaving.{AreClean, MayBeLeft}
use Rattle.world_members.specs.Members.{AllClean}
use Rattle.world_members.specs.declared.members.Member.{Member}

module _ {S : Type 0} (g : Ghosts S) where
  -- the parts of a list
  pub left_clean : (xs ys : List (Held S)) → AreClean g (xs ++ ys) → AreClean g xs
  left_clean xs ys clean = All-from_recursion (λ h. HasCleanDisk (state g h)) xs
      (All-left (λ h. HasCleanDisk (state g h)) xs ys (recursion_from_All (λ h. HasCleanDisk (state g h)) (xs ++ ys)
      clean))

  pub right_clean : (xs ys : List (Held S)) → AreClean g (xs ++ ys) → AreClean g ys
  right_clean xs ys clean = All-from_recursion (λ h. HasCleanDisk (state g h)) ys
      (All-right (λ h. HasCleanDisk (state g h)) xs ys (recursion_from_All (λ h. HasCleanDisk (state g h)) (xs ++ ys)
      clean))

  each_clean : (ms : List (Member S)) → AllByRecursion (λ h. HasCleanDisk (state g h))
      (map (λ (m : Member S). m.conn) ms) → AllByRecursion (λ (m : Member S). HasCleanDisk (state g m.conn)) ms
  each_clean [] all = tt
  each_clean (m ∷ ms) all = (all.0, each_clean ms all.1)

  -- clean stores of members are clean members
  pub held_clean : (strays : List (Held S)) (ms : List (Member S)) → AreClean g (strays ++ map (λ m. m.conn) ms)
      → AllClean g ms
  held_clean strays ms clean =
      All-from_recursion (λ (m : Member S). HasCleanDisk (state g m.conn)) ms
      (each_clean ms (recursion_from_All (λ h. HasCleanDisk (state g h)) (map (λ (m : Member S). m.conn) ms)
      (right_clean strays (map (λ (m : Member S). m.conn) ms) clean)))

  -- and what they leave is what the members leave
  pub members_left : (ms : List (Member S)) (contents : List Trees) → MayBeLeft g (map (λ m. m.conn) ms) contents
      → MayLeave g (λ m. m.conn) ms contents
  members_left [] [] may = tt
  members_left [] (t ∷ ts) may = absurd may
  members_left (m ∷ ms) [] may = absurd may
  members_left (m ∷ ms) (t ∷ ts) may = (may.0, members_left ms ts may.1)
