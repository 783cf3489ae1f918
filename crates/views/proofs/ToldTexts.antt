-- What was found, as a text, is what was told.
use Rattle.std.proofs.Common.{◌≡◌, ℕ, List, Result, Ok, Err}
use Rattle.std.specs.Prelude.{Option, option_map}
use Rattle.sqlite.specs.Held.{Held}
use Rattle.sqlite.specs.Store.{Ghosts}
use Rattle.package_tables.specs.declared.fault.Fault.{Fault}
use Rattle.sheet_types.specs.World.{World}
use Rattle.world.specs.Worlds.{Seen, TellsOf}
use Rattle.view_world.specs.Looks.{LeavesOpen, LooksInto}
use Rattle.views.specs.Showing.{told, told_if}

module _ {S : Type 0} (g : Ghosts S) {T : Type 0} (bytes : T → List ℕ) where
  pub looks_told : (text : World → List ℕ) (seen : Seen S) (stores : List (Held S)) (r : Result T Fault)
      → LooksInto g (λ w t. bytes t ≡ text w) seen stores r → LooksInto g (λ w t. t ≡ text w) seen stores
      (told bytes r)
  looks_told text seen stores (Ok t) it = record { read = it.read; told = it.told }
  looks_told text seen stores (Err fault) it = record { read = it.read; told = λ clean. tt }

  pub looks_told_if : (text : World → Option (List ℕ)) (seen : Seen S) (stores : List (Held S))
      (r : Result (Option T) Fault) → LooksInto g (λ w found. option_map bytes found ≡ text w) seen stores r
      → LooksInto g (λ w found. found ≡ text w) seen stores (told_if bytes r)
  looks_told_if text seen stores (Ok found) it = record { read = it.read; told = it.told }
  looks_told_if text seen stores (Err fault) it = record { read = it.read; told = λ clean. tt }

  pub tells_told : (text : World → List ℕ) (old new : Seen S) (r : Result T Fault)
      → TellsOf g (λ w t. bytes t ≡ text w) old new r → TellsOf g (λ w t. t ≡ text w) old new (told bytes r)
  tells_told text old new (Ok t) it = it
  tells_told text old new (Err fault) it = λ clean. tt

  pub tells_told_if : (text : World → Option (List ℕ)) (old new : Seen S) (r : Result (Option T) Fault)
      → TellsOf g (λ w found. option_map bytes found ≡ text w) old new r
      → TellsOf g (λ w found. found ≡ text w) old new (told_if bytes r)
  tells_told_if text old new (Ok found) it = it
  tells_told_if text old new (Err fault) it = λ clean. tt

  -- and it leaves open what that left open
  pub opens_told : (old new : Seen S) (r : Result T Fault) → LeavesOpen g old new r
      → LeavesOpen g old new (told bytes r)
  opens_told old new (Ok t) it = it
  opens_told old new (Err fault) it = λ clean. tt

  pub opens_told_if : (old new : Seen S) (r : Result (Option T) Fault) → LeavesOpen g old new r
      → LeavesOpen g old new (told_if bytes r)
  opens_told_if old new (Ok found) it = it
  opens_told_if old new (Err fault) it = λ clean. tt
