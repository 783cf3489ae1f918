use Rattle.std.proofs.Common.{ℕ, List, All, map, take}
use Rattle.std.specs.Prelude.{Contains, string_bytes}
use Rattle.store_folder.specs.Leftovers.{IsLeftover, IsToldOf, Tells}
use Rattle.store_folder.proofs.leftovers.leftovers_among.Given as goal

abbrev pub invariant-loop-name : goal.invariant-loop-name
invariant-loop-name l =
    All (λ text. IsLeftover l.packages (string_bytes text)) l.found.items
    × All (λ text. Contains (map (λ name. name.now) l.names) (string_bytes text)) l.found.items
    × ((name : List ℕ) → Contains (map (λ name. name.now) (take l.name-index l.names)) name
    → IsToldOf l.packages name → Tells l.found.items name)
