-- The line of a tree of tiles. Profile.
use Rattle.std.specs.Prelude.{ℕ, List, ◌++◌, codes, decimal}

-- how many were added, and how many were there already
abbrev pub counts_line : ℕ → ℕ → List ℕ
counts_line added passed = codes "added " ++ (decimal added ++
    (codes ", passed over " ++ (decimal passed ++ codes "\n")))
