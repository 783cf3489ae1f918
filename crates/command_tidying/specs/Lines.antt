-- The lines of files that were taken out. Profile.
use Rattle.std.specs.Prelude.{ℕ, List, ◌++◌, codes, flat_map, String, string_bytes}

abbrev pub removed_line : List ℕ → List ℕ
removed_line name = codes "removed " ++ (name ++ codes "\n")

abbrev pub removed_lines : {Z : Type 0} → List (String Z) → List ℕ
removed_lines names = flat_map (λ name. removed_line (string_bytes name)) names
