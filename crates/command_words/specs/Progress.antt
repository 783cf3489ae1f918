-- What is told of an import while it goes on (profile).
use Rattle.std.specs.Prelude.{◌≡◌, ◌%◌, ℕ, List, ◌++◌, codes, decimal, nat_lt, if◌then◌else◌}

-- each thousandth request
abbrev pub IsDue : ℕ → Type 0
IsDue done = done % 1000 ≡ 0

abbrev pub counted_text : ℕ → ℕ → List ℕ → List ℕ
counted_text done all what = decimal done ++ (codes " of " ++ (decimal all ++ what))

abbrev pub progress_text : ℕ → ℕ → List ℕ
progress_text done all = counted_text done all (codes " requests are done\n")

-- what is said of packages: the line is written over until all are read
abbrev pub are_read : ℕ → ℕ → List ℕ
are_read done all = if nat_lt done all then codes " packages are read\r" else codes " packages are read\n"

abbrev pub opening_text : ℕ → ℕ → List ℕ
opening_text done all = counted_text done all (are_read done all)
