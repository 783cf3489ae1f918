-- Answers of yes or no.
use Rattle.std.specs.Prelude.{Bool, MatchBool}

-- yes where it holds, no where it doesn't
abbrev pub Decides : Type 0 → Bool → Type 0
Decides Holds answer = MatchBool answer Holds (Holds → ⊥)
