-- The keys of things of which custody is kept. Profile.
use Rattle.std.specs.Prelude.{ℕ, Option, List, [], ◌++◌, ◌∷◌, unwrap_or}

-- 0 for an item and the number of the kind for a link, then the base, and a link's other end
abbrev pub thing_bytes : ℕ → List ℕ → Option (List ℕ) → List ℕ
thing_bytes number base other = number ∷ base ++ unwrap_or other []
