-- Where the entries of a list stand, by a key. Profile.
use Rattle.std.specs.Prelude.{◌≡◌, ℕ, List, bytes_eq, slice_get}
use Rattle.std.specs.HashMap.{HashMap, get}
use Rattle.std.specs.Option.{option_and_then}
use Rattle.sheet_types.specs.Ordered.{entry}

-- a map has for each key the place of the first entry that has it
abbrev pub ArePlaces : {X S : Type 0} → (X → List ℕ) → HashMap (List ℕ) ℕ S → List X → Type 0
ArePlaces key places xs = (id : List ℕ) → option_and_then (slice_get xs) (get bytes_eq places id)
    ≡ entry key id xs
