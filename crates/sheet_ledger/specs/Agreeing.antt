-- What receipts say of a thing beside its key: a size and a digest. Profile.
use Rattle.std.specs.Prelude.{◌≡◌, ⊤, ℕ, true, List, Option, Some, None, bytes_eq}
use Rattle.sheet_types.specs.World.{moved_thing}
use Rattle.sheet_types.specs.declared.receipt.Moved.{Moved}
use Rattle.sheet_ledger.specs.declared.agreeing.Said.{Said}

-- what is said of it
abbrev pub said_of : Moved → Said
said_of m = record { size = m.size; fingerprint = m.fingerprint }

-- what is told of a thing allows this to be said of it: anything where nothing is told, nothing where two things are
abbrev pub Allows : Option (Option Said) → Said → Type 0
Allows None u = ⊤
Allows (Some None) u = ⊥
Allows (Some (Some v)) u = u ≡ v

-- where this is the thing, this is said of it
abbrev pub SaysSo : List ℕ → Said → Moved → Type 0
SaysSo thing u n = bytes_eq (moved_thing n) thing ≡ true → u ≡ said_of n
