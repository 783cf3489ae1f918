-- Where things stand and what came in and went out, by receipts in the order of their numbers. Profile.
use Rattle.std.specs.Prelude.{◌≡◌, ℕ, List, filter, Option}
use Rattle.std.specs.Option.{option_and_then}
use Rattle.std.specs.Ordering.{nat_cmp}
use Rattle.std.specs.Cmp.Lexicographic.{slice_cmp}
use Rattle.std.specs.BTreeMap.{BTreeMap, get}
use Rattle.sheet_types.specs.Custody.{custody}
use Rattle.sheet_types.specs.declared.receipt.Receipt.{Receipt}

-- under the key of a thing a map of places has where it stands; nothing where it stands nowhere or is not named
abbrev pub place_in : BTreeMap (List ℕ) (Option (List ℕ)) → List ℕ → Option (List ℕ)
place_in places thing = option_and_then (λ p. p) (get (slice_cmp nat_cmp) places thing)

-- the map has the custody of each thing
pub record KeepsCustody (places : BTreeMap (List ℕ) (Option (List ℕ))) (receipts : List Receipt) : Type 0 where
  pub place : (thing : List ℕ) → place_in places thing ≡ custody receipts thing
