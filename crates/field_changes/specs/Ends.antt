-- The map of the ends of links.
use Rattle.std.specs.Prelude.{◌≡◌, ℕ, ℤ, List}
use Rattle.std.specs.Ordering.{nat_cmp}
use Rattle.std.specs.Cmp.Lexicographic.{slice_cmp}
use Rattle.std.specs.BTreeMap.{BTreeMap, get}
use Rattle.sheet_types.specs.declared.receipt.MovedKind.{MovedKind}
use Rattle.field_changes.specs.Keys.{number_key}
use Rattle.field_changes.specs.Parts.{end_of}
use Rattle.field_changes.specs.declared.naming.Named.{Named}

-- it has the identity of the item of each kind and number
abbrev pub HoldsEnds : List Named → BTreeMap (List ℕ) (List ℕ) → Type 0
HoldsEnds names ends = (kind : MovedKind) (number : ℤ) → get (slice_cmp nat_cmp) ends (number_key kind number)
    ≡ end_of names kind number
