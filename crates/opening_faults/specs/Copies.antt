-- How many stores are the loan of a split: none, one or more. Profile.
use Rattle.std.specs.Prelude.{ℕ, zero, suc, Bool, true, false, List, Option, Some, None}
use Rattle.std.specs.Option.{option_and_then}
use Rattle.std.specs.Ordering.{nat_cmp}
use Rattle.std.specs.Cmp.Lexicographic.{slice_cmp}
use Rattle.std.specs.BTreeMap.{BTreeMap, get}
use Rattle.opening_faults.specs.Splits.{split_key}
use Rattle.opening_faults.specs.declared.copies.Copies.{Copies}
use Rattle.opening_faults.specs.declared.copies.Copies.TheVariants.{One, More}
use Rattle.opening_faults.specs.declared.splits.OpenSplit.{OpenSplit}

-- what is told of a number
abbrev pub told : ℕ → Option Copies
told zero = None
told (suc zero) = Some One
told (suc (suc n)) = Some More

abbrev pub told_more : Option Copies → Copies
told_more None = One
told_more (Some copies) = More

-- what is told of the key of a split
abbrev pub copies_of : BTreeMap (List ℕ) Copies → OpenSplit → Option Copies
copies_of counts split = option_and_then (λ key. get (slice_cmp nat_cmp) counts key) (split_key split)

abbrev pub is_missing : Option Copies → Bool
is_missing None = true
is_missing (Some copies) = false

abbrev pub is_doubled : Option Copies → Bool
is_doubled None = false
is_doubled (Some One) = false
is_doubled (Some More) = true
