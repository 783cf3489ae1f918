-- Open loans by the last merge of each package. Profile.
use Rattle.std.specs.Prelude.{ℕ, Bool, false, not, ◌&&◌, List, [], is_some, unwrap_or, nat_lt}
use Rattle.std.specs.Option.{option_map_or}
use Rattle.std.specs.Ordering.{nat_cmp}
use Rattle.std.specs.Cmp.Lexicographic.{slice_cmp}
use Rattle.std.specs.BTreeMap.{BTreeMap, get}
use Rattle.sheet_types.specs.Custody.{is_split}
use Rattle.sheet_types.specs.declared.receipt.Receipt.{Receipt}

-- the receipt is a split with a target, and the last merge of that, if there is one, is not after it
abbrev pub is_open_by : BTreeMap (List ℕ) ℕ → Receipt → Bool
is_open_by merges r = is_split r && is_some r.target && not (option_map_or (nat_lt r.seq)
    (get (slice_cmp nat_cmp) merges (unwrap_or r.target [])) false)
