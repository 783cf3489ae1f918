-- Open splits by the last merge of each package. Profile.
use Rattle.std.specs.Prelude.{◌≡◌, ℕ, ℤ, Bool, false, not, ◌&&◌, List, length, bytes_eq, nat_lt, int_lt}
use Rattle.std.specs.Prelude.{String}
use Rattle.std.specs.List.{list_any}
use Rattle.std.specs.Option.{option_map_or}
use Rattle.std.specs.BTreeMap.{BTreeMap, get_by_text}
use Rattle.sheet_types.specs.Opening.{Claim, claims_split, claims_merge}

-- the claim is a merge of this source, of a greater number
abbrev pub merges_after : List ℕ → ℤ → Claim → Bool
merges_after source n m = claims_merge m && bytes_eq m.source source && int_lt n m.seq

-- the greatest number noted of this source is greater
abbrev pub is_above : {Y : Type 0} → BTreeMap (String Y) ℤ → List ℕ → ℤ → Bool
is_above merges source n = option_map_or (int_lt n) (get_by_text merges source) false

-- of each source the greatest number of a merge among the claims is noted
abbrev pub HasMerges : {Y : Type 0} → BTreeMap (String Y) ℤ → List Claim → Type 0
HasMerges merges claims = (source : List ℕ) (n : ℤ) → is_above merges source n
    ≡ list_any (merges_after source n) claims

-- a split with a target, of which no later merge is noted
abbrev pub is_open_by : {Y : Type 0} → BTreeMap (String Y) ℤ → Claim → Bool
is_open_by merges c = claims_split c && nat_lt 0 (length c.target) && not (is_above merges c.target c.seq)
