-- What is known before each round of the search for live stores. Profile.
use Rattle.std.specs.Prelude.{◌≡◌, ℕ, ℤ, zero, suc, ◌<◌, true, List, [], map, Some, Contains, String}
use Rattle.std.specs.BTreeMap.{BTreeMap}
use Rattle.sheet_types.specs.Opening.{Claim, is_open_claim}
use Rattle.opening_faults.specs.Sights.{claims_seen, claims_at, IsFoundIn}
use Rattle.opening_faults.specs.Standings.{standing}
use Rattle.opening_faults.specs.Merges.{HasMerges}
use Rattle.opening_faults.specs.Splits.{split_made, splits_among, IsOpenSplit}
use Rattle.opening_faults.specs.declared.standing.Standing.{Standing}
use Rattle.opening_faults.specs.declared.splits.OpenSplit.{OpenSplit}
use Rattle.opening_faults.specs.declared.sights.StoreHead.{StoreHead}
use Rattle.opening_faults.specs.declared.sights.Sight.{Sight}

-- what is claimed by the stores found before this round
abbrev pub said_before : List Sight → ℕ → List Claim
said_before stores zero = []
said_before stores (suc k) = claims_at k stores

-- the open splits of the stores that are found in this round
abbrev pub splits_at : ℕ → List Sight → List OpenSplit
splits_at k stores = splits_among (is_open_claim (claims_at k stores)) (standing k stores) stores

-- the list has just the open splits of the stores found before this round
pub record AreListed (stores : List Sight) (k : ℕ) (splits : List OpenSplit) : Type 0 where
  pub sound : (split : OpenSplit) → Contains splits split → IsOpenSplit stores split
  pub whole : (j : ℕ) (s : Sight) (c : Claim) (h : StoreHead) → j < k → Contains stores s → IsFoundIn j stores s
      → Contains (claims_seen s) c → is_open_claim (claims_at j stores) c ≡ true → s.head ≡ Some h
      → Contains splits (split_made h c)

pub record IsTurn {Y : Type 0} (stores : List Sight) (k : ℕ) (standings : List Standing)
    (merges : BTreeMap (String Y) ℤ) (splits : List OpenSplit) : Type 0 where
  pub stands : standings ≡ map (standing k stores) stores
  pub merged : HasMerges merges (said_before stores k)
  pub listed : AreListed stores k splits
