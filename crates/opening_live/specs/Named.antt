-- Which stores may live: a choice made by each store's own claims, in which all are that live.
use Rattle.std.specs.Prelude.{ℕ, Bool, false, ◌&&◌, ◌||◌, List}
use Rattle.std.specs.List.{list_any}
use Rattle.std.specs.Option.{option_map_or}
use Rattle.sheet_types.specs.Opening.{Claim, is_open_claim}
use Rattle.opening_faults.specs.Sights.{claim_said, claims_seen, is_root}
use Rattle.opening_faults.specs.Splits.{split_made, makes_key, head_key}
use Rattle.opening_faults.specs.declared.sights.StoreHead.{StoreHead}
use Rattle.opening_faults.specs.declared.sights.Sight.{Sight}

-- a claim under this head is an open split of the loan of a key
abbrev pub names : (Claim → Bool) → StoreHead → Claim → List ℕ → Bool
names opens h c key = opens c && makes_key key (split_made h c)

-- a store claims an open split of the loan of a key, as far as it says itself
abbrev pub names_by : Sight → List ℕ → Bool
names_by s key = option_map_or (λ h. list_any (λ c. names (is_open_claim (claims_seen s)) h (claim_said c) key)
    s.claims.items) s.head false

-- a store is an archive's, or some store names it
abbrev pub may_live : List Sight → Sight → Bool
may_live sights s = is_root s || option_map_or (λ h. list_any (λ above. names_by above (head_key h)) sights) s.head
    false
