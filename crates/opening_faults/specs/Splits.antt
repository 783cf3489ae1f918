-- The open splits of the stores of a round, and all of them. Profile.
use Rattle.std.specs.Prelude.{◌≡◌, ℕ, ℤ, pos, negsuc, Bool, false, List, [], ◌∷◌, map, filter}
use Rattle.std.specs.Prelude.{flat_map, Option, Some}
use Rattle.std.specs.Prelude.{None, bytes_eq, Contains}
use Rattle.std.specs.Option.{option_map_or}
use Rattle.std.specs.Ordering.{nat_cmp}
use Rattle.std.specs.Cmp.Lexicographic.{slice_cmp}
use Rattle.std.specs.BTreeSet.{BTreeSet, contains}
use Rattle.sheet_types.specs.Texts.{uuid_text}
use Rattle.sheet_types.specs.Opening.{Claim}
use Rattle.opening_faults.specs.Sights.{claims_seen, IsOpenSplitOf}
use Rattle.opening_faults.specs.Standings.{is_fresh}
use Rattle.opening_faults.specs.declared.splits.OpenSplit.{OpenSplit}
use Rattle.opening_faults.specs.declared.sights.StoreHead.{StoreHead}
use Rattle.opening_faults.specs.declared.sights.Sight.{Sight}
use Rattle.opening_faults.specs.declared.standing.Standing.{Standing}

-- the split that a claim of a store with this head makes
abbrev pub split_made : StoreHead → Claim → OpenSplit
split_made h c = record { above = h; target = c.target; seq = c.seq }

-- of the claims of a store those that pass, as splits; none where it has no head
abbrev pub splits_in : (Claim → Bool) → Sight → List OpenSplit
splits_in p s = option_map_or (λ h. map (split_made h) (filter p (claims_seen s))) s.head []

-- of the stores that are found just now
abbrev pub splits_among : (Claim → Bool) → (Sight → Standing) → List Sight → List OpenSplit
splits_among p standing sights = flat_map (splits_in p) (filter (λ s. is_fresh (standing s)) sights)

-- a number and a text as a key; none where the number is negative
abbrev pub number_key : ℤ → List ℕ → Option (List ℕ)
number_key (pos n) target = Some (n ∷ target)
number_key (negsuc n) target = None

-- the key of the loan that a split made
abbrev pub split_key : OpenSplit → Option (List ℕ)
split_key split = number_key split.seq split.target

-- the key that a store has: the number of its loan and the text of its UUID
abbrev pub head_key : StoreHead → List ℕ
head_key h = h.loan ∷ uuid_text h.uuid

abbrev pub has_key : List ℕ → Sight → Bool
has_key key s = option_map_or (λ h. bytes_eq (head_key h) key) s.head false

-- the split made the loan of this key
abbrev pub makes_key : List ℕ → OpenSplit → Bool
makes_key key split = option_map_or (λ made. bytes_eq made key) (split_key split) false

-- the key of a store is among these
abbrev pub is_lent_in : BTreeSet (List ℕ) → Sight → Bool
is_lent_in loans s = option_map_or (λ h. contains (slice_cmp nat_cmp) loans (head_key h)) s.head false

-- an open split of a store
abbrev pub IsOpenSplit : List Sight → OpenSplit → Type 0
IsOpenSplit stores split = (s : Sight) × (c : Claim) × Contains stores s × IsOpenSplitOf stores s c
    × (s.head ≡ Some split.above) × (split ≡ split_made split.above c)

-- the list has just the open splits of the stores
pub record AreOpenSplits (stores : List Sight) (splits : List OpenSplit) : Type 0 where
  pub sound : (split : OpenSplit) → Contains splits split → IsOpenSplit stores split
  pub whole : (s : Sight) (c : Claim) (h : StoreHead) → Contains stores s → IsOpenSplitOf stores s c
      → s.head ≡ Some h
      → Contains splits (split_made h c)

-- what a split claims, as far as its loan is known by it
abbrev pub claim_made : OpenSplit → Claim
claim_made split = record { seq = split.seq; line = []; source = []; target = split.target }
