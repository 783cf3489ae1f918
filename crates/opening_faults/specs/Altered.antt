-- What additions say of items, and the items of which none says what is seen. Profile.
use Rattle.std.specs.Prelude.{◌≡◌, ℕ, ◌&&◌, false, List, [], ◌∷◌, ◌++◌, Bool, Option, Contains}
use Rattle.std.specs.Prelude.{unwrap_or, length}
use Rattle.std.specs.Ordering.{nat_cmp}
use Rattle.std.specs.Cmp.Lexicographic.{slice_cmp}
use Rattle.std.specs.BTreeSet.{BTreeSet, contains}
use Rattle.sheet_types.specs.Custody.{is_add}
use Rattle.sheet_types.specs.Ordered.{has}
use Rattle.sheet_types.specs.declared.receipt.Moved.{Moved}
use Rattle.sheet_types.specs.declared.receipt.Receipt.{Receipt}
use Rattle.sheet_balance.specs.declared.holders.Holder.{Holder}

-- the size, then the identity behind its length, then the digest
abbrev pub item_bytes : ℕ → List ℕ → Option (List ℕ) → List ℕ
item_bytes size base digest = size ∷ length base ∷ (base ++ unwrap_or digest [])

-- the key of what a receipt says of an item
abbrev pub item_said : Moved → List ℕ
item_said m = item_bytes m.size m.base m.fingerprint

-- the receipt is an addition of an item of this key
abbrev pub adds_item : List ℕ → Receipt → Bool
adds_item key r = is_add r && has item_said key r.items

-- an item of this identity whose key is not among those that were added
abbrev pub IsAlteredAt : BTreeSet (List ℕ) → Moved → List ℕ → Type 0
IsAlteredAt added m id = (contains (slice_cmp nat_cmp) added (item_said m) ≡ false) × (m.base ≡ id)

abbrev pub IsAlteredAmong : BTreeSet (List ℕ) → List Moved → List ℕ → Type 0
IsAlteredAmong added things id = (m : Moved) × Contains things m × IsAlteredAt added m id

abbrev pub IsAlteredOf : BTreeSet (List ℕ) → Holder → List ℕ → Type 0
IsAlteredOf added h id = IsAlteredAmong added h.items id

abbrev pub IsAlteredIn : BTreeSet (List ℕ) → List Holder → List ℕ → Type 0
IsAlteredIn added holders id = (h : Holder) × Contains holders h × IsAlteredOf added h id
