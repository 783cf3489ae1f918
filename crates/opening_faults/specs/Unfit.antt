-- Live stores that are not what they ought to be, place by place. Profile.
use Rattle.std.specs.Prelude.{◌≡◌, ℕ, ◌<◌, Bool, true, false, List, Some, slice_get}
use Rattle.opening_faults.specs.declared.sights.StoreHead.{StoreHead}
use Rattle.opening_faults.specs.declared.sights.Sight.{Sight}

-- the store has this UUID, and is not fit
abbrev pub IsUnfitAt : Bool → Sight → List ℕ → Type 0
IsUnfitAt unfit s id = (h : StoreHead) × (s.head ≡ Some h) × (h.uuid ≡ id) × (unfit ≡ true)

-- the store at this place is live and not fit, and has this UUID
abbrev pub IsUnfitIn : List Bool → List Bool → List Sight → ℕ → List ℕ → Type 0
IsUnfitIn live fit sights k id = (slice_get live k ≡ Some true) × (slice_get fit k ≡ Some false)
    × ((s : Sight) × (h : StoreHead) × (slice_get sights k ≡ Some s) × (s.head ≡ Some h) × (h.uuid ≡ id))

-- at some place
abbrev pub IsUnfit : List Bool → List Bool → List Sight → List ℕ → Type 0
IsUnfit live fit sights id = (k : ℕ) × IsUnfitIn live fit sights k id

-- at some place before this
abbrev pub IsUnfitBelow : List Bool → List Bool → List Sight → ℕ → List ℕ → Type 0
IsUnfitBelow live fit sights i id = (k : ℕ) × (k < i) × IsUnfitIn live fit sights k id
