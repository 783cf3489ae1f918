-- The model's words of opening, of stores as they are seen. What a store reads as plays no part in them. Profile.
use Rattle.std.specs.Prelude.{◌≡◌, ◌⊎◌, ℕ, Bool, List, map, Option, Some, option_map, ⊤}
use Rattle.sheet_types.specs.World.{Package, no_package}
use Rattle.sheet_types.specs.Opening as model
use Rattle.sheet_types.specs.Opening.{Head, Claim, IsBelow}
use Rattle.sheet_types.specs.declared.frame.Frame.{Frame}
use Rattle.opening_faults.specs.declared.sights.StoreHead.{StoreHead}
use Rattle.opening_faults.specs.declared.sights.StoreClaim.{StoreClaim}
use Rattle.opening_faults.specs.declared.sights.Sight.{Sight}

abbrev pub head_said : StoreHead → Head
head_said h = record { uuid = h.uuid; parent = h.parent; depth = h.depth; loan = h.loan }

abbrev pub claim_said : StoreClaim → Claim
claim_said c = record { seq = c.seq; line = c.line; source = c.source; target = c.target }

abbrev pub head_seen : Sight → Option Head
head_seen s = option_map head_said s.head

abbrev pub claims_seen : Sight → List Claim
claims_seen s = map claim_said s.claims.items

abbrev pub frame_seen : Sight → Frame
frame_seen s = s.frame

-- what the words below do not look at
abbrev pub Any : Sight → Type 0
Any s = ⊤

abbrev pub nothing_read : Sight → Package
nothing_read s = no_package

-- ---- the words

abbrev pub is_root : Sight → Bool
is_root = model.is_root Sight head_seen claims_seen Any Any frame_seen nothing_read

abbrev pub is_loan_of : Claim → Sight → Bool
is_loan_of = model.is_loan_of Sight head_seen claims_seen Any Any frame_seen nothing_read

abbrev pub is_reached : ℕ → List Sight → Sight → Bool
is_reached = model.is_reached Sight head_seen claims_seen Any Any frame_seen nothing_read

abbrev pub is_live_store : List Sight → Sight → Bool
is_live_store = model.is_live_store Sight head_seen claims_seen Any Any frame_seen nothing_read

abbrev pub uuid_seen : Sight → List ℕ
uuid_seen = model.uuid_of Sight head_seen claims_seen Any Any frame_seen nothing_read

abbrev pub claims_at : ℕ → List Sight → List Claim
claims_at = model.claims_at Sight head_seen claims_seen Any Any frame_seen nothing_read

abbrev pub IsFoundIn : ℕ → List Sight → Sight → Type 0
IsFoundIn = model.IsFoundIn Sight head_seen claims_seen Any Any frame_seen nothing_read

abbrev pub IsOpenSplitOf : List Sight → Sight → Claim → Type 0
IsOpenSplitOf = model.IsOpenSplitOf Sight head_seen claims_seen Any Any frame_seen nothing_read

abbrev pub NoArchive : List Sight → Type 0
NoArchive = model.NoArchive Sight head_seen claims_seen Any Any frame_seen nothing_read

abbrev pub TwoArchives : List Sight → Type 0
TwoArchives = model.TwoArchives Sight head_seen claims_seen Any Any frame_seen nothing_read

abbrev pub IsOne : List Sight → Type 0
IsOne = model.IsOne Sight head_seen claims_seen Any Any frame_seen nothing_read

abbrev pub TwoCopies : List Sight → List ℕ → Type 0
TwoCopies = model.TwoCopies Sight head_seen claims_seen Any Any frame_seen nothing_read

abbrev pub MissingPackage : List Sight → List ℕ → Type 0
MissingPackage = model.MissingPackage Sight head_seen claims_seen Any Any frame_seen nothing_read

abbrev pub ForeignFrame : List Sight → List ℕ → Type 0
ForeignFrame = model.ForeignFrame Sight head_seen claims_seen Any Any frame_seen nothing_read

-- the loan's frame is the archive's, and it is one level below the store of this head
abbrev pub IsAtHomeIn : Sight → StoreHead → Sight → Type 0
IsAtHomeIn root above loan = (frame_seen loan ≡ frame_seen root) × IsBelow (Some (head_said above)) (head_seen loan)

-- the loan's frame isn't the archive's, or it isn't below the store of this head
abbrev pub IsApart : Sight → StoreHead → Sight → Type 0
IsApart root above loan = (frame_seen loan ≡ frame_seen root → ⊥)
    ⊎ (IsBelow (Some (head_said above)) (head_seen loan) → ⊥)
