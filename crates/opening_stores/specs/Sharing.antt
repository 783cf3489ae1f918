-- Which stores become members of a world, and which are strays. Profile.
use Rattle.std.specs.Prelude.{◌≡◌, ◌+◌, ◌≤◌, ℕ, List, [], ◌∷◌, ◌++◌, Option, Some, None}
use Rattle.std.specs.Prelude.{vec_len, vec_capacity}
use Rattle.sqlite.specs.Held.{Held}
use Rattle.sheet_types.specs.Ordered.{put, arranged}
use Rattle.opening_verdict.specs.declared.verdict.Kept.{Kept}
use Rattle.world_members.specs.declared.members.Member.{Member}
use Rattle.opening_stores.specs.declared.sharing.Shares.{Shares}

abbrev pub member_key : {S : Type 0} → Member S → List ℕ
member_key m = m.uuid

-- the member of a store of which this is kept
abbrev pub member_of : {S : Type 0} → Held S → Kept → Member S
member_of h k = record {
  conn = h;
  uuid = k.head.uuid;
  parent = k.head.parent;
  depth = k.head.depth;
  loan = k.head.loan;
  sums = k.sums;
  ticket = k.ticket;
}

-- members and strays with one store more
abbrev pub with_member : {S : Type 0} → Held S → Option Kept → List (Member S) → List (Member S)
with_member h (Some k) ms = put member_key (member_of h k) ms
with_member h None ms = ms

abbrev pub with_stray : {S : Type 0} → Held S → Option Kept → List (Held S) → List (Held S)
with_stray h (Some k) hs = hs
with_stray h None hs = hs ++ h ∷ []

-- those of which something is kept, in turn
abbrev pub members_of : {S : Type 0} → List (Held S) → List (Option Kept) → List (Member S)
members_of [] kept = []
members_of (h ∷ hs) [] = []
members_of (h ∷ hs) (Some k ∷ ks) = member_of h k ∷ members_of hs ks
members_of (h ∷ hs) (None ∷ ks) = members_of hs ks

-- the others, the last one first
abbrev pub strays_of : {S : Type 0} → List (Held S) → List (Option Kept) → List (Held S)
strays_of [] kept = []
strays_of (h ∷ hs) [] = []
strays_of (h ∷ hs) (k ∷ ks) = with_stray h k (strays_of hs ks)

-- there is room for so many more members and strays
abbrev pub HasRoomOf : {S : Type 0} → Shares S → ℕ → Type 0
HasRoomOf shares n = (vec_len shares.members + n ≤ vec_capacity shares.members)
    × (vec_len shares.strays + n ≤ vec_capacity shares.strays)

-- the members in the order of their UUIDs, and the strays
pub record AreShared {S : Type 0} (stores : List (Held S)) (kept : List (Option Kept)) (shares : Shares S) :
    Type 0 where
  pub members : shares.members.items ≡ arranged member_key (members_of stores kept)
  pub strays : shares.strays.items ≡ strays_of stores kept
