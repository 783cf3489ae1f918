-- Whether a world is within its limits, with more receipts to come. Profile.
use Rattle.std.specs.Prelude.{ℕ, ◌+◌, Bool, not, ◌&&◌, nat_le, List, length}
use Rattle.std.specs.List.{list_any}
use Rattle.sheet_types.specs.Refuse.{greatest_packages, greatest_receipts, too_many}
use Rattle.sheet_types.specs.World.{World, receipts_of}
use Rattle.world_members.specs.Steps.{is_past_limits}
use Rattle.world_members.specs.declared.members.Member.{Member}

-- no package, and no list of them, is past a limit, and so many receipts more are none too many
abbrev pub has_room : World → ℕ → Bool
has_room w more = not (too_many w) && nat_le (length (receipts_of w) + more) greatest_receipts

-- by what is kept of the members, and the number of receipts
abbrev pub members_have_room : {S : Type 0} → List (Member S) → ℕ → ℕ → Bool
members_have_room members count more = not (list_any (λ m. is_past_limits m.sums) members)
    && nat_le (length members) greatest_packages && nat_le (count + more) greatest_receipts
