-- What a merge comes to before anything is written: why it is refused, by what is kept of the members and by what its
-- two packages hold. Profile.
use Rattle.std.specs.Prelude.{◌≡◌, ℕ, ℤ, ◌+◌, ◌-◌, Bool, true, ◌||◌, nat_lt, List, []}
use Rattle.std.specs.Prelude.{◌∷◌, length, find, Option}
use Rattle.std.specs.Prelude.{Some, None, option_map, slice_get, if◌then◌else◌}
use Rattle.std.specs.List.{list_any}
use Rattle.std.specs.Option.{option_or}
use Rattle.sheet_types.specs.Custody.{ends_at, kept, ticket}
use Rattle.sheet_types.specs.Cut.{Cut}
use Rattle.sheet_types.specs.Lines.{HasTypes, IsUuid}
use Rattle.sheet_types.specs.Matrix.{first_row}
use Rattle.sheet_types.specs.Ordered.{is_before, arranged}
use Rattle.sheet_types.specs.Refuse.{foreign, stale, loan_open, collides, carrying, child_of, place_key, takes_place}
use Rattle.sheet_types.specs.Refuse.{greatest_packages, greatest_receipts}
use Rattle.sheet_types.specs.World.{World, Package, is_live, holdings, receipts_of}
use Rattle.sheet_types.specs.declared.command.Command.{Command}
use Rattle.sheet_types.specs.declared.command.Command.TheVariants.{Merge}
use Rattle.sheet_types.specs.declared.command.Item.{Item}
use Rattle.sheet_types.specs.declared.command.Request.{Request}
use Rattle.sheet_types.specs.declared.receipt.Sums.{Sums}
use Rattle.sheet_types.specs.declared.refusal.Refusal.{Refusal}
use Rattle.sheet_types.specs.declared.refusal.Refusal.TheVariants.{Foreign, Stale, LoanOpen, Collides}
use Rattle.world_members.specs.Reasons.{text_reasons}
use Rattle.world_members.specs.Steps.{is_past_limits}
use Rattle.world_queries.specs.TooMany.{sums_with}
use Rattle.world_decisions.specs.declared.deciding_merges.Clash.{Clash}
use Rattle.world_members.specs.declared.members.Member.{Member}

-- A new merge whose packages are live and stand at these places. Its values are those of their types.
pub record IsMergeAt (count from at : ℕ) (q : Request) (w : World) : Type 0 where
  pub counted : count ≡ length (receipts_of w)
  pub new : kept w q.id ≡ None
  pub uuid : IsUuid q.id
  pub child : List ℕ
  pub into : List ℕ
  pub number : ℤ
  pub merges : q.command ≡ Merge child into number
  pub types : HasTypes (Merge child into number)
  pub child_live : is_live w child ≡ true
  pub into_live : is_live w into ≡ true
  pub child_at : slice_get w.packages from ≡ Some (holdings w child)
  pub into_at : slice_get w.packages at ≡ Some (holdings w into)

-- ---- why it is refused, in the order of the model

-- by what is kept of the members
abbrev pub kept_reasons : World → Command → List (Bool × Refusal)
kept_reasons w command = (foreign w command, Foreign) ∷ (stale w command, Stale (ticket w (child_of command)))
    ∷ carrying LoanOpen (loan_open w command) ∷ []

-- by its texts, else by that
abbrev pub refusal_by_kept : World → Request → Option Refusal
refusal_by_kept w q = option_or (first_row (text_reasons q)) (first_row (kept_reasons w q.command))

-- or by what its packages hold
abbrev pub refusal_by_held : World → Request → Option Refusal
refusal_by_held w q = option_or (refusal_by_kept w q) (option_map Collides (collides w q.command))

-- the first member whose package is lent from this one
abbrev pub first_loan : {S : Type 0} → List (Member S) → List ℕ → Option (List ℕ)
first_loan members child = option_map (λ m. m.uuid) (find (λ m. ends_at m.parent child) members)

-- ---- places that are taken

abbrev pub clash_of : Item → Clash
clash_of i = record { place = place_key i; identity = i.identity }

-- the first by their places, of some that are taken in the package
abbrev pub first_clash : Package → List Item → Option Clash
first_clash p items = option_map clash_of (find (λ i. takes_place p i.content) (arranged place_key items))

-- the first of two, that which was there where they have one place
abbrev pub nearer_clash : Option Clash → Clash → Clash
nearer_clash None clash = clash
nearer_clash (Some first) clash = if is_before clash.place first.place then clash else first

-- ---- what it would leave

-- all that a package holds
abbrev pub all_of : Package → Cut
all_of p = record { items = p.items; links = p.links }

-- A member is past the limits, with these sums for the one that takes all, or there would be too many members without
-- the one that goes, or one receipt more is too many.
abbrev pub leaves_too_many : {S : Type 0} → List (Member S) → ℕ → Sums → ℕ → Bool
leaves_too_many members at sums count = list_any is_past_limits (sums_with members at sums)
    || nat_lt greatest_packages (length members - 1) || nat_lt greatest_receipts (count + 1)
