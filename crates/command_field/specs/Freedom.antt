-- What a list of requests asks for that is not free in a world. Profile.
use Rattle.std.specs.Prelude.{◌≡◌, ◌⊎◌, ◌&&◌, ◌≤◌, ℕ, Bool, true, false, List, map, Option}
use Rattle.std.specs.Prelude.{MatchOption, bytes_eq, count_by}
use Rattle.std.specs.List.{list_any}
use Rattle.sheet_types.specs.Custody.{is_used}
use Rattle.sheet_types.specs.Ordered.{is_among}
use Rattle.sheet_types.specs.Refuse.{identity_used}
use Rattle.sheet_types.specs.World.{World}
use Rattle.sheet_types.specs.declared.command.Item.{Item}
use Rattle.sheet_types.specs.declared.command.Relation.{Relation}
use Rattle.sheet_types.specs.declared.command.Request.{Request}
use Rattle.field_run_laws.specs.Lists.{has_twice, is_kept}
use Rattle.field_run_laws.specs.Ready.{added}
use Rattle.field_home_laws.specs.Free.{ids_added, keeps_limits, IsEmptyOrFree}
use Rattle.command_field.specs.declared.freedom.Taken.{Taken}
use Rattle.command_field.specs.declared.freedom.Taken.TheVariants.{Identity, Request as SameRequest, TooMany}

-- ---- one request

-- it asks for what it may not have: an identity that an item had, or that of a request that came before
abbrev pub takes : World → Taken → Request → Bool
takes w (Identity id) q = is_among (added q.command) id && is_used w id
takes w (SameRequest id) q = bytes_eq q.id id && is_kept w q
takes w TooMany q = false

-- nothing that it asks for is taken
abbrev pub IsNewIn : World → Request → Type 0
IsNewIn w q = (identity_used w q.command ≡ false) × (is_kept w q ≡ false)

-- ---- a list

-- no two of its requests ask for one identity
abbrev pub AreApart : List Request → Type 0
AreApart qs = (has_twice (ids_added qs) ≡ false) × (has_twice (map (λ q. q.id) qs) ≡ false)

-- it stands at two places of a list
abbrev pub StandsTwice : List (List ℕ) → List ℕ → Type 0
StandsTwice ids id = 2 ≤ count_by (λ k. bytes_eq k id) ids

-- two of them do, for this one
abbrev pub IsTwice : List Request → Taken → Type 0
IsTwice qs (Identity id) = StandsTwice (ids_added qs) id
IsTwice qs (SameRequest id) = StandsTwice (map (λ q. q.id) qs) id
IsTwice qs TooMany = ⊥

-- Two of its requests ask for it, one asks for what is taken, or a limit is passed.
abbrev pub IsTaken : World → List Item → List Relation → List Request → Taken → Type 0
IsTaken w items linked qs taken = IsTwice qs taken
    ⊎ ((list_any (takes w taken) qs ≡ true) ⊎ ((taken ≡ TooMany) × (keeps_limits w items linked qs ≡ false)))

-- a list is free, or is none; or this is taken
abbrev pub IsFreeOrTaken : World → List Item → List Relation → List Request → Option Taken → Type 0
IsFreeOrTaken w items linked qs found = MatchOption found (IsEmptyOrFree w items linked qs) (IsTaken w items linked qs)
