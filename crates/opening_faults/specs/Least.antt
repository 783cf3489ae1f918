-- The least of some packages. Profile.
use Rattle.std.specs.Prelude.{◌≡◌, ◌⊎◌, ℕ, Bool, true, false, List, Option, Some, None, MatchOption}
use Rattle.std.specs.Prelude.{if◌then◌else◌}
use Rattle.std.specs.Prelude.{Contains}
use Rattle.sheet_types.specs.Lines.{IsUuid}
use Rattle.sheet_types.specs.Ordered.{is_before}
use Rattle.sheet_types.specs.Texts.{uuid_text}
use Rattle.opening_faults.specs.Copies.{is_missing, is_doubled}
use Rattle.opening_faults.specs.declared.copies.Copies.{Copies}
use Rattle.opening_faults.specs.declared.least.Wanted.{Wanted}
use Rattle.opening_faults.specs.declared.least.Wanted.TheVariants.{Missing, Doubled}
use Rattle.opening_faults.specs.declared.splits.OpenSplit.{OpenSplit}

-- the least of them, or none where there are none
abbrev pub IsLeastOf : Option (List ℕ) → List (List ℕ) → Type 0
IsLeastOf least ids = MatchOption least ((id : List ℕ) → Contains ids id → ⊥)
    (λ id. Contains ids id × ((other : List ℕ) → Contains ids other → is_before other id ≡ false))

abbrev pub lesser : Option (List ℕ) → List ℕ → List ℕ
lesser None id = id
lesser (Some least) id = if is_before least id then least else id

abbrev pub is_wanted : Wanted → Option Copies → Bool
is_wanted Missing copies = is_missing copies
is_wanted Doubled copies = is_doubled copies

-- just the UUIDs of the splits that pass
pub record AreWanted (test : OpenSplit → Bool) (splits : List OpenSplit) (ids : List (List ℕ)) : Type 0 where
  pub sound : (id : List ℕ) → Contains ids id → IsUuid id × ((split : OpenSplit) × Contains splits split
      × (test split ≡ true) × (split.target ≡ uuid_text id))
  pub whole : (id : List ℕ) (split : OpenSplit) → IsUuid id → Contains splits split → test split ≡ true
      → split.target ≡ uuid_text id → Contains ids id

-- the UUID of this text is put behind the others, where it is looked for and is one
pub record IsPushed (wanted : Bool) (text : List ℕ) (old new : List (List ℕ)) : Type 0 where
  pub kept : (id : List ℕ) → Contains old id → Contains new id
  pub sound : (id : List ℕ) → Contains new id → Contains old id
      ⊎ (IsUuid id × (wanted ≡ true) × (text ≡ uuid_text id))
  pub whole : (id : List ℕ) → IsUuid id → wanted ≡ true → text ≡ uuid_text id → Contains new id
