-- Loans that are not at home. Profile.
use Rattle.std.specs.Prelude.{◌≡◌, ◌⊎◌, ℕ, true, List, Contains}
use Rattle.opening_faults.specs.Sights.{is_loan_of, uuid_seen, IsApart}
use Rattle.opening_faults.specs.Splits.{claim_made}
use Rattle.opening_faults.specs.declared.splits.OpenSplit.{OpenSplit}
use Rattle.opening_faults.specs.declared.sights.Sight.{Sight}

-- the store of this UUID is the loan of the split, and is not at home
abbrev pub IsForeignOf : Sight → OpenSplit → Sight → List ℕ → Type 0
IsForeignOf root split loan id = (is_loan_of (claim_made split) loan ≡ true) × IsApart root split.above loan
    × (uuid_seen loan ≡ id)

-- a store among these
abbrev pub IsForeignIn : Sight → List Sight → OpenSplit → List ℕ → Type 0
IsForeignIn root stores split id = (loan : Sight) × Contains stores loan × IsForeignOf root split loan id

-- a split among these
abbrev pub IsForeign : Sight → List Sight → List OpenSplit → List ℕ → Type 0
IsForeign root stores splits id = (split : OpenSplit) × Contains splits split × IsForeignIn root stores split id

-- just what meets P is put to the others
pub record Adds (P : List ℕ → Type 0) (old new : List (List ℕ)) : Type 0 where
  pub kept : (id : List ℕ) → Contains old id → Contains new id
  pub sound : (id : List ℕ) → Contains new id → Contains old id ⊎ P id
  pub whole : (id : List ℕ) → P id → Contains new id
