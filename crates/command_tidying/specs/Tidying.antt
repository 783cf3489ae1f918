-- Which files are taken out of a folder that is made tidy, and what is told of them. Profile.
use Rattle.std.specs.Prelude.{◌≡◌, ◌⊎◌, ◌++◌, ℕ, true, All, List, [], ◌∷◌, map, Option, Some}
use Rattle.std.specs.Prelude.{None, Result, Ok, Err}
use Rattle.std.specs.Prelude.{String, string_bytes}
use Rattle.sheet_types.specs.Lines.{IsUuid}
use Rattle.opening_verdict.specs.declared.seen.StoreSeen.{StoreSeen}
use Rattle.opening_strays.specs.Spent.{is_spent}
use Rattle.store_folder.specs.Leftovers.{IsLeftoverIn}
use Rattle.store_folder.specs.Names.{file_name, names_in}
use Rattle.command_tidying.specs.declared.register.Register.{Register}
use Rattle.command_tidying.specs.declared.tidying.Tidied.{Tidied}

-- why a work ended, as it answers it
abbrev pub ended : {E : Type 0} → Option E → Result (Unit {0}) E
ended None = Ok tt
ended (Some fault) = Err fault

module _ {Y : Type 0} (Listed : List ℕ → Type 0) (Shown : List ℕ → StoreSeen → Type 0)
    (Removes : List ℕ → Y → Y → Type 0) where
  -- The file of a package that the register can do without, by what was seen of the store in it.
  abbrev pub IsSpentFile : Register → List ℕ → Type 0
  IsSpentFile register name =
      (uuid : List ℕ) × (seen : StoreSeen) × IsUuid uuid × Shown uuid seen
      × (is_spent uuid seen register.receipts.items register.live.items ≡ true)
      × (name ≡ file_name uuid)

  -- A file that stands beside no package, by the names that were in the folder.
  abbrev pub IsLeftoverFile : List ℕ → Type 0
  IsLeftoverFile name = (bytes : List ℕ) × Listed bytes × IsLeftoverIn (names_in bytes) name

  -- it may go
  abbrev pub MayGo : Register → List ℕ → Type 0
  MayGo register name = IsSpentFile register name ⊎ IsLeftoverFile name

  -- a file that may go was taken out
  abbrev pub TakesOne : Register → List ℕ → Y → Y → Type 0
  TakesOne register name old new = MayGo register name × Removes name old new

  -- So were the files of these names, the first one first, and nothing else was done between the two states.
  abbrev pub TakesOut : Register → List (List ℕ) → Y → Y → Type 0
  TakesOut register [] old new = new ≡ old
  TakesOut register (name ∷ names) old new =
      (mid : Y) × TakesOne register name old mid × TakesOut register names mid new

  -- After Ok these were taken out; after an error these, and perhaps one more that may go.
  abbrev pub TakesSome : {E : Type 0} → Register → List (List ℕ) → Y → Y → Result (Unit {0}) E → Type 0
  TakesSome register names old new (Ok x) = TakesOut register names old new
  TakesSome register names old new (Err fault) =
      TakesOut register names old new
      ⊎ ((name : List ℕ) × TakesOut register (names ++ name ∷ []) old new)

  -- Where the names that are noted were taken out since some state, those that are noted then are too.
  abbrev pub TakesOn : {Z E : Type 0} → Register → List (String Z) → List (String Z) → Y → Y
      → Result (Unit {0}) E
      → Type 0
  TakesOn register names names' old new r =
      (start : Y) → TakesOut register (map string_bytes names) start old
      → TakesSome register (map string_bytes names') start new r

  -- What was taken out, and why no more was.
  abbrev pub IsTidied : Register → Y → Y → Tidied → Type 0
  IsTidied register old new done =
      TakesSome register (map string_bytes done.names.items) old new (ended done.fault)

  -- these stand beside no package
  abbrev pub AreLeftovers : {Z : Type 0} → List (String Z) → Type 0
  AreLeftovers names = All (λ text. IsLeftoverFile (string_bytes text)) names
