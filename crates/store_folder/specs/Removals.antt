-- Which files a call takes out of a folder (profile).
use Rattle.std.specs.Prelude.{◌≡◌, ◌⊎◌, ◌<◌, ℕ, List, [], ◌∷◌, length, IsTrue, nat_eq, Contains}
use Rattle.std.specs.List.{starts_with, AllByRecursion}

-- it begins with this name, and is longer
abbrev pub IsFrom : List ℕ → List ℕ → Type 0
IsFrom file name = IsTrue (starts_with nat_eq name file) × (length file < length name)

-- of the names of a folder, those that begin with this name and are longer: each of them and no other
pub record AreBeside (folder : List (List ℕ)) (file : List ℕ) (names : List (List ℕ)) : Type 0 where
  pub from : AllByRecursion (IsFrom file) names
  pub there : AllByRecursion (Contains folder) names
  pub all : (name : List ℕ) → Contains folder name → IsFrom file name → Contains names name

module _ {S : Type 0} (Removes : List ℕ → S → S → Type 0) where
  -- the files of these names were taken out, the last one first in the list, and nothing else was done between the
  -- two states
  abbrev pub RemovesEach : List (List ℕ) → S → S → Type 0
  RemovesEach [] old new = new ≡ old
  RemovesEach (name ∷ names) old new = (mid : S) × RemovesEach names old mid × Removes name mid new

  -- files were taken out whose names begin with this one and are longer, and nothing else was done
  abbrev pub RemovesBeside : List ℕ → S → S → Type 0
  RemovesBeside file old new =
      (names : List (List ℕ)) × AllByRecursion (IsFrom file) names × RemovesEach names old new

  -- the files of all such names of a folder were taken out, and nothing else was done
  abbrev pub RemovesAllBeside : List (List ℕ) → List ℕ → S → S → Type 0
  RemovesAllBeside folder file old new =
      (names : List (List ℕ)) × AreBeside folder file names × RemovesEach names old new

  -- the file of this name was taken out if it is such a name, and else nothing was done
  abbrev pub RemovesIfBeside : List ℕ → List ℕ → S → S → Type 0
  RemovesIfBeside name file old new =
      ((IsFrom file name → ⊥) × (new ≡ old)) ⊎ (IsFrom file name × Removes name old new)

  -- first the file of this name, and then such files
  abbrev pub RemovesWithBeside : List ℕ → S → S → Type 0
  RemovesWithBeside file old new = (mid : S) × Removes file old mid × RemovesBeside file mid new

  -- first the file of this name, and then all such files of a folder
  abbrev pub RemovesWithAllBeside : List (List ℕ) → List ℕ → S → S → Type 0
  RemovesWithAllBeside folder file old new =
      (mid : S) × Removes file old mid × RemovesAllBeside folder file mid new
