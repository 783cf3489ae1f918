-- Which names of a folder stand beside no package (profile).
use Rattle.std.specs.Prelude.{◌≡◌, ◌≢◌, ◌⊎◌, ◌++◌, ℕ, true, List, [], ◌∷◌, bytes_eq, codes}
use Rattle.std.specs.Prelude.{Contains, String, string_bytes}
use Rattle.std.specs.List.{list_any}
use Rattle.std.specs.Str.{IsUtf8}
use Rattle.sheet_types.specs.Lines.{IsUuid}
use Rattle.store_folder.specs.Names.{file_name}

-- how the names end of what is kept beside the file of a package: its log, its journal, and what is not whole yet, with
-- its own
abbrev pub endings : List (List ℕ)
endings =
    codes "-wal" ∷ codes "-shm" ∷ codes "-journal" ∷ codes "-new" ∷ codes "-new-wal"
    ∷ codes "-new-journal" ∷ []

-- a file of this name is kept beside that of the package
abbrev pub IsBeside : List ℕ → List ℕ → Type 0
IsBeside uuid name =
    (end : List ℕ) × (list_any (λ other. bytes_eq other end) endings ≡ true) × (name ≡ file_name uuid ++ end)

-- no name of another package's file begins this name
abbrev pub IsOnly : List ℕ → List ℕ → Type 0
IsOnly name uuid = (other rest : List ℕ) → IsUuid other → name ≡ file_name other ++ rest → uuid ≡ other

-- it is no name of a package's file with this end behind
abbrev pub IsNoneWith : List ℕ → List ℕ → Type 0
IsNoneWith name end = (other : List ℕ) → IsUuid other → name ≢ file_name other ++ end

-- it is kept beside the file of a package, and of none of these
pub record IsLeftover (packages : List (List ℕ)) (name : List ℕ) : Type 0 where
  pub uuid : List ℕ
  pub beside : IsBeside uuid name
  pub alone : (other : List ℕ) → IsUuid other → IsBeside other name → Contains packages other → ⊥

-- it is one of these names, kept beside the file of a package, and beside no file that is one of them
pub record IsLeftoverIn (names : List (List ℕ)) (name : List ℕ) : Type 0 where
  pub there : Contains names name
  pub uuid : List ℕ
  pub beside : IsBeside uuid name
  pub alone : (other : List ℕ) → IsUuid other → IsBeside other name → Contains names (file_name other) → ⊥

-- It is a text, and kept beside the file of a package that is none of these. Who tells leftovers tells it.
pub record IsToldOf (packages : List (List ℕ)) (name : List ℕ) : Type 0 where
  pub uuid : List ℕ
  pub fit : IsUuid uuid
  pub beside : IsBeside uuid name
  pub alone : Contains packages uuid → ⊥
  pub text : IsUtf8 name

-- the same, of one of these names, where the package's file is none of them
pub record IsToldIn (names : List (List ℕ)) (name : List ℕ) : Type 0 where
  pub there : Contains names name
  pub uuid : List ℕ
  pub fit : IsUuid uuid
  pub beside : IsBeside uuid name
  pub alone : Contains names (file_name uuid) → ⊥
  pub text : IsUtf8 name

-- one of the texts is this name
abbrev pub Tells : {Z : Type 0} → List (String Z) → List ℕ → Type 0
Tells {Z} texts name = (text : String Z) × Contains texts text × (string_bytes text ≡ name)

-- one text more, of this name; or none, where it is no text
abbrev pub MayPush : {Z : Type 0} → List ℕ → List (String Z) → List (String Z) → Type 0
MayPush {Z} name old new =
    ((IsUtf8 name → ⊥) × (new ≡ old))
    ⊎ ((text : String Z) × (new ≡ old ++ text ∷ []) × (string_bytes text ≡ name))
