-- Names of files in a folder of packages (profile).
use Rattle.std.specs.Prelude.{ℕ, ◌==◌, Bool, List, ◌++◌, codes, nat_eq, All, Contains}
use Rattle.std.specs.List.{slice_split, ends_with}
use Rattle.std.specs.List.Sorted.{IsStrictlySortedBy}
use Rattle.std.specs.Ordering.{nat_cmp}
use Rattle.std.specs.Cmp.Lexicographic.{slice_cmp}
use Rattle.sheet_types.specs.Lines.{IsUuid}
use Rattle.sheet_types.specs.Texts.{uuid_text}

abbrev pub extension : List ℕ
extension = codes ".gpkg"

-- the file of a package: its UUID in lower case (RFC 9562, section 4), and the extension
abbrev pub file_name : List ℕ → List ℕ
file_name uuid = uuid_text uuid ++ extension

-- the file of one that is not whole yet
abbrev pub unfinished_name : List ℕ → List ℕ
unfinished_name uuid = uuid_text uuid ++ codes ".gpkg-new"

-- the path of a file in a folder
abbrev pub path_text : List ℕ → List ℕ → List ℕ
path_text folder name = folder ++ (codes "/" ++ name)

-- a name with the extension, whatever stands before it
abbrev pub is_package_file : List ℕ → Bool
is_package_file name = ends_with nat_eq name extension

-- the names in a folder's bytes, each ended by a NUL; the part behind the last NUL counts as one
abbrev pub names_in : List ℕ → List (List ℕ)
names_in bytes = slice_split (λ byte. byte == 0) bytes

-- each of these packages has its file among the names, and each package that has one is there
pub record HaveFiles (names : List (List ℕ)) (packages : List (List ℕ)) : Type 0 where
  pub there : All (λ uuid. Contains names (file_name uuid)) packages
  pub all : (uuid : List ℕ) → IsUuid uuid → Contains names (file_name uuid) → Contains packages uuid

-- the same, in the order of their UUIDs, and none of them twice
pub record ArePackagesIn (names : List (List ℕ)) (packages : List (List ℕ)) : Type 0 where
  pub files : HaveFiles names packages
  pub rising : IsStrictlySortedBy (slice_cmp nat_cmp) packages
