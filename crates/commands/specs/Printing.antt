-- The line of an archive. Profile.
use Rattle.std.specs.Prelude.{◌++◌, ℕ, List, codes}
use Rattle.sheet_types.specs.Texts.{uuid_text}

abbrev pub archive_line : List ℕ → List ℕ
archive_line uuid = codes "archive " ++ (uuid_text uuid ++ codes "\n")
