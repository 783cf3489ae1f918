-- Which package a word names among those that live. Profile, over RFC 9562 (UUIDs).
use Rattle.std.specs.Prelude.{ℕ, Bool, true, false, ◌==◌, ◌&&◌, List, [], ◌∷◌, length, filter}
use Rattle.std.specs.Prelude.{is_none, nat_lt}
use Rattle.std.specs.Prelude.{Option, Some, None, Result, Ok, Err, if◌then◌else◌}
use Rattle.std.specs.Char.{to_ascii_lowercase}
use Rattle.sheet_types.specs.Answers.{PackageSight}
use Rattle.sheet_types.specs.Texts.{uuid_text}
use Rattle.command_verbs.specs.declared.names.NameFault.{NameFault}
use Rattle.command_verbs.specs.declared.names.NameFault.TheVariants.{Short, Unknown, Two}
use Rattle.command_verbs.specs.declared.names.PackageEntry.{PackageEntry}

-- in the words of the model
abbrev pub sight : PackageEntry → PackageSight
sight e = record { uuid = e.uuid; parent = e.parent; depth = e.depth; ticket = e.ticket }

-- a text begins with these bytes, whose capitals count as small letters
abbrev pub begins : List ℕ → List ℕ → Bool
begins [] text = true
begins (digit ∷ digits) [] = false
begins (digit ∷ digits) (byte ∷ bytes) = (to_ascii_lowercase digit == byte) && begins digits bytes

-- a word may name a package by the text of its UUID
abbrev pub has_name : List ℕ → PackageSight → Bool
has_name word p = begins word (uuid_text p.uuid)

-- the only one of some
abbrev pub of_those : List PackageSight → Result PackageSight NameFault
of_those [] = Err Unknown
of_those (p ∷ []) = Ok p
of_those (p ∷ other ∷ more) = Err (Two p.uuid other.uuid)

-- the one package that a word names
abbrev pub the_one : List PackageSight → List ℕ → Result PackageSight NameFault
the_one sights word = if nat_lt (length word) 4 then Err Short else of_those (filter (has_name word) sights)

-- the package that is no loan
abbrev pub archive_of : List PackageSight → Result PackageSight NameFault
archive_of [] = Err Unknown
archive_of (p ∷ more) = if is_none p.parent then Ok p else archive_of more

-- the package that is named, or else the archive
abbrev pub giver_of : List PackageSight → Option (List ℕ) → Result PackageSight NameFault
giver_of sights (Some word) = the_one sights word
giver_of sights None = archive_of sights
