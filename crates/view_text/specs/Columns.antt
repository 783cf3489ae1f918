-- Columns of fixed widths, for a terminal. A text that is wider than its column moves what stands behind it. Profile.
use Rattle.std.specs.Prelude.{ℕ, ◌-◌, List, ◌++◌, codes, length, replicate, Option}
use Rattle.std.specs.Option.{option_map_or}
use Rattle.sheet_types.specs.Texts.{uuid_text}

abbrev pub spaces : ℕ → List ℕ
spaces n = replicate n 32

-- between two columns
abbrev pub gap : List ℕ
gap = codes "  "

-- a text at the left of a column of this width, and the gap behind the column
abbrev pub at_left : ℕ → List ℕ → List ℕ
at_left width text = text ++ (spaces (width - length text) ++ gap)

-- the same at the right
abbrev pub at_right : ℕ → List ℕ → List ℕ
at_right width text = spaces (width - length text) ++ (text ++ gap)

-- the text of a package that may be none
abbrev pub end_text : Option (List ℕ) → List ℕ
end_text id = option_map_or uuid_text id (codes "-")
