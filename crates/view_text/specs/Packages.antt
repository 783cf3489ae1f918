-- The table of packages: a line of headings, and a line for each. UUIDs as in RFC 9562, section 4. Profile.
use Rattle.std.specs.Prelude.{ℕ, zero, suc, List, [], ◌++◌, codes, decimal, flat_map, Option, unwrap_or}
use Rattle.sheet_types.specs.Texts.{uuid_text}
use Rattle.sheet_types.specs.declared.receipt.Sums.{Sums}
use Rattle.view_text.specs.Columns.{at_left, at_right, end_text}
use Rattle.view_text.specs.declared.packages.PackageRow.{PackageRow}

-- a moment that may be none
abbrev pub moment_text : Option (List ℕ) → List ℕ
moment_text at = unwrap_or at (codes "-")

abbrev pub sums_headings : List ℕ
sums_headings = at_right 7 (codes "tiles") ++ (at_right 7 (codes "media")
    ++ (at_right 7 (codes "rows") ++ (at_right 7 (codes "links") ++ at_right 13 (codes "bytes"))))

abbrev pub headings : List ℕ
headings = at_left 36 (codes "package") ++ (at_left 36 (codes "parent")
    ++ (at_right 5 (codes "depth") ++ (at_right 10 (codes "loan") ++ (sums_headings ++ codes "last change\n"))))

abbrev pub sums_columns : Sums → List ℕ
sums_columns s = at_right 7 (decimal s.tiles) ++ (at_right 7 (decimal s.media)
    ++ (at_right 7 (decimal s.rows) ++ (at_right 7 (decimal s.links) ++ at_right 13 (decimal s.bytes))))

abbrev pub status_line : PackageRow → List ℕ
status_line p = at_left 36 (uuid_text p.uuid) ++ (at_left 36 (end_text p.parent)
    ++ (at_right 5 (decimal p.depth) ++ (at_right 10 (decimal p.loan)
    ++ (sums_columns p.sums ++ (moment_text p.changed ++ codes "\n")))))

abbrev pub status_of : List PackageRow → List ℕ
status_of rows = headings ++ flat_map status_line rows

-- the last line, where there are files that are of no live package: how many
abbrev pub strays_line : ℕ → List ℕ
strays_line zero = []
strays_line (suc n) = codes "strays " ++ (decimal (suc n) ++ codes "\n")
