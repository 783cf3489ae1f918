-- The patterns of holders (SVG 1.1). Profile.
use Rattle.std.specs.Prelude.{ℕ, List, [], ◌∷◌, ◌++◌, codes, decimal, slice_index_or}
use Rattle.view_report.specs.Pieces.{class_text, pattern_of}

-- lines on a square of 8 units: none, and seven that are told apart in grey
abbrev pub all_lines : List (List ℕ)
all_lines =
    [] ∷ codes "<path class=\"s\" d=\"M-2 2L2 -2M0 8L8 0M6 10L10 6\"/>"
    ∷ codes "<path class=\"d\" d=\"M1 1h2v2h-2zM5 5h2v2h-2z\"/>"
    ∷ codes "<path class=\"s\" d=\"M0 2h8M0 6h8\"/>" ∷ codes "<path class=\"s\" d=\"M0 4h8M4 0v8\"/>"
    ∷ codes "<path class=\"s\" d=\"M-2 6L2 10M0 0L8 8M6 -2L10 2\"/>"
    ∷ codes "<path class=\"s\" d=\"M2 0v8M6 0v8\"/>"
    ∷ []

abbrev pub lines_of : ℕ → List ℕ
lines_of pattern = slice_index_or all_lines pattern (codes "<path class=\"s\" d=\"M0 6L4 2L8 6\"/>")

abbrev pub pattern_row : ℕ → List ℕ
pattern_row n =
    codes "<pattern id=\"w" ++ (decimal n ++ (codes "\" class=\"" ++ (class_text n
    ++ (codes "\" width=\"8\" height=\"8\" patternUnits=\"userSpaceOnUse\"><path class=\"f\" d=\"M0 0h8v8H0z\"/>"
    ++ (lines_of (pattern_of n) ++ codes "</pattern>\n")))))
