-- The legend (SVG). Profile.
use Rattle.std.specs.Prelude.{ℕ, nat_lt, List, ◌++◌, codes, count_by, decimal}
use Rattle.view_report.specs.Levels.{times}
use Rattle.view_report.specs.Pieces.{class_text, pattern_of, plain_name, word_of}
use Rattle.view_report.specs.declared.registers.Live.{Live}
use Rattle.view_report.specs.declared.registers.Register.{Register}

-- how many live packages were lent before a receipt
abbrev pub rank_of : List Live → ℕ → ℕ
rank_of packages loan = count_by (λ p. nat_lt p.loan loan) packages

-- colour, pattern and shape of a holder, below so many other rows
abbrev pub row_begin : ℕ → ℕ → List ℕ
row_begin rank n =
    codes "<g transform=\"translate(0 " ++ (decimal (times 26 rank) ++ (codes ")\"><rect class=\"" ++ (class_text n
    ++ (codes "\" width=\"28\" height=\"14\" fill=\"url(#w"
    ++ (decimal n ++ (codes ")\"/><use class=\"" ++ (class_text n
    ++ (codes "\" x=\"44\" y=\"7\" href=\"#k"
    ++ (decimal (pattern_of n) ++ codes "\"/><text x=\"60\" y=\"12\">")))))))))

abbrev pub amounts_text : ℕ → ℕ → List ℕ
amounts_text sheets marks =
    codes ": " ++ (decimal sheets ++ (word_of sheets (codes " sheet, ") (codes " sheets, ")
    ++ (decimal marks ++ word_of marks (codes " mark") (codes " marks"))))

-- who holds how much
abbrev pub row_end : Register → Live → List ℕ
row_end r p = plain_name r.names p.uuid ++ (amounts_text p.sums.tiles p.sums.rows ++ codes "</text></g>\n")

unfoldable pub holder_row : Register → Live → List ℕ
holder_row r p = row_begin (rank_of r.packages.items p.loan) p.number ++ row_end r p
