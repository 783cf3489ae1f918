-- The receipts that name a loan (HTML 5). Profile.
use Rattle.std.specs.Prelude.{ℕ, Bool, ◌||◌, List, [], ◌∷◌, ◌++◌, if◌then◌else◌, codes, decimal}
use Rattle.std.specs.Option.{option_map_or}
use Rattle.sheet_types.specs.Custody.{ends_at}
use Rattle.sheet_types.specs.declared.receipt.Moved.{Moved}
use Rattle.sheet_types.specs.declared.receipt.Receipt.{Receipt}
use Rattle.view_report.specs.Escaping.{escaped, moment_text}
use Rattle.view_report.specs.Pieces.{short_text, sums_text}
use Rattle.view_report.specs.Registers.{command_of}
use Rattle.view_report.specs.declared.registers.Register.{Register}
use Rattle.view_loan.specs.Pieces.{keeper_or, told_item, told_pair}

-- one thing that was moved: an item, or a link by its ends
abbrev pub told_moved : Register → Moved → List ℕ
told_moved r m = option_map_or (told_pair r m.base) m.other (told_item r m.base)

-- what a receipt moved: the thing where it is one, else how much
abbrev pub told_what : Register → Receipt → List Moved → List ℕ
told_what r x [] = sums_text x.tiles x.media x.rows x.links
told_what r x (m ∷ []) = told_moved r m
told_what r x (m ∷ n ∷ ms) = sums_text x.tiles x.media x.rows x.links

abbrev pub receipt_row : Register → Receipt → List ℕ
receipt_row r x =
    codes "<tr id=\"r" ++ (decimal x.seq ++ (codes "\"><th scope=\"row\" class=\"n\">" ++ (decimal x.seq
    ++ (codes "</th><td class=\"t\">" ++ (moment_text x.at ++ (codes "</td><td class=\"v\">" ++ (escaped (command_of x)
    ++ (codes "</td><td class=\"w\">" ++ (told_what r x x.items
    ++ (codes "</td><td>" ++ (keeper_or r x.source (codes "<span class=\"q\">new</span>")
    ++ (codes " &rarr; " ++ (keeper_or r x.target (codes "<span class=\"q\">gone</span>")
    ++ (codes "</td><td class=\"n\" data-l=\"bytes\">" ++ (decimal x.bytes
    ++ (codes "</td><td data-l=\"request\">" ++ (short_text x.request ++ codes "</td></tr>\n")))))))))))))))))

-- whether a receipt names a package
abbrev pub names_package : List ℕ → Receipt → Bool
names_package id x = ends_at x.source id || ends_at x.target id

abbrev pub receipt_if : Register → List ℕ → Receipt → List ℕ
receipt_if r id x = if names_package id x then receipt_row r x else []
