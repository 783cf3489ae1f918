-- Who holds what: the rows of live packages, and of loans that came home (HTML 5). Profile.
use Rattle.std.specs.Prelude.{ℕ, Bool, bytes_eq, List, [], ◌++◌, Option, Some, None, if◌then◌else◌, codes}
use Rattle.std.specs.Prelude.{decimal}
use Rattle.std.specs.Option.{option_map_or}
use Rattle.sheet_types.specs.Texts.{uuid_text}
use Rattle.sheet_types.specs.declared.receipt.Receipt.{Receipt}
use Rattle.sheet_types.specs.declared.receipt.Sums.{Sums}
use Rattle.view_report.specs.Escaping.{moment_text}
use Rattle.view_report.specs.Pieces.{called, holder_text, receipt_text, short_text, sums_text, swatch_text}
use Rattle.view_report.specs.Registers.{command_of, receipt_found}
use Rattle.view_report.specs.declared.registers.Live.{Live}
use Rattle.view_report.specs.declared.registers.Name.{Name}
use Rattle.view_report.specs.declared.registers.Register.{Register}

-- what people call a package, if they do, and its UUID
abbrev pub full_name : List Name → List ℕ → List ℕ
full_name names id = called names id ++ short_text id

abbrev pub cell_text : List ℕ → ℕ → List ℕ
cell_text word n = codes "<td class=\"n\" data-l=\"" ++ (word ++ (codes "\">" ++ (decimal n ++ codes "</td>")))

-- what is held
abbrev pub sum_cells : Sums → List ℕ
sum_cells s =
    cell_text (codes "sheets") s.tiles ++ (cell_text (codes "media") s.media ++ (cell_text (codes "marks") s.rows
    ++ (cell_text (codes "links") s.links ++ cell_text (codes "bytes") s.bytes)))

-- the moment of a receipt and its number
abbrev pub dated_text : Register → Receipt → ℕ → List ℕ
dated_text r x seq = moment_text x.at ++ (codes " &middot; " ++ receipt_text r seq)

abbrev pub when_text : Register → ℕ → List ℕ
when_text r seq = option_map_or (λ x. dated_text r x seq) (receipt_found r.receipts.items seq) (codes "&ndash;")

-- an end of a receipt, or a word where it has none
abbrev pub end_text : Register → Option (List ℕ) → List ℕ → List ℕ
end_text r end none = option_map_or (holder_text r) end none

abbrev pub lent_text : Register → Live → List ℕ
lent_text r p =
    codes "<td data-l=\"lent by\">" ++ (end_text r p.parent (codes "&ndash;")
    ++ (codes "</td><td class=\"t\" data-l=\"lent since\">" ++ (when_text r p.loan
    ++ (codes "</td><td class=\"t\" data-l=\"last change\">" ++ (when_text r p.ticket ++ codes "</td></tr>\n")))))

abbrev pub package_row : Register → Live → List ℕ
package_row r p =
    codes "<tr id=\"p-" ++ (uuid_text p.uuid ++ (codes "\"><th scope=\"row\">" ++ (swatch_text p.number
    ++ (codes "<a href=\"#d-" ++ (uuid_text p.uuid ++ (codes "\">" ++ (full_name r.names p.uuid ++ (codes "</a></th>"
    ++ (sum_cells p.sums ++ lent_text r p)))))))))

-- ---- loans that came home

abbrev pub is_merge : Receipt → Bool
is_merge x = bytes_eq (command_of x) (codes "merge")

abbrev pub home_row : Register → Receipt → List ℕ → List ℕ
home_row r x child =
    codes "<tr id=\"p-" ++ (uuid_text child ++ (codes "\"><th scope=\"row\">" ++ (full_name r.names child
    ++ (codes "</th><td data-l=\"home to\">" ++ (end_text r x.target (codes "&ndash;")
    ++ (codes "</td><td class=\"t\" data-l=\"home\">" ++ (dated_text r x x.seq
    ++ (codes "</td><td data-l=\"with\">" ++ (sums_text x.tiles x.media x.rows x.links ++ codes "</td></tr>\n")))))))))

abbrev pub home_of : Register → Receipt → List ℕ → List ℕ
home_of r x child = if is_merge x then home_row r x child else []

abbrev pub home_if : Register → Receipt → List ℕ
home_if r x = option_map_or (home_of r x) x.source []
