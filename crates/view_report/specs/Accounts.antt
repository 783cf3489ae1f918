-- The account of a package: what came in less what went out is what is held (HTML 5). Profile.
use Rattle.std.specs.Prelude.{ℕ, List, ◌++◌, codes, decimal}
use Rattle.sheet_ledger.specs.Flows.{flow_by}
use Rattle.sheet_ledger.specs.declared.flows.Flow.{Flow}
use Rattle.sheet_ledger.specs.declared.flows.Totals.{Totals}
use Rattle.sheet_types.specs.declared.receipt.Sums.{Sums}
use Rattle.view_report.specs.Holders.{sum_cells}
use Rattle.view_report.specs.Pieces.{name_text, swatch_text}
use Rattle.view_report.specs.declared.registers.Live.{Live}
use Rattle.view_report.specs.declared.registers.Register.{Register}

abbrev pub total_cell : ℕ → List ℕ
total_cell n = codes "<td class=\"n\">" ++ (decimal n ++ codes "</td>")

abbrev pub totals_row : List ℕ → Totals → List ℕ
totals_row word t =
    codes "<tr><th scope=\"row\">" ++ (word ++ (codes "</th>"
    ++ (total_cell t.tiles ++ (total_cell t.media ++ (total_cell t.rows
    ++ (total_cell t.links ++ (total_cell t.bytes ++ codes "</tr>\n")))))))

abbrev pub held_row : Sums → List ℕ
held_row s = codes "<tr class=\"sum\"><th scope=\"row\">held</th>" ++ (sum_cells s ++ codes "</tr>\n</tbody>\n")

-- by what came to the package and what left it
abbrev pub account_text : Register → Live → Flow → List ℕ
account_text r p flow =
    codes "<tbody>\n<tr class=\"name\"><th scope=\"rowgroup\" colspan=\"6\">" ++ (swatch_text p.number
    ++ (codes "<b>" ++ (name_text r.names p.uuid ++ (codes "</b></th></tr>\n"
    ++ (totals_row (codes "came in") flow.came ++ (totals_row (codes "went out") flow.left ++ held_row p.sums))))))

-- the same by the receipts
abbrev pub account_of : Register → Live → List ℕ
account_of r p = account_text r p (flow_by r.receipts.items p.uuid)
