-- The ledger (HTML 5), the receipts as they are hashed, and their digest (FIPS 180-4, 6.2). Profile.
use Rattle.std.specs.Prelude.{ℕ, nat_le, List, [], ◌∷◌, ◌++◌, if◌then◌else◌, codes, decimal, flat_map}
use Rattle.std.specs.Option.{option_map_or}
use Rattle.sha2.specs.Sha256.{sha256}
use Rattle.sheet_types.specs.declared.receipt.Moved.{Moved}
use Rattle.sheet_types.specs.declared.receipt.Receipt.{Receipt}
use Rattle.desk_replies.specs.Bodies.{receipt_text as receipt_json}
use Rattle.view_report.specs.Escaping.{escaped, moment_text, raw_text}
use Rattle.view_report.specs.Holders.{end_text}
use Rattle.view_report.specs.Holdings.{pair_text}
use Rattle.view_report.specs.Pieces.{first_shown, receipt_text, short_text, sums_text, thing_text}
use Rattle.view_report.specs.Registers.{command_of}
use Rattle.view_report.specs.declared.registers.Register.{Register}

-- one thing that was moved: an item, or a link by its ends
abbrev pub moved_text : Register → Moved → List ℕ
moved_text r m = option_map_or (λ other. pair_text r m.base other) m.other (thing_text r m.base)

-- what a receipt moved: the thing where it is one, else how much
abbrev pub what_text : Register → Receipt → List Moved → List ℕ
what_text r x [] = sums_text x.tiles x.media x.rows x.links
what_text r x (m ∷ []) = moved_text r m
what_text r x (m ∷ n ∷ ms) = sums_text x.tiles x.media x.rows x.links

abbrev pub receipt_row : Register → Receipt → List ℕ
receipt_row r x =
    codes "<tr id=\"r" ++ (decimal x.seq ++ (codes "\"><th scope=\"row\" class=\"n\">" ++ (receipt_text r x.seq
    ++ (codes "</th><td class=\"t\">" ++ (moment_text x.at ++ (codes "</td><td class=\"v\">" ++ (escaped (command_of x)
    ++ (codes "</td><td class=\"w\">" ++ (what_text r x x.items
    ++ (codes "</td><td>" ++ (end_text r x.source (codes "<span class=\"q\">new</span>")
    ++ (codes " &rarr; " ++ (end_text r x.target (codes "<span class=\"q\">gone</span>")
    ++ (codes "</td><td class=\"n\" data-l=\"bytes\">" ++ (decimal x.bytes
    ++ (codes "</td><td data-l=\"request\">" ++ (short_text x.request ++ codes "</td></tr>\n")))))))))))))))))

-- where it is shown
abbrev pub receipt_if : Register → Receipt → List ℕ
receipt_if r x = if nat_le x.seq (first_shown r) then [] else receipt_row r x

-- a receipt as it is hashed: its JSON, and LF
abbrev pub hashed_line : Receipt → List ℕ
hashed_line x = receipt_json x ++ (10 ∷ [])

-- and as the page has it
abbrev pub raw_line : Receipt → List ℕ
raw_line x = raw_text (receipt_json x) ++ codes "\n"

abbrev pub raw_if : Register → Receipt → List ℕ
raw_if r x = if nat_le x.seq (first_shown r) then [] else raw_line x

-- the SHA-256 of the ledger
abbrev pub ledger_digest : List Receipt → List ℕ
ledger_digest receipts = sha256 (flat_map hashed_line receipts)
