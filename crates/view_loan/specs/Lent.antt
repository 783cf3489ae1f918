-- What was lent, and who has it now (HTML 5). Profile.
use Rattle.std.specs.Prelude.{ℕ, List, [], ◌++◌, Option, codes, decimal}
use Rattle.std.specs.Option.{option_map_or}
use Rattle.sheet_types.specs.declared.receipt.Moved.{Moved}
use Rattle.view_report.specs.Holdings.{kind_word}
use Rattle.view_report.specs.Pieces.{about_text, digest_text, short_text}
use Rattle.view_report.specs.Registers.{thing_found}
use Rattle.view_report.specs.declared.registers.Register.{Register}
use Rattle.view_loan.specs.Pieces.{keeper_text, tie_found, told_pair}

-- who has an item, and who a link
abbrev pub item_keeper : Register → List ℕ → List ℕ
item_keeper r id =
    option_map_or (λ t. keeper_text r t.holder) (thing_found r.things id) (codes "<span class=\"q\">deleted</span>")

abbrev pub link_keeper : Register → List ℕ → List ℕ → List ℕ
link_keeper r base other =
    option_map_or (λ t. keeper_text r t.holder) (tie_found r.ties.items base other)
    (codes "<span class=\"q\">ended</span>")

-- an item in a few words, where a package holds it
abbrev pub also_told : Register → List ℕ → List ℕ
also_told r id = option_map_or (λ t. codes " " ++ about_text r.names t) (thing_found r.things id) []

abbrev pub fingerprint_text : Option (List ℕ) → List ℕ
fingerprint_text fingerprint = option_map_or digest_text fingerprint []

abbrev pub lent_item : Register → Moved → List ℕ
lent_item r m =
    codes "<tr><th scope=\"row\">" ++ (kind_word m.kind ++ (also_told r m.base
    ++ (codes "</th><td>" ++ (short_text m.base
    ++ (codes "</td><td class=\"n\" data-l=\"bytes\">" ++ (decimal m.size
    ++ (codes "</td><td>" ++ (fingerprint_text m.fingerprint
    ++ (codes "</td><td data-l=\"now with\">" ++ (item_keeper r m.base ++ codes "</td></tr>\n"))))))))))

abbrev pub lent_link : Register → Moved → List ℕ → List ℕ
lent_link r m other =
    codes "<tr><th scope=\"row\">" ++ (kind_word m.kind ++ (codes "</th><td colspan=\"3\">" ++ (told_pair r m.base other
    ++ (codes "</td><td data-l=\"now with\">" ++ (link_keeper r m.base other ++ codes "</td></tr>\n")))))

-- one thing that the loan's receipt names
abbrev pub lent_row : Register → Moved → List ℕ
lent_row r m = option_map_or (lent_link r m) m.other (lent_item r m)
