-- What a loan is: who lent it, when, by which request, and what it waits for (HTML 5). Profile.
use Rattle.std.specs.Prelude.{ℕ, Bool, List, [], ◌++◌, if◌then◌else◌, codes, flat_map}
use Rattle.std.specs.List.{list_any}
use Rattle.hex.specs.Hex.{encode_lower}
use Rattle.sheet_types.specs.Custody.{ends_at}
use Rattle.sheet_types.specs.declared.receipt.Receipt.{Receipt}
use Rattle.view_report.specs.Escaping.{escaped}
use Rattle.view_report.specs.Holders.{when_text}
use Rattle.view_report.specs.Pieces.{sums_text}
use Rattle.view_report.specs.declared.registers.Live.{Live}
use Rattle.view_report.specs.declared.registers.Register.{Register}
use Rattle.view_loan.specs.Pieces.{keeper_text, whole_name}
use Rattle.view_loan.specs.declared.words.TheConstants.{VERDICT}

-- whether a package is a loan of this one
abbrev pub is_below : List ℕ → Live → Bool
is_below id p = ends_at p.parent id

abbrev pub own_loan : Register → Live → List ℕ
own_loan r p = codes "<span class=\"a\">" ++ (keeper_text r p.uuid ++ codes "</span>")

abbrev pub own_loan_if : Register → List ℕ → Live → List ℕ
own_loan_if r id p = if is_below id p then own_loan r p else []

abbrev pub own_rows : Register → List ℕ → List ℕ
own_rows r id =
    codes "<li><b>Comes home after its own loans</b> " ++ (flat_map (own_loan_if r id) r.packages.items
    ++ codes "</li>\n")

-- its own loans, where it has any
abbrev pub own_loans : Register → List ℕ → List ℕ
own_loans r id = if list_any (is_below id) r.packages.items then own_rows r id else []

-- who lent it, and when
abbrev pub lending_text : Register → Live → List ℕ → List ℕ
lending_text r p lender =
    whole_name r.names p.uuid ++ (codes "</li>\n<li class=\"big\"><b>Lender</b> " ++ (whole_name r.names lender
    ++ (codes "</li>\n<li><b>Lent</b> " ++ (when_text r p.loan
    ++ (codes "</li>\n<li><b>Last change</b> " ++ (when_text r p.ticket ++ codes "</li>\n"))))))

-- how much went out, and how much comes home
abbrev pub amounts_text : Live → Receipt → List ℕ
amounts_text p x =
    codes "<li><b>Went out</b> " ++ (sums_text x.tiles x.media x.rows x.links
    ++ (codes "</li>\n<li><b>Due home</b> " ++ (sums_text p.sums.tiles p.sums.media p.sums.rows p.sums.links
    ++ codes "</li>\n")))

-- by which request, and the digest of the ledger
abbrev pub request_text : Receipt → List ℕ → List ℕ
request_text x digest =
    codes "<li class=\"big\"><b>Request</b> <code class=\"line\">" ++ (escaped x.line
    ++ (codes "</code></li>\n<li class=\"big\"><b>SHA-256 of the ledger</b> <code class=\"sha\">"
    ++ (encode_lower digest
    ++ codes "</code></li>\n</ul>\n</section>\n")))

abbrev pub verdict_text : Register → Live → List ℕ → Receipt → List ℕ → List ℕ
verdict_text r p lender x digest =
    VERDICT.now ++ (lending_text r p lender ++ (amounts_text p x ++ (own_loans r p.uuid ++ request_text x digest)))
