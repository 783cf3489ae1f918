-- The whole text of a page (HTML 5). Profile.
use Rattle.std.specs.Prelude.{ℕ, List, [], ◌++◌, length, if◌then◌else◌, codes, decimal, flat_map}
use Rattle.std.specs.List.{list_any}
use Rattle.hex.specs.Hex.{encode_lower}
use Rattle.sheet_types.specs.Texts.{uuid_text}
use Rattle.view_report.specs.Accounts.{account_of}
use Rattle.view_report.specs.Drawing.{map_section}
use Rattle.view_report.specs.Holders.{home_if, is_merge, package_row}
use Rattle.view_report.specs.Holdings.{holding_text}
use Rattle.view_report.specs.Ledgers.{ledger_digest, raw_if, receipt_if}
use Rattle.view_report.specs.Patterns.{pattern_row}
use Rattle.view_report.specs.Pieces.{plain_name}
use Rattle.view_report.specs.declared.style.TheConstants.{STYLE}
use Rattle.view_report.specs.declared.words.TheConstants.{ACCOUNT_HEAD, BODY, CHECK, HEAD, HOLDERS_HEAD}
use Rattle.view_report.specs.declared.words.TheConstants.{HOLDINGS_HEAD, HOMES_HEAD, LEDGER_HEAD, NAVIGATION}
use Rattle.view_report.specs.declared.words.TheConstants.{RAW_HEAD, SHAPES, TABLE_END, VERDICT}
use Rattle.view_report.specs.declared.registers.Register.{Register}

abbrev pub title_text : Register → List ℕ
title_text r = plain_name r.names r.archive

abbrev pub head_text : Register → List ℕ
head_text r =
    HEAD.now ++ (title_text r ++ (STYLE.now ++ (BODY.now ++ (title_text r
    ++ (codes "</h1>\n<p class=\"lead\">Archive <code>"
    ++ (uuid_text r.archive ++ (codes "</code>, as of receipt "
    ++ (decimal (length r.receipts.items) ++ (codes ".</p>\n"
    ++ (NAVIGATION.now ++ (flat_map (λ p. pattern_row p.number) r.packages.items ++ SHAPES.now)))))))))))

-- with the digest of the ledger
abbrev pub verdict_section : Register → List ℕ → List ℕ
verdict_section r digest =
    VERDICT.now ++ (decimal (length r.receipts.items) ++ (codes "</li>\n<li><b>Live packages</b> "
    ++ (decimal (length r.packages.items)
    ++ (codes "</li>\n<li class=\"big\"><b>SHA-256 of the ledger</b> <code class=\"sha\">" ++ (encode_lower digest
    ++ codes "</code></li>\n</ul>\n</section>\n")))))

-- the loans that came home, where there are any
abbrev pub home_rows : Register → List ℕ
home_rows r = HOMES_HEAD.now ++ (flat_map (home_if r) r.receipts.items ++ TABLE_END.now)

abbrev pub home_table : Register → List ℕ
home_table r = if list_any is_merge r.receipts.items then home_rows r else []

abbrev pub holders_section : Register → List ℕ
holders_section r = HOLDERS_HEAD.now ++ (flat_map (package_row r) r.packages.items ++ (TABLE_END.now ++ home_table r))

abbrev pub holdings_section : Register → List ℕ
holdings_section r = HOLDINGS_HEAD.now ++ flat_map (holding_text r) r.packages.items

abbrev pub ledger_section : Register → List ℕ
ledger_section r =
    LEDGER_HEAD.now ++ (flat_map (receipt_if r) r.receipts.items
    ++ (RAW_HEAD.now ++ flat_map (raw_if r) r.receipts.items))

-- each package by what came to it and what left it
abbrev pub account_section : Register → List ℕ
account_section r =
    ACCOUNT_HEAD.now ++ (flat_map (account_of r) r.packages.items ++ CHECK.now)

-- The page of a register.
abbrev pub page_text : Register → List ℕ
page_text r =
    head_text r ++ (verdict_section r (ledger_digest r.receipts.items) ++ (holders_section r ++ (map_section r
    ++ (holdings_section r ++ (ledger_section r ++ account_section r)))))
