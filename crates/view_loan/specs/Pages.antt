-- The whole text of a custody page (HTML 5), and of which loan there is one. Profile.
use Rattle.std.specs.Prelude.{◌≡◌, ℕ, bytes_eq, List, [], ◌∷◌, ◌++◌, length, Option, Some, None}
use Rattle.std.specs.Prelude.{option_map, codes}
use Rattle.std.specs.Prelude.{decimal, filter, flat_map}
use Rattle.std.specs.Option.{option_and_then, option_map_or}
use Rattle.sheet_ledger.specs.Flows.{flow_by}
use Rattle.sheet_types.specs.Texts.{uuid_text}
use Rattle.sheet_types.specs.declared.receipt.Receipt.{Receipt}
use Rattle.view_report.specs.Accounts.{account_text}
use Rattle.view_report.specs.Drawing.{map_of}
use Rattle.view_report.specs.Holdings.{thing_if, tie_if}
use Rattle.view_report.specs.Ledgers.{ledger_digest}
use Rattle.view_report.specs.Patterns.{pattern_row}
use Rattle.view_report.specs.Pieces.{plain_name}
use Rattle.view_report.specs.Registers.{live_of, receipt_found}
use Rattle.view_report.specs.declared.style.TheConstants.{STYLE}
use Rattle.view_report.specs.declared.words.TheConstants.{HEAD, SHAPES}
use Rattle.view_report.specs.declared.registers.Live.{Live}
use Rattle.view_report.specs.declared.registers.Register.{Register}
use Rattle.view_loan.specs.Lent.{lent_row}
use Rattle.view_loan.specs.Receipts.{receipt_if}
use Rattle.view_loan.specs.Verdicts.{verdict_text}
use Rattle.view_loan.specs.declared.words.TheConstants.{ACCOUNT_HEAD, BODY, CHECK, DUE_HEAD, LEDGER_HEAD, LENT_HEAD}
use Rattle.view_loan.specs.declared.words.TheConstants.{NAVIGATION, SIGNATURES}

-- a live package that was lent, and its lender
abbrev pub loan_of : Register → List ℕ → Option (Live × List ℕ)
loan_of r id = option_and_then (λ p. option_map (λ lender. (p, lender)) p.parent) (live_of r.packages.items id)

abbrev pub head_text : Register → Live → List ℕ
head_text r p =
    HEAD.now ++ (codes "Custody of " ++ (plain_name r.names p.uuid ++ (STYLE.now ++ (BODY.now
    ++ (plain_name r.names p.uuid ++ (codes "</h1>\n<p class=\"lead\">Archive <code>" ++ (uuid_text r.archive
    ++ (codes "</code>, as of receipt " ++ (decimal (length r.receipts.items) ++ (codes ".</p>\n" ++ (NAVIGATION.now
    ++ (flat_map (λ q. pattern_row q.number) r.packages.items ++ SHAPES.now))))))))))))

-- what went out by its receipt, the receipts that name it, and what it holds now
abbrev pub lists_text : Register → Live → Receipt → List ℕ
lists_text r p x =
    LENT_HEAD.now ++ (flat_map (lent_row r) x.items ++ (LEDGER_HEAD.now
    ++ (flat_map (receipt_if r p.uuid) r.receipts.items
    ++ (DUE_HEAD.now ++ (flat_map (thing_if r p.uuid) r.things ++ flat_map (tie_if r p.uuid) r.ties.items)))))

-- its account, and places for signatures
abbrev pub account_section : Register → Live → List ℕ
account_section r p =
    ACCOUNT_HEAD.now ++ (account_text r p (flow_by r.receipts.items p.uuid) ++ SIGNATURES.now)

-- all but the map
abbrev pub told_text : Register → Live → List ℕ → Receipt → List ℕ
told_text r p lender x =
    head_text r p ++ (verdict_text r p lender x (ledger_digest r.receipts.items)
    ++ (lists_text r p x ++ account_section r p))

-- by the receipt that made the loan
abbrev pub told_if : Register → Live → List ℕ → List ℕ
told_if r p lender = option_map_or (told_text r p lender) (receipt_found r.receipts.items p.loan) []

-- A register has of another the things that one package holds.
pub record IsOwn (r : Register) (id : List ℕ) (own : Register) : Type 0 where
  pub frame : own.frame ≡ r.frame
  pub packages : own.packages.items ≡ r.packages.items
  pub names : own.names ≡ r.names
  pub things : own.things ≡ filter (λ t. bytes_eq t.holder id) r.things

-- a map of what the loan holds, and how to check the page
abbrev pub end_text : Register → Live → List ℕ
end_text own p = map_of own (p ∷ []) ++ CHECK.now

-- the whole text
abbrev pub loan_text : Register → Register → Live → List ℕ → List ℕ
loan_text r own p lender = told_if r p lender ++ end_text own p

-- A text is the custody page of a loan; there is none of what is no loan, or does not live.
abbrev pub TellsLoan : Register → List ℕ → Option (List ℕ) → Type 0
TellsLoan r id (Some text) =
    (p : Live) × (lender : List ℕ) × (own : Register) × (loan_of r id ≡ Some (p, lender)) × IsOwn r p.uuid own
    × (text ≡ loan_text r own p lender)
TellsLoan r id None = loan_of r id ≡ None
