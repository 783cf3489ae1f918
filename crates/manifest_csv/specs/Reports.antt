-- The report of an import: one line for each request, after a header line. Profile.
use Rattle.std.specs.Prelude.{ℕ, ◌+◌, List, [], ◌∷◌, ◌++◌, Result, Ok, Err, codes, decimal}
use Rattle.sheet_types.specs.Refusals.{refusal_number}
use Rattle.sheet_types.specs.Texts.{uuid_text}
use Rattle.sheet_types.specs.declared.receipt.Receipt.{Receipt}
use Rattle.sheet_types.specs.declared.refusal.Refusal.{Refusal}
use Rattle.sheet_types.specs.declared.command.Request.{Request}

abbrev pub report_header : List ℕ
report_header = codes "line,request,seq,refusal\n"

-- the number of the receipt, 0 for a refusal
abbrev pub seq_of : Result Receipt Refusal → ℕ
seq_of (Ok receipt) = receipt.seq
seq_of (Err refusal) = 0

-- the number of the refusal, 0 for a receipt
abbrev pub refusal_of : Result Receipt Refusal → ℕ
refusal_of (Ok receipt) = 0
refusal_of (Err refusal) = refusal_number refusal

-- the line of the n-th request, by its identity and its reply
abbrev pub report_line : ℕ → List ℕ → Result Receipt Refusal → List ℕ
report_line n id reply = decimal n ++ (codes "," ++ (uuid_text id
    ++ (codes "," ++ (decimal (seq_of reply) ++ (codes "," ++ (decimal (refusal_of reply) ++ codes "\n"))))))

-- the lines of the requests that have a reply, numbered from n
unfoldable pub report_lines : ℕ → List Request → List (Result Receipt Refusal) → List ℕ
report_lines n requests [] = []
report_lines n [] (reply ∷ replies) = []
report_lines n (request ∷ requests) (reply ∷ replies) = report_line n request.id reply
    ++ report_lines (n + 1) requests replies

-- the report of a list of requests, as far as they have a reply
abbrev pub report_of : List Request → List (Result Receipt Refusal) → List ℕ
report_of requests replies = report_header ++ report_lines 1 requests replies
