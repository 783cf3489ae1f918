-- A report grows by a line for each reply.
use Rattle.std.proofs.Common.{◌≡◌, ◌∙◌, ◌+◌, ◌++◌, [], ◌∷◌, ℕ, List, Result, length, drop}
use Rattle.std.proofs.Common.{append_assoc, append-nil}
use Rattle.std.proofs.Common.{ap, sym, subst, arith}
use Rattle.manifest_csv.specs.Reports.{report_line, report_lines}
use Rattle.sheet_types.specs.declared.receipt.Receipt.{Receipt}
use Rattle.sheet_types.specs.declared.refusal.Refusal.{Refusal}
use Rattle.sheet_types.specs.declared.command.Request.{Request}

-- the next line is that of the first request without a reply
pub lines_more : (n : ℕ) (requests : List Request) (replies : List (Result Receipt Refusal)) (request : Request)
    (rest : List Request) (reply : Result Receipt Refusal)
    → drop (length replies) requests ≡ request ∷ rest
    → report_lines n requests (replies ++ reply ∷ []) ≡ report_lines n requests replies
    ++ report_line (n + length replies) request.id reply
unfolding report_lines
lines_more n requests [] request rest reply h =
    let zero_more : n ≡ n + 0 = omega arith in
    subst (λ l. report_lines n l (reply ∷ []) ≡ report_line (n + 0) request.id reply) (sym h)
    (append-nil (report_line n request.id reply) ∙ ap (λ k. report_line k request.id reply) zero_more)
lines_more n [] (x ∷ xs) request rest reply h = absurd (let long : 0 ≡ length (request ∷ rest) =
    ap length h in omega arith)
lines_more n (d ∷ ds) (x ∷ xs) request rest reply h =
    let later : n + 1 + length xs ≡ n + length (x ∷ xs) = omega arith in
    ap (λ l. report_line n d.id x ++ l) (lines_more (n + 1) ds xs request rest reply h)
    ∙ sym (append_assoc (report_line n d.id x) (report_lines (n + 1) ds xs)
    (report_line (n + 1 + length xs) request.id reply))
    ∙ ap (λ k. (report_line n d.id x ++ report_lines (n + 1) ds xs) ++ report_line k request.id reply) later
