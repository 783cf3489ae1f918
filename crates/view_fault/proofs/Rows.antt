-- The rows of faults, one more each time.
use Rattle.std.specs.Prelude.{◌≡◌, ℕ, ◌+◌, List, ◌++◌}
use Rattle.std.proofs.Common.{◌∙◌, ap, sym, add-one, append_assoc}
use Rattle.std.proofs.lemmas.List.{append-nil}
use Rattle.view_fault.specs.Pages.{row_text, rows_text}

-- none yet
pub no_row : (found : ℕ) (text : List ℕ) → text ≡ text ++ rows_text found 0
unfolding rows_text
no_row found text = sym (append-nil text)

-- one more
pub row_more : (found : ℕ) (start text new : List ℕ) (n : ℕ) → text ≡ start ++ rows_text found n
    → new ≡ text ++ row_text found n
    → new ≡ start ++ rows_text found (n + 1)
unfolding rows_text
row_more found start text new n so_far grown =
    rw add-one (grown ∙ ap (λ t. t ++ row_text found n) so_far
    ∙ append_assoc start (rows_text found n) (row_text found n))
