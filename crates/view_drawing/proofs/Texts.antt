-- A drawing grows by a zoom.
use Rattle.std.specs.Prelude.{◌≡◌, ℕ, ◌+◌, List, ◌++◌}
use Rattle.std.proofs.Common.{◌∙◌, ap, sym, add-one, append_assoc}
use Rattle.std.proofs.lemmas.List.{append-nil}
use Rattle.view_drawing.specs.Sheets.{level_if, levels_text}
use Rattle.view_report.specs.declared.registers.Register.{Register}

-- no zoom yet
pub no_level : (r : Register) (total : ℕ) (text : List ℕ) → text ≡ text ++ levels_text r total 0
unfolding levels_text
no_level r total text = sym (append-nil text)

-- one zoom more
pub level_more : (r : Register) (total : ℕ) (start text new : List ℕ) (n : ℕ)
    → text ≡ start ++ levels_text r total n
    → new ≡ text ++ level_if r total n → new ≡ start ++ levels_text r total (n + 1)
unfolding levels_text
level_more r total start text new n so_far grown =
    rw add-one (grown ∙ ap (λ t. t ++ level_if r total n) so_far ∙ append_assoc start (levels_text r total n)
    (level_if r total n))
