-- Texts that grow at their end: by a piece, by the text of a thing, by a zoom.
use Rattle.std.specs.Prelude.{◌≡◌, ℕ, ◌+◌, ◌<◌, List, [], ◌∷◌, ◌++◌, flat_map, length}
use Rattle.std.proofs.Common.{◌∙◌, ap, sym, add-one, append_assoc, get_or, take}
use Rattle.std.proofs.lemmas.List.{append-nil, flat_map_more, take_more}
use Rattle.view_report.specs.Drawing.{level_if, levels_text}
use Rattle.view_report.specs.declared.registers.Register.{Register}

-- no zoom yet
pub no_level : (r : Register) (total : ℕ) (text : List ℕ) → text ≡ text ++ levels_text r total 0
unfolding levels_text
no_level r total text = sym (append-nil text)

-- one zoom more
pub level_more : (r : Register) (total : ℕ) (start text new : List ℕ) (n : ℕ)
    → text ≡ start ++ levels_text r total n
    → new ≡ text ++ level_if r total n → new ≡ start ++ levels_text r total (n + 1)
unfolding levels_text
level_more r total start text new n so_far grown =
    rw add-one (grown ∙ ap (λ t. t ++ level_if r total n) so_far
    ∙ append_assoc start (levels_text r total n) (level_if r total n))

-- a piece, and what comes behind it
pub onward : (start : List ℕ) {text new : List ℕ} (piece rest : List ℕ) → text ≡ start ++ piece
    → new ≡ text ++ rest
    → new ≡ start ++ (piece ++ rest)
onward start piece rest first behind = behind ∙ ap (λ t. t ++ rest) first ∙ append_assoc start piece rest

-- the text of one thing more
pub one_more : {X : Type 0} (f : X → List ℕ) (xs : List X) (i : ℕ) (x : X) (start : List ℕ)
    {text new : List ℕ}
    → i < length xs → x ≡ get_or xs i x
    → text ≡ start ++ flat_map f (take i xs) → new ≡ text ++ f x
    → new ≡ start ++ flat_map f (take (i + 1) xs)
one_more f xs i x start within is so_far grown =
    grown ∙ ap (λ t. t ++ f x) so_far ∙ flat_map_more f start (take i xs) x
    ∙ ap (λ ys. start ++ flat_map f ys) (ap (λ y. take i xs ++ y ∷ []) is ∙ sym (take_more xs i x within))
