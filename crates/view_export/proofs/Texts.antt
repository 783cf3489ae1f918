-- Texts that are made in pieces.
use Rattle.std.proofs.Common.{◌≡◌, ◌++◌, ℕ, ◌+◌, ℤ, pos, ◌+ℤ◌, List, ◌∙◌, ap, add-one}
use Rattle.std.proofs.Common.{append_assoc, Result, Ok, Err}
use Rattle.std.specs.Prelude.{IfOk, string_bytes}
use Rattle.std.proofs.Common.{String, Global}
use Rattle.sheet_types.specs.declared.frame.Frame.{Frame}
use Rattle.view_export.specs.FixedRows.{matrices, matrix}

-- a text that was made is this one too
pub ok_is : {E : Type 0} (r : Result (String Global) E) (a b : List ℕ) → a ≡ b
    → IfOk r (λ t. string_bytes t ≡ a)
    → IfOk r (λ t. string_bytes t ≡ b)
ok_is (Ok t) a b e h = h ∙ e
ok_is (Err x) a b e h = tt

pub joined : {a a' b b' : List ℕ} → a ≡ a' → b ≡ b' → a ++ b ≡ a' ++ b'
joined {a' = a'} {b = b} d e = ap (λ t. t ++ b) d ∙ ap (λ t. a' ++ t) e

-- one zoom level more
pub level_more : (f : Frame) (k : ℕ) (text row more : List ℕ) (zoom : ℤ) → text ≡ matrices f k
    → more ≡ text ++ row
    → row ≡ matrix f zoom → zoom ≡ f.first_zoom +ℤ pos k → more ≡ matrices f (k + 1)
level_more f k text row more zoom so_far is made at = rw add-one (is ∙ joined so_far (made ∙ ap (matrix f) at))

-- two pieces behind what was there
pub put_behind : (old a b : List ℕ) {mid new : List ℕ} → mid ≡ old ++ a → new ≡ mid ++ b
    → new ≡ old ++ (a ++ b)
put_behind old a b first second = second ∙ ap (λ t. t ++ b) first ∙ append_assoc old a b
