-- Texts that are made in pieces.
use Rattle.std.proofs.Common.{◌≡◌, ◌++◌, ℕ, List, ◌∙◌, ap, Result, Ok, Err}
use Rattle.std.specs.Prelude.{IfOk, string_bytes}
use Rattle.std.proofs.Common.{String, Global}

-- a text that was made is this one too
pub ok_is : {E : Type 0} (r : Result (String Global) E) (a b : List ℕ) → a ≡ b
    → IfOk r (λ t. string_bytes t ≡ a) → IfOk r (λ t. string_bytes t ≡ b)
ok_is (Ok t) a b e h = h ∙ e
ok_is (Err x) a b e h = tt

pub joined : {a a' b b' : List ℕ} → a ≡ a' → b ≡ b' → a ++ b ≡ a' ++ b'
joined {a' = a'} {b = b} d e = ap (λ t. t ++ b) d ∙ ap (λ t. a' ++ t) e
