-- Which texts are of no number between two others.
use Rattle.std.proofs.Common.{◌≡◌, ◌≢◌, ◌≤◌, ◌⊎◌, ◌∙◌, ℕ, ℤ, pos, ◌≤ℤ◌}
use Rattle.std.proofs.Common.{◌<ℤ◌, List, Option, Some, None, IfNone}
use Rattle.std.proofs.Common.{FitsSigned, w64, rules, sym, subst, inl, inr, arith}
use Rattle.std.specs.Fmt.{signed_decimal}
use Rattle.std.proofs.lemmas.Fmt.{signed_decimal_injective}
use Rattle.std.proofs.lemmas.Int.{ints}
use Rattle.command_words.specs.Arguments.{IsNumber}

fits : (n : ℕ) → n ≤ 1000000 → FitsSigned w64 (pos n)
fits n most = search rules

-- a text that no number of 64 bits writes
pub no_number : {X : Type 0} (o : Option X) (least most : ℕ) (text : List ℕ) → most ≤ 1000000
    → ((z : ℤ) → FitsSigned w64 z → text ≢ signed_decimal z)
    → IfNone o ((n : ℕ) → ¬ IsNumber least most text n)
no_number None least most text small none = λ n is. none (pos n) (fits n (omega (arith, small, is.2))) is.0
no_number (Some x) least most text small none = tt

-- the text of a number that does not lie between them
pub other_number : (z : ℤ) (least most : ℕ) (text : List ℕ) → FitsSigned w64 z → most ≤ 1000000
    → text ≡ signed_decimal z → (z <ℤ pos least) ⊎ (pos most <ℤ z) → (n : ℕ)
    → ¬ IsNumber least most text n
other_number z least most text known small is (inl low) n it =
    let same : z ≡ pos n = signed_decimal_injective z (pos n) (search rules) (search rules) (sym is ∙ it.0) in
    let less : pos n <ℤ pos least = subst (λ y. y <ℤ pos least) same low in
    let from = it.1 in
    absurd (omega (arith, ints, less, from))
other_number z least most text known small is (inr high) n it =
    let same : z ≡ pos n = signed_decimal_injective z (pos n) (search rules) (search rules) (sym is ∙ it.0) in
    let more : pos most <ℤ pos n = subst (λ y. pos most <ℤ y) same high in
    let to = it.2 in
    absurd (omega (arith, ints, more, to))
