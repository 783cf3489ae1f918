-- A text that no number of 64 bits writes asks for no count, nor does that of a number below 0.
use Rattle.std.proofs.Common.{◌≡◌, ◌≢◌, ◌<ℤ◌, ◌∙◌, ℕ, ℤ, pos, List, Option, Some, None}
use Rattle.std.proofs.Common.{IfNone, FitsSigned, w64}
use Rattle.std.proofs.Common.{rules, arith, subst, sym}
use Rattle.std.specs.Fmt.{signed_decimal}
use Rattle.std.proofs.lemmas.Int.{ints}
use Rattle.std.proofs.lemmas.Fmt.{signed_decimal_injective}
use Rattle.views.specs.Excerpts.{IsCount}

fits_count : (text : List ℕ) (count : ℕ) → IsCount text count → FitsSigned w64 (pos count)
fits_count text count it = let some = it.0 in search rules

pub no_count : (o : Option ℕ) (text : List ℕ) → ((z : ℤ) → FitsSigned w64 z → text ≢ signed_decimal z)
    → IfNone o ((count : ℕ) → ¬ IsCount text count)
no_count None text none = λ count it. none (pos count) (fits_count text count it) it.1
no_count (Some x) text none = tt

pub below_count : (text : List ℕ) (z : ℤ) → FitsSigned w64 z → z <ℤ pos 0 → text ≡ signed_decimal z
    → (count : ℕ)
    → ¬ IsCount text count
below_count text z fits low is count it =
    let other : FitsSigned w64 (pos count) = fits_count text count it in
    let same : z ≡ pos count = signed_decimal_injective z (pos count) (search rules) (search rules)
    (sym is ∙ it.1) in
    let less : pos count <ℤ pos 0 = subst (λ y. y <ℤ pos 0) same low in
    absurd (omega (arith, ints, less))
