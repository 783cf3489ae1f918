-- Which texts are of no ends of a block.
use Rattle.std.proofs.Common.{◌≡◌, ◌≢◌, ◌≤ℤ◌, ◌<ℤ◌, ◌<◌, ◌⊎◌, ◌∙◌, ◌==◌}
use Rattle.std.proofs.Common.{ℕ, suc, ℤ, pos, negsuc, List, [], ◌∷◌, ◌++◌}
use Rattle.std.proofs.Common.{Option, Some, None, IfNone, FitsSigned, w64, rules, refl, sym, subst, inl, inr, arith}
use Rattle.std.proofs.Common.{true, false}
use Rattle.std.specs.Fmt.{signed_decimal}
use Rattle.std.proofs.lemmas.Fmt.{signed_decimal_injective}
use Rattle.std.proofs.lemmas.Int.{ints}
use Rattle.std.proofs.lemmas.Bool.Decides.{nat_tests}
use Rattle.sheet_types.proofs.Commas.{cut_once, decimal_lacks, signed_lacks}
use Rattle.command_verbs.specs.Areas.{AreEnds, AreTwoEnds, IsArea, IsCut, IsNatural, Lacks}

-- ---- one number

pub no_natural : (o : Option ℤ) (text : List ℕ) → ((z : ℤ) → FitsSigned w64 z → text ≢ signed_decimal z)
    → IfNone o ((z : ℤ) → FitsSigned w64 z → ¬ IsNatural text z)
no_natural None text h = λ z fits is. h z fits is.0
no_natural (Some x) text h = tt

pub negative : (known : ℤ) (text : List ℕ) → FitsSigned w64 known → text ≡ signed_decimal known
    → known <ℤ pos 0
    → (z : ℤ) → FitsSigned w64 z → ¬ IsNatural text z
negative known text fits is low z fits_z it =
    let same : z ≡ known = signed_decimal_injective z known (search rules) (search rules) (sym it.0 ∙ is) in
    let less : z <ℤ pos 0 = subst (λ y. y <ℤ pos 0) (sym same) low in
    let from = it.1 in
    absurd (omega (arith, ints, less, from))

-- a number from 0 on has no hyphen
pub no_hyphen : (z : ℤ) → pos 0 ≤ℤ z → Lacks 45 (signed_decimal z)
no_hyphen (pos n) some = decimal_lacks 45 n (omega arith)
no_hyphen (negsuc n) some = absurd (omega (arith, ints, some))

-- ---- two ends

-- what stands behind a byte that a text lacks
pub mark_is_there : (mark : ℕ) (front back : List ℕ) → ¬ Lacks mark (front ++ (mark ∷ back))
mark_is_there mark [] back h = let no : (mark == mark) ≡ false = h.0 in grind (arith, nat_tests, no)
mark_is_there mark (x ∷ xs) back h = mark_is_there mark xs back h.1

pub no_ends_alone : (o : Option (ℤ × ℤ)) (text : List ℕ) → Lacks 45 text
    → ((z : ℤ) → FitsSigned w64 z → ¬ IsNatural text z)
    → IfNone o ((first last : ℤ) → FitsSigned w64 first → FitsSigned w64 last → ¬ AreEnds text first last)
no_ends_alone (Some x) text lacks none = tt
no_ends_alone None text lacks none = by
  where
    by : (first last : ℤ) → FitsSigned w64 first → FitsSigned w64 last → ¬ AreEnds text first last
    by first last f l (inl it) = none first f it.0
    by first last f l (inr it) = mark_is_there 45 (signed_decimal first) (signed_decimal last)
        (subst (Lacks 45) it.0 lacks)

-- both parts of a text with a hyphen
pub two_parts : (text front back : List ℕ) → IsCut 45 text front back → (first last : ℤ)
    → AreEnds text first last
    → IsNatural front first × IsNatural back last
two_parts text front back cut first last (inl it) = absurd (mark_is_there 45 front back
    (subst (Lacks 45) (sym it.0.0 ∙ cut.0) (no_hyphen first it.0.1)))
two_parts text front back cut first last (inr it) =
    let same = cut_once 45 front (signed_decimal first) back (signed_decimal last) cut.1 (no_hyphen first it.1)
    (sym cut.0 ∙ it.0) in
    ((same.0, it.1), (same.1, it.2))

pub no_first : (o : Option (ℤ × ℤ)) (text front back : List ℕ) → IsCut 45 text front back
    → ((z : ℤ) → FitsSigned w64 z → ¬ IsNatural front z)
    → IfNone o ((first last : ℤ) → FitsSigned w64 first → FitsSigned w64 last → ¬ AreEnds text first last)
no_first None text front back cut none = λ first last f l it. none first f
    (two_parts text front back cut first last it).0
no_first (Some x) text front back cut none = tt

pub no_last : (o : Option (ℤ × ℤ)) (text front back : List ℕ) → IsCut 45 text front back
    → ((z : ℤ) → FitsSigned w64 z → ¬ IsNatural back z)
    → IfNone o ((first last : ℤ) → FitsSigned w64 first → FitsSigned w64 last → ¬ AreEnds text first last)
no_last None text front back cut none = λ first last f l it. none last l
    (two_parts text front back cut first last it).1
no_last (Some x) text front back cut none = tt
