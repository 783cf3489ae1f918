-- Which texts are of no number of units.
use Rattle.std.proofs.Common.{◌≡◌, ◌≢◌, ◌≤ℤ◌, ◌<ℤ◌, ◌≤◌, ◌<◌, ◌⊎◌}
use Rattle.std.proofs.Common.{◌∙◌, ◌==◌, ◌&&◌, ◌-◌, ℕ, zero, suc, Bool, nat_le}
use Rattle.std.proofs.Common.{ℤ, pos, negsuc, ◌*ℤ◌, ◌+ℤ◌, List, [], ◌∷◌, ◌++◌, Option, Some}
use Rattle.std.proofs.Common.{None, IfNone, FitsSigned}
use Rattle.std.proofs.Common.{w64, rules, refl, sym, ap, subst, inl, inr, arith, true, false}
use Rattle.std.specs.Fmt.{signed_decimal}
use Rattle.std.proofs.lemmas.Int.{ints}
use Rattle.std.proofs.lemmas.Fmt.{signed_decimal_injective}
use Rattle.std.proofs.lemmas.Bool.Decides.{nat_tests}
use Rattle.std.proofs.lemmas.Bool.{and_parts}
use Rattle.sheet_types.proofs.Commas.{cut_once, decimal_lacks}
use Rattle.command_verbs.specs.Areas.{IsCut, IsNatural, Lacks}
use Rattle.command_verbs.specs.Points.{IsBroken, IsSize, IsUnits, IsWhole, fraction, is_digit, most_units}
use Rattle.command_verbs.proofs.Ends.{mark_is_there}

fits_whole : (u : ℤ) → pos 0 ≤ℤ u → u ≤ℤ most_units → FitsSigned w64 u
fits_whole u some most = search rules

-- a text that is no number is no whole one
pub no_whole : (o : Option ℤ) (text : List ℕ) → ((z : ℤ) → FitsSigned w64 z → ¬ IsNatural text z)
    → IfNone o ((u : ℤ) → ¬ IsWhole text u)
no_whole None text h = λ u it. h u (fits_whole u it.0.1 it.1) it.0
no_whole (Some x) text h = tt

pub too_many : (known : ℤ) (text : List ℕ) → FitsSigned w64 known → IsNatural text known
    → most_units <ℤ known
    → (u : ℤ) → ¬ IsWhole text u
too_many known text fits is high u it =
    let same : u ≡ known = (let f : FitsSigned w64 u = fits_whole u it.0.1 it.1 in signed_decimal_injective u known
    (search rules) (search rules)) (sym it.0.0 ∙ is.0) in
    let more : most_units <ℤ u = subst (λ y. most_units <ℤ y) (sym same) high in
    let most = it.1 in
    absurd (omega (arith, ints, more, most))

-- ---- what a whole number lacks: a point, a minus

pub natural_lacks : (mark : ℕ) (text : List ℕ) (z : ℤ) → mark < 48 → IsNatural text z → Lacks mark text
natural_lacks mark text (pos n) low it = subst (Lacks mark) (sym it.0) (decimal_lacks mark n low)
natural_lacks mark text (negsuc n) low it = let some = it.1 in absurd (omega (arith, ints, some))

-- ---- a size

pub no_size_whole : (o : Option ℤ) (text : List ℕ) → Lacks 46 text → IfNone o ((u : ℤ) → ¬ IsWhole text u)
    → IfNone o ((n : ℤ) → ¬ IsSize text n)
no_size_whole (Some x) text lacks none = tt
no_size_whole None text lacks none = by
  where
    by : (n : ℤ) → ¬ IsSize text n
    by n (inl it) = none it.0 it.1
    by n (inr it) = mark_is_there 46 it.front it.digits (subst (Lacks 46) it.written lacks)

-- the parts of one that has a point
broken_parts : (text front digits : List ℕ) → IsCut 46 text front digits → (n : ℤ) → IsSize text n
    → (u f : ℤ) × IsWhole front u × (fraction digits ≡ Some f)
broken_parts text front digits cut n (inl it) =
    absurd (mark_is_there 46 front digits (subst (Lacks 46) cut.0 (natural_lacks 46 text it.0 (omega arith) it.1.0)))
broken_parts text front digits cut n (inr it) =
    let same = cut_once 46 front it.front digits it.digits cut.1
    (natural_lacks 46 it.front it.units (omega arith) it.whole.0) (sym cut.0 ∙ it.written) in (
      it.units,
      it.part,
      subst (λ t. IsWhole t it.units) (sym same.0) it.whole,
      subst (λ t. fraction t ≡ Some it.part)
          (sym same.1) it.broken,
    )

pub no_size_front : (o : Option ℤ) (text front digits : List ℕ) → IsCut 46 text front digits
    → ((u : ℤ) → ¬ IsWhole front u) → IfNone o ((n : ℤ) → ¬ IsSize text n)
no_size_front (Some x) text front digits cut none = tt
no_size_front None text front digits cut none = λ n it. let parts =
    broken_parts text front digits cut n it in none parts.0 parts.2

pub no_size_back : (o : Option ℤ) (text front digits : List ℕ) → IsCut 46 text front digits
    → fraction digits ≡ None
    → IfNone o ((n : ℤ) → ¬ IsSize text n)
no_size_back (Some x) text front digits cut none = tt
no_size_back None text front digits cut none = λ n it. let parts =
    broken_parts text front digits cut n it in let some = parts.3 in absurd (cc (some, none))

-- the two parts together
pub broken_size : (text front digits : List ℕ) (n f : ℤ) → IsCut 46 text front digits → (u : ℤ)
    × IsWhole front u
    × (n ≡ u *ℤ pos 1000) → fraction digits ≡ Some f → IsSize text (n +ℤ f)
broken_size text front digits n f cut it part = inr (record {
  front = front;
  digits = digits;
  units = it.0;
  part = f;
  written = cut.0;
  whole = it.1;
  broken = part;
  value = ap (λ x. x +ℤ f) it.2;
})
