-- Which texts are of no number of units, of no point and of no box.
use Rattle.std.proofs.Common.{◌≡◌, ◌≢◌, ◌≤ℤ◌, ◌<◌, ◌⊎◌, ◌∙◌, ◌==◌, ◌&&◌}
use Rattle.std.proofs.Common.{ℕ, Bool, ℤ, pos, ◌-ℤ◌, List, [], ◌∷◌, ◌++◌}
use Rattle.std.proofs.Common.{length, Option, Some, None, IfNone, IfSome, refl, sym, ap, subst, inl, inr, arith, true}
use Rattle.std.proofs.Common.{false}
use Rattle.std.specs.Bool.{then_some}
use Rattle.std.proofs.lemmas.Bool.Decides.{nat_tests}
use Rattle.std.proofs.lemmas.Bool.{and_parts}
use Rattle.sheet_types.specs.declared.frame.Ground.{Ground}
use Rattle.sheet_types.proofs.Commas.{cut_once}
use Rattle.command_verbs.specs.declared.points.Point.{Point}
use Rattle.command_verbs.specs.Areas.{IsCut, Lacks}
use Rattle.command_verbs.specs.Points.{IsBox, IsPoint, IsSize, IsUnits, fraction, is_digit, digit_of}
use Rattle.command_verbs.proofs.Ends.{mark_is_there}
use Rattle.command_verbs.proofs.Sizes.{natural_lacks}
use Rattle.command_verbs.proofs.Threes.{lacks_both}

-- ---- what the digits behind a point lack

digit_lacks : (mark a : ℕ) → mark < 48 → is_digit a ≡ true → (a == mark) ≡ false
digit_lacks mark a low h = grind (arith, nat_tests, h)

tested : {X : Type 0} (b : Bool) (x y : X) → then_some b x ≡ Some y → b ≡ true
tested true x y h = refl
tested false x y h = absurd (cc h)

digits_lack : (mark : ℕ) (digits : List ℕ) (f : ℤ) → mark < 48 → fraction digits ≡ Some f
    → Lacks mark digits
digits_lack mark [] f low h = tt
digits_lack mark (a ∷ []) f low h = (digit_lacks mark a low (tested _ _ f h), tt)
digits_lack mark (a ∷ b ∷ []) f low h =
    let both = and_parts (is_digit a) (is_digit b) (tested _ _ f h) in
    (digit_lacks mark a low both.0, (digit_lacks mark b low both.1, tt))
digits_lack mark (a ∷ b ∷ c ∷ []) f low h =
    let all = and_parts (is_digit a && is_digit b) (is_digit c) (tested _ _ f h) in
    let both = and_parts (is_digit a) (is_digit b) all.0 in
    (digit_lacks mark a low both.0, (digit_lacks mark b low both.1, (digit_lacks mark c low all.1, tt)))
digits_lack mark (a ∷ b ∷ c ∷ d ∷ more) f low h = absurd (cc h)

-- a size has no minus and no comma
size_lacks : (mark : ℕ) (text : List ℕ) (n : ℤ) → mark < 46 → IsSize text n → Lacks mark text
size_lacks mark text n low (inl it) = natural_lacks mark text it.0 (omega (arith, low)) it.1.0
size_lacks mark text n low (inr it) =
    let no_point : (46 == mark) ≡ false = grind (arith, nat_tests, low) in
    let under : mark < 48 = omega (arith, low) in
    subst (Lacks mark) (sym it.written)
    (lacks_both mark it.front (46 ∷ it.digits) (natural_lacks mark it.front it.units under it.whole.0)
    (no_point, digits_lack mark it.digits it.part under it.broken))

-- ---- a number of units

pub no_units_alone : (o : Option ℤ) (text : List ℕ) → Lacks 45 text → IfNone o ((n : ℤ) → ¬ IsSize text n)
    → IfNone o ((n : ℤ) → ¬ IsUnits text n)
no_units_alone (Some x) text lacks none = tt
no_units_alone None text lacks none = by
  where
    by : (n : ℤ) → ¬ IsUnits text n
    by n (inl it) = none n it
    by n (inr it) = mark_is_there 45 [] it.0 (subst (Lacks 45) it.2 lacks)

-- what stands behind the minus
minus_parts : (text front rest : List ℕ) → IsCut 45 text front rest → (n : ℤ) → IsUnits text n
    → (front ≡ [])
    × ((size : ℤ) × IsSize rest size)
minus_parts text front rest cut n (inl it) = absurd (mark_is_there 45 front rest
    (subst (Lacks 45) cut.0 (size_lacks 45 text n (omega arith) it)))
minus_parts text front rest cut n (inr it) =
    let same = cut_once 45 front [] rest it.0 cut.1 tt (sym cut.0 ∙ it.2) in
    (same.0, (it.1, subst (λ t. IsSize t it.1) (sym same.1) it.3))

pub no_units_behind : (text front rest : List ℕ) → IsCut 45 text front rest → front ≢ [] → (n : ℤ)
    → ¬ IsUnits text n
no_units_behind text front rest cut some n it = some (minus_parts text front rest cut n it).0

pub no_units_minus : (o : Option ℤ) (text front rest : List ℕ) → IsCut 45 text front rest
    → ((n : ℤ) → ¬ IsSize rest n) → IfNone o ((n : ℤ) → ¬ IsUnits text n)
no_units_minus (Some x) text front rest cut none = tt
no_units_minus None text front rest cut none = λ n it. let parts =
    (minus_parts text front rest cut n it).1 in none parts.0 parts.1

pub units_of_size : (o : Option ℤ) (text : List ℕ) → IfSome o (IsSize text) → IfSome o (IsUnits text)
units_of_size None text h = tt
units_of_size (Some n) text h = inl h

pub units_minus : (text front rest : List ℕ) (n : ℤ) → IsCut 45 text front rest → front ≡ [] → IsSize rest n
    → IsUnits text (pos 0 -ℤ n)
units_minus text front rest n cut empty it = inr (rest, n, cut.0 ∙ ap (λ f. f ++ (45 ∷ rest)) empty, it, refl)

-- it has no comma
units_lack : (text : List ℕ) (n : ℤ) → IsUnits text n → Lacks 44 text
units_lack text n (inl it) = size_lacks 44 text n (omega arith) it
units_lack text n (inr it) = subst (Lacks 44) (sym it.2) (refl, size_lacks 44 it.0 it.1 (omega arith) it.3)

-- ---- a point

point_parts : (text across up : List ℕ) → IsCut 44 text across up → (p : Point) → IsPoint text p
    → IsUnits across p.x
    × IsUnits up p.y
point_parts text across up cut p it =
    let same = cut_once 44 across it.across up it.up cut.1 (units_lack it.across p.x it.x) (sym cut.0 ∙ it.written) in
    (subst (λ t. IsUnits t p.x) (sym same.0) it.x, subst (λ t. IsUnits t p.y) (sym same.1) it.y)

abbrev NoPoint : List ℕ → Type 0
NoPoint text = (p : Point) → ¬ IsPoint text p

pub no_comma : (o : Option Point) (text : List ℕ) → Lacks 44 text → IfNone o (NoPoint text)
no_comma (Some x) text lacks = tt
no_comma None text lacks = λ p it. mark_is_there 44 it.across it.up (subst (Lacks 44) it.written lacks)

pub no_across : (o : Option Point) (text across up : List ℕ) → IsCut 44 text across up
    → ((n : ℤ) → ¬ IsUnits across n) → IfNone o (NoPoint text)
no_across (Some x) text across up cut none = tt
no_across None text across up cut none = λ p it. none p.x (point_parts text across up cut p it).0

pub no_up : (o : Option Point) (text across up : List ℕ) → IsCut 44 text across up
    → ((n : ℤ) → ¬ IsUnits up n)
    → IfNone o (NoPoint text)
no_up (Some x) text across up cut none = tt
no_up None text across up cut none = λ p it. none p.y (point_parts text across up cut p it).1

-- ---- a box

abbrev corner : Ground → Point
corner g = record { x = g.east; y = g.north }

pub box_parts : (text west south rest behind : List ℕ) → IsCut 44 text west behind → IsCut 44 behind south rest
    → (g : Ground) → IsBox text g
    → IsUnits west g.west × IsUnits south g.south × IsPoint rest (corner g)
box_parts text west south rest behind cut more g it =
    let one = cut_once 44 west it.west behind (it.south ++ (44 ∷ it.rest)) cut.1 (units_lack it.west g.west it.left)
    (sym cut.0 ∙ it.written) in
    let two = cut_once 44 south it.south rest it.rest more.1 (units_lack it.south g.south it.bottom)
    (sym more.0 ∙ one.1) in (
      subst (λ t. IsUnits t g.west) (sym one.0) it.left,
      subst (λ t. IsUnits t g.south) (sym two.0) it.bottom,
      subst (λ t. IsPoint t (corner g)) (sym two.1) it.corner,
    )

pub box_of : (text west south rest behind : List ℕ) → IsCut 44 text west behind → IsCut 44 behind south rest
    → (g : Ground)
    → IsUnits west g.west → IsUnits south g.south → IsPoint rest (corner g) → IsBox text g
box_of text west south rest behind cut more g left bottom there = record {
  west = west;
  south = south;
  rest = rest;
  written = cut.0 ∙ ap (λ t. west ++ (44 ∷ t)) more.0;
  left = left;
  bottom = bottom;
  corner = there;
}

abbrev NoBox : List ℕ → Type 0
NoBox text = (g : Ground) → ¬ IsBox text g

pub no_box : (o : Option Ground) (text : List ℕ) → NoBox text → IfNone o (NoBox text)
no_box None text h = h
no_box (Some x) text h = tt

pub no_comma_at_all : (text : List ℕ) → Lacks 44 text → NoBox text
no_comma_at_all text lacks g it = mark_is_there 44 it.west (it.south ++ (44 ∷ it.rest))
    (subst (Lacks 44) it.written lacks)

pub one_comma_alone : (text west behind : List ℕ) → IsCut 44 text west behind → Lacks 44 behind → NoBox text
one_comma_alone text west behind cut lacks g it =
    let one = cut_once 44 west it.west behind (it.south ++ (44 ∷ it.rest)) cut.1 (units_lack it.west g.west it.left)
    (sym cut.0 ∙ it.written) in
    mark_is_there 44 it.south it.rest (subst (Lacks 44) one.1 lacks)

-- ---- whether a text is empty

pub empty_is : (text : List ℕ) (b : Bool) → b ≡ (length text == 0) → b ≡ true → text ≡ []
empty_is [] b is so = refl
empty_is (x ∷ xs) b is so = absurd (grind (arith, nat_tests, is, so))

pub not_empty : (text : List ℕ) (b : Bool) → b ≡ (length text == 0) → b ≡ false → text ≢ []
not_empty [] b is so = absurd (grind (arith, nat_tests, is, so))
not_empty (x ∷ xs) b is so = λ e. cc e

pub point_of : (text across up : List ℕ) → IsCut 44 text across up → (p : Point) → IsUnits across p.x
    → IsUnits up p.y
    → IsPoint text p
point_of text across up cut p x y = record { across = across; up = up; written = cut.0; x = x; y = y }
