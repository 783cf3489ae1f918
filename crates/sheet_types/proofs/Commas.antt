-- Texts cut at a byte that their parts do not have, and numbers between commas.
use Rattle.std.proofs.Common.{◌≡◌, ◌≢◌, ℕ, zero, suc, ◌+◌, ◌<◌, ◌/◌, ◌%◌, ◌==◌}
use Rattle.std.proofs.Common.{List, [], ◌∷◌, ◌++◌, length, take, true, false, if◌then◌else◌, ℤ, pos}
use Rattle.std.proofs.Common.{negsuc, FitsSigned, w64, Option, Some, None, IfNone, refl, sym, ap, ◌∙◌, arith}
use Rattle.std.specs.List.{AllByRecursion, position_or_len, before_first}
use Rattle.std.specs.Fmt.{signed_decimal, decimal, digits, digits_onto, digit_glyph}
use Rattle.std.proofs.lemmas.Bool.{eq-eqb}
use Rattle.std.proofs.lemmas.List.{length-append}
use Rattle.std.proofs.Math.Seq.{take-append_seam}
use Rattle.std.proofs.lemmas.Bool.Decides.{nat_tests}
use Rattle.sheet_types.specs.Reading.{numbers_text, frame_numbers, frame_text, IsInRange}
use Rattle.sheet_types.specs.declared.frame.Frame.{Frame}

-- none of the bytes is this one
abbrev pub Lacks : ℕ → List ℕ → Type 0
Lacks c xs = AllByRecursion (λ b. (b == c) ≡ false) xs

-- the first place of a byte that what stands before it lacks
pub position-lacks : (c : ℕ) (xs rest : List ℕ) → Lacks c xs
    → position_or_len (λ b. b == c) (xs ++ c ∷ rest) ≡ length xs
position-lacks c [] rest h = rw (eq-eqb c c refl) refl
position-lacks c (x ∷ xs) rest h =
    let e : (x == c) ≡ false = h.0 in
    let more : position_or_len (λ b. b == c) (xs ++ c ∷ rest) ≡ length xs = position-lacks c xs rest h.1 in
    rw e (omega (arith, more))

-- a text is cut in one way
pub cut_once : (c : ℕ) (xs ys r s : List ℕ) → Lacks c xs → Lacks c ys → xs ++ c ∷ r ≡ ys ++ c ∷ s
    → (xs ≡ ys) × (r ≡ s)
cut_once c [] [] r s h g e = (refl, cc)
cut_once c [] (y ∷ ys) r s h g e =
    let same : c ≡ y = cc in
    let no : (y == c) ≡ false = g.0 in
    let yes : (y == c) ≡ true = eq-eqb y c (sym same) in
    absurd (cc (no, yes))
cut_once c (x ∷ xs) [] r s h g e =
    let same : x ≡ c = cc in
    let no : (x == c) ≡ false = h.0 in
    let yes : (x == c) ≡ true = eq-eqb x c same in
    absurd (cc (no, yes))
cut_once c (x ∷ xs) (y ∷ ys) r s h g e =
    let first : x ≡ y = cc in
    let rest : xs ++ c ∷ r ≡ ys ++ c ∷ s = cc in
    let p = cut_once c xs ys r s h.1 g.1 rest in
    (cc (first, p.0), p.1)

-- no digit is a byte below the digit 0
glyph_lacks : (c n : ℕ) → c < 48 → (digit_glyph false (n % 10) == c) ≡ false
glyph_lacks c n low = grind (arith, nat_tests)

digits_lack : (c k n : ℕ) (acc : List ℕ) → c < 48 → Lacks c acc → Lacks c (digits_onto k 10 false n acc)
digits_lack c zero n acc low h = h
digits_lack c (suc k) n acc low h =
    elim (n / 10 == 0) as (λ v. Lacks c (if v then digit_glyph false (n % 10)
    ∷ acc else digits_onto k 10 false (n / 10) (digit_glyph false (n % 10) ∷ acc))) [
      | true ↦ (glyph_lacks c n low, h)
      | false ↦ digits_lack c k (n / 10) (digit_glyph false (n % 10) ∷ acc) low (glyph_lacks c n low, h)
    ]

pub decimal_lacks : (c n : ℕ) → c < 48 → Lacks c (decimal n)
unfolding digits
decimal_lacks c n low = digits_lack c 64 n [] low tt

-- nor is the minus, where it is below that too
pub signed_lacks : (c : ℕ) (z : ℤ) → c < 45 → Lacks c (signed_decimal z)
signed_lacks c (pos n) low = decimal_lacks c n (omega arith)
signed_lacks c (negsuc n) low = (no_minus, decimal_lacks c (suc n) (omega arith))
  where
    no_minus : (45 == c) ≡ false
    no_minus = grind (arith, nat_tests)

-- a text with a comma behind a number has a comma
pub has_comma : (z : ℤ) (rest text : List ℕ) → text ≡ signed_decimal z ++ (44 ∷ rest)
    → position_or_len (λ b. b == 44) text ≡ length text → ⊥
has_comma z rest text is all =
    let here : position_or_len (λ b. b == 44) text ≡ length (signed_decimal z) =
    rw is (position-lacks 44 (signed_decimal z) rest (signed_lacks 44 z (omega arith))) in
    let long : length text ≡ length (signed_decimal z) + suc (length rest) =
    ap length is ∙ length-append (signed_decimal z) (44 ∷ rest) in
    omega (arith, here, long, all)

-- what stands before the first comma is the number
pub before_comma : (z : ℤ) (rest text front : List ℕ) → text ≡ signed_decimal z ++ (44 ∷ rest)
    → front ≡ before_first (λ b. b == 44) text → front ≡ signed_decimal z
before_comma z rest text front is said =
    let here : position_or_len (λ b. b == 44) (signed_decimal z ++ (44 ∷ rest)) ≡ length (signed_decimal z) =
    position-lacks 44 (signed_decimal z) rest (signed_lacks 44 z (omega arith)) in
    said ∙ ap (λ (t : List ℕ). before_first (λ b. b == 44) t) is
    ∙ ap (λ (n : ℕ). take n (signed_decimal z ++ (44 ∷ rest))) here
    ∙ take-append_seam (signed_decimal z) (44 ∷ rest)

-- ---- numbers with single commas between them

-- the text is no list of n numbers of 64 bits
pub record NoNumbers (n : ℕ) (text : List ℕ) : Type 0 where
  pub none : (zs : List ℤ) → length zs ≡ n → AllByRecursion (FitsSigned w64) zs → text ≢ numbers_text zs

-- where no number stands before a comma
pub none_first : (n : ℕ) (text : List ℕ) → ((z : ℤ) (rest : List ℕ) → FitsSigned w64 z
    → text ≢ signed_decimal z ++ (44 ∷ rest)) → NoNumbers (suc (suc n)) text
none_first n text h = record { none = by }
  where
    by : (zs : List ℤ) → length zs ≡ suc (suc n) → AllByRecursion (FitsSigned w64) zs
        → text ≢ numbers_text zs
    by [] l f e = cc l
    by (z ∷ []) l f e = cc l
    by (z ∷ y ∷ zs) l f e = h z (numbers_text (y ∷ zs)) f.0 e

-- where the text is no number
pub none_last : (text : List ℕ) → ((z : ℤ) → FitsSigned w64 z → text ≢ signed_decimal z)
    → NoNumbers 1 text
none_last text h = record { none = by }
  where
    by : (zs : List ℤ) → length zs ≡ 1 → AllByRecursion (FitsSigned w64) zs → text ≢ numbers_text zs
    by [] l f e = cc l
    by (z ∷ []) l f e = h z f.0 e
    by (z ∷ y ∷ zs) l f e = cc l

-- where a number stands first, and no numbers after it
pub none_rest : (n : ℕ) (z : ℤ) (text rest : List ℕ) → text ≡ signed_decimal z ++ (44 ∷ rest)
    → NoNumbers (suc n) rest → NoNumbers (suc (suc n)) text
none_rest n z text rest is h = record { none = by }
  where
    by : (zs : List ℤ) → length zs ≡ suc (suc n) → AllByRecursion (FitsSigned w64) zs
        → text ≢ numbers_text zs
    by [] l f e = cc l
    by (y ∷ []) l f e = cc l
    by (y ∷ x ∷ zs) l f e =
        let cut = cut_once 44 (signed_decimal z) (signed_decimal y) rest (numbers_text (x ∷ zs))
        (signed_lacks 44 z (omega arith)) (signed_lacks 44 y (omega arith)) (sym is ∙ e) in
        h.none (x ∷ zs) (cc l) f.1 cut.1

-- then it is no frame either
pub no_frame : (o : Option Frame) (text : List ℕ) → NoNumbers 11 text
    → IfNone o ((f : Frame) → IsInRange f → text ≢ frame_text f)
no_frame None text h = λ f fits is. h.none (frame_numbers f) refl fits is
no_frame (Some g) text h = tt
