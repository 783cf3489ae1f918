-- A text that is cut at the first of a byte.
use Rattle.std.proofs.Common.{eqb-true, ◌≡◌, ◌==◌, ◌<◌, ◌+◌, ◌∙◌, ℕ, suc, Bool, true, false}
use Rattle.std.proofs.Common.{not, cond, List, [], ◌∷◌}
use Rattle.std.proofs.Common.{◌++◌, length, take, drop, refl, sym, ap, subst, arith, Option, Some, None, IfNone}
use Rattle.std.proofs.Common.{IfSome, MatchOption, Bor}
use Rattle.std.specs.List.{position_or_len, before_first, after_first}
use Rattle.command_verbs.specs.Areas.{IsCut, Lacks}

-- the place of the first, by whether it is the first of all
place_first : (mark x : ℕ) (xs : List ℕ) → (x == mark) ≡ true
    → position_or_len (λ b. b == mark) (x ∷ xs) ≡ 0
place_first mark x xs e = rw e refl

place_later : (mark x : ℕ) (xs : List ℕ) → (x == mark) ≡ false
    → position_or_len (λ b. b == mark) (x ∷ xs) ≡ suc (position_or_len (λ b. b == mark) xs)
place_later mark x xs e = rw e (omega arith)

-- where the place is past the end, there is none
lacks_by : (mark x : ℕ) (xs : List ℕ) (v : Bool) → (x == mark) ≡ v
    → position_or_len (λ b. b == mark) (x ∷ xs) ≡ suc (length xs)
    → (position_or_len (λ b. b == mark) xs ≡ length xs → Lacks mark xs) → Lacks mark (x ∷ xs)
lacks_by mark x xs true is e more = absurd (omega (arith, e, place_first mark x xs is))
lacks_by mark x xs false is e more = (is, more (omega (arith, e, place_later mark x xs is)))

pub lacks_it : (mark : ℕ) (text : List ℕ) → position_or_len (λ b. b == mark) text ≡ length text
    → Lacks mark text
lacks_it mark [] e = tt
lacks_it mark (x ∷ xs) e = lacks_by mark x xs (x == mark) refl e (lacks_it mark xs)

-- the front and the back, by the place between them
abbrev IsCutAt : ℕ → List ℕ → ℕ → Type 0
IsCutAt mark text at = IsCut mark text (take at text) (drop (at + 1) text)

cut_by : (mark x : ℕ) (xs : List ℕ) (v : Bool) → (x == mark) ≡ v
    → position_or_len (λ b. b == mark) (x ∷ xs) < suc (length xs)
    → (position_or_len (λ b. b == mark) xs < length xs → IsCutAt mark xs (position_or_len (λ b. b == mark) xs))
    → IsCutAt mark (x ∷ xs) (position_or_len (λ b. b == mark) (x ∷ xs))
cut_by mark x xs true is below more = subst (IsCutAt mark (x ∷ xs)) (sym (place_first mark x xs is))
    (ap (λ y. y ∷ xs) (eqb-true x mark is), tt)
cut_by mark x xs false is below more =
    let rest = more (omega (arith, below, place_later mark x xs is)) in
    let at : ℕ = position_or_len (λ b. b == mark) xs in
    let next : suc at + 1 ≡ suc (at + 1) = omega arith in
    let back : drop (suc at + 1) (x ∷ xs) ≡ drop (at + 1) xs = ap (λ n. drop n (x ∷ xs)) next in
    let front : x ∷ xs ≡ x ∷ (take at xs ++ (mark ∷ drop (at + 1) xs)) = ap (λ ys. x ∷ ys) rest.0 in
    let whole : x ∷ xs ≡ x ∷ (take at xs ++ (mark ∷ drop (suc at + 1) (x ∷ xs))) =
    front ∙ ap (λ ys. x ∷ (take at xs ++ (mark ∷ ys))) (sym back) in
    subst (IsCutAt mark (x ∷ xs)) (sym (place_later mark x xs is)) (whole, (is, rest.1))

pub cut_there : (mark : ℕ) (text : List ℕ) → position_or_len (λ b. b == mark) text < length text
    → IsCut mark text (before_first (λ b. b == mark) text) (after_first (λ b. b == mark) text)
cut_there mark [] below = absurd (omega (arith, below))
cut_there mark (x ∷ xs) below = cut_by mark x xs (x == mark) refl below (cut_there mark xs)

-- ---- the same of what `split_once` answers

-- none, or both parts
abbrev IsSplit : ℕ → List ℕ → Option (Bor (List ℕ) × Bor (List ℕ)) → Type 0
IsSplit mark text r = MatchOption r (position_or_len (λ b. b == mark) text ≡ length text)
    (λ x. (x.0.now ≡ before_first (λ b. b == mark) text) × (x.1.now ≡ after_first (λ b. b == mark) text)
    × (position_or_len (λ b. b == mark) text < length text))

pub cut_parts : (mark : ℕ) (text : List ℕ) (r : Option (Bor (List ℕ) × Bor (List ℕ))) → IsSplit mark text r
    → IfSome r (λ x. IsCut mark text x.0.now x.1.now)
cut_parts mark text None h = tt
cut_parts mark text (Some x) h =
    subst (λ front. IsCut mark text front x.1.now) (sym h.0)
    (subst (λ back. IsCut mark text (before_first (λ b. b == mark) text) back) (sym h.1) (cut_there mark text h.2))

pub cut_none : (mark : ℕ) (text : List ℕ) (r : Option (Bor (List ℕ) × Bor (List ℕ))) → IsSplit mark text r
    → IfNone r (Lacks mark text)
cut_none mark text None h = lacks_it mark text h
cut_none mark text (Some x) h = tt
