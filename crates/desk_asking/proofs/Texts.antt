-- Texts of a few bytes, of a number, and where a desk listens.
use Rattle.std.proofs.Common.{true, nat_eq, ◌≡◌, ◌≤◌, ◌<◌, ◌+◌, ◌^◌, ℕ, List, [], ◌∷◌}
use Rattle.std.proofs.Common.{◌++◌, length, get_or, take}
use Rattle.std.proofs.Common.{drop, Option, Result, Ok, refl, sym, ap, ◌∙◌, subst, append_assoc, arith}
use Rattle.std.specs.Io.KnownBytes.{Consumes}
use Rattle.std.specs.List.{list_all}
use Rattle.std.specs.Fmt.{decimal}
use Rattle.std.specs.Str.{IsUtf8}
use Rattle.std.specs.Str.Parse.{ParsesUnsigned}
use Rattle.std.proofs.lemmas.Fmt.{IsAscii-decimal, parse-decimal}
use Rattle.std.proofs.lemmas.Str.{IsUtf8-from_ascii}
use Rattle.std.proofs.lemmas.List.{append_cancel_left, append_cancel_right, length-append}
use Rattle.std.proofs.Math.Seq.{take-append_seam}
use Rattle.desk_asking.specs.Answers.{frame_head}
use Rattle.std.proofs.lemmas.Bool.{and_parts}
use Rattle.std.proofs.lemmas.Bool.Decides.{nat_tests}
use Rattle.desk_asking.specs.Desks.{desk_text, is_key, is_key_digit}

-- one byte, and two before others
pub one_of : (xs : List ℕ) → length xs ≡ 1 → xs ≡ get_or xs 0 0 ∷ []
one_of [] e = cc e
one_of (x ∷ []) e = refl
one_of (x ∷ y ∷ xs) e = cc e

pub two_of : (xs : List ℕ) → 2 ≤ length xs → xs ≡ get_or xs 0 0 ∷ (get_or xs 1 0 ∷ drop 2 xs)
two_of [] le = absurd (omega (arith, le))
two_of (x ∷ []) le = absurd (omega (arith, le))
two_of (x ∷ y ∷ xs) le = refl

-- what was taken is one byte
pub byte_taken : (a b : Option (List ℕ)) (xs : List ℕ) → length xs ≡ 1 → Consumes a b xs
    → Consumes a b (get_or xs 0 0 ∷ [])
byte_taken a b xs one taken = subst (Consumes a b) (one_of xs one) taken

-- a line that says a frame's head was taken
pub head_taken : (a b : Option (List ℕ)) (line : List ℕ) (kind size : ℕ)
    → line ≡ kind ∷ (32 ∷ decimal size)
    → Consumes a b (line ++ 10 ∷ []) → Consumes a b (frame_head kind size)
head_taken a b line kind size is taken = subst (λ (l : List ℕ). Consumes a b (l ++ 10 ∷ [])) is taken

-- a number's text is text
pub decimal_is_text : (n : ℕ) (text : List ℕ) → n < 2 ^ 64 → text ≡ decimal n → IsUtf8 text
decimal_is_text n text fits is = subst IsUtf8 (sym is) (IsUtf8-from_ascii (decimal n) (IsAscii-decimal n fits))

-- and parses to it
pub decimal_parses : {F : Type 0} (n : ℕ) (text : List ℕ) (r : Result ℕ F) → n < 2 ^ 64
    → ParsesUnsigned 64 10 text r
    → text ≡ decimal n → r ≡ Ok n
decimal_parses n text r fits parses is = parse-decimal 64 n text r fits fits is parses

-- ---- where a desk listens

desk_shape : (port key : List ℕ) → port ++ (32 ∷ (key ++ 10 ∷ [])) ≡ ((port ++ 32 ∷ []) ++ key) ++ 10 ∷ []
desk_shape port key = sym (append_assoc (port ++ 32 ∷ []) key (10 ∷ [])
    ∙ append_assoc port (32 ∷ []) (key ++ 10 ∷ []))

-- a text of these parts
pub text_of_desk : (text line front key : List ℕ) (port : ℕ) → text ≡ line ++ 10 ∷ []
    → line ≡ front ++ key
    → front ≡ decimal port ++ 32 ∷ [] → text ≡ desk_text port key
text_of_desk text line front key port p q r =
    p ∙ ap (λ (l : List ℕ). l ++ 10 ∷ []) (q ∙ ap (λ (f : List ℕ). f ++ key) r)
    ∙ sym (desk_shape (decimal port) key)

-- what stands before its end
pub line_of_desk : (text line : List ℕ) (port : ℕ) (key : List ℕ) → text ≡ desk_text port key
    → text ≡ line ++ 10 ∷ []
    → line ≡ (decimal port ++ 32 ∷ []) ++ key
line_of_desk text line port key p q =
    append_cancel_right line ((decimal port ++ 32 ∷ []) ++ key) (10 ∷ [])
    (sym q ∙ p ∙ desk_shape (decimal port) key)

-- and the whole of it
pub end_of_desk : (text : List ℕ) (port : ℕ) (key : List ℕ) → text ≡ desk_text port key
    → text ≡ ((decimal port ++ 32 ∷ []) ++ key) ++ 10 ∷ []
end_of_desk text port key p = p ∙ desk_shape (decimal port) key

-- a list is cut before its last so many in one way
pub same_parts : (line front key front' key' : List ℕ) → line ≡ front ++ key → line ≡ front' ++ key'
    → length key ≡ length key' → (front ≡ front') × (key ≡ key')
same_parts line front key front' key' p q long =
    (fronts, append_cancel_left front key key' (sym p ∙ q ∙ ap (λ (f : List ℕ). f ++ key') (sym fronts)))
  where
    size : length front ≡ length front'
    size =
        let one = length-append front key in
        let other = length-append front' key' in
        let both : length (front ++ key) ≡ length (front' ++ key') = ap length (sym p ∙ q) in
        omega (arith, one, other, both, long)

    fronts : front ≡ front'
    fronts =
        sym (take-append_seam front key) ∙ ap (λ (l : List ℕ). take (length front) l) (sym p ∙ q)
        ∙ ap (λ (n : ℕ). take n (front' ++ key')) size ∙ take-append_seam front' key'

-- the last byte of a list is one
pub last_of : (xs ys : List ℕ) (a b : ℕ) → xs ++ a ∷ [] ≡ ys ++ b ∷ [] → a ≡ b
last_of xs ys a b e =
    let same : a ∷ [] ≡ b ∷ [] = (same_parts (xs ++ a ∷ []) xs (a ∷ []) ys (b ∷ []) refl e refl).1 in
    cc same

-- a list with a last byte has one
pub has_last : (xs ys : List ℕ) (a : ℕ) → length xs ≡ 0 → xs ≡ ys ++ a ∷ [] → ⊥
has_last xs ys a none is =
    let all : length xs ≡ length ys + 1 = ap length is ∙ length-append ys (a ∷ []) in
    omega (arith, all, none)

-- ---- a text that says it

pub key_long : (key : List ℕ) → is_key key ≡ true → length key ≡ 32
key_long key good =
    let first : nat_eq (length key) 32 ≡ true =
    (and_parts (nat_eq (length key) 32) (list_all is_key_digit key) good).0 in
    grind (arith, nat_tests, first)

-- its line is no shorter than a key
pub line_long : (text line : List ℕ) (port : ℕ) (key : List ℕ) → text ≡ line ++ 10 ∷ []
    → is_key key ≡ true
    → text ≡ desk_text port key → 32 ≤ length line
line_long text line port key cut good is =
    let whole = line_of_desk text line port key is cut in
    let size : length line ≡ length (decimal port ++ 32 ∷ []) + length key =
    ap length whole ∙ length-append (decimal port ++ 32 ∷ []) key in
    let long = key_long key good in
    omega (arith, size, long)

-- what stands before the last 32 bytes of the line is the port and a space, and they are the key
pub line_parts : (text line front back : List ℕ) (port : ℕ) (key : List ℕ) → text ≡ line ++ 10 ∷ []
    → line ≡ front ++ back → length back ≡ 32 → is_key key ≡ true → text ≡ desk_text port key
    → (front ≡ decimal port ++ 32 ∷ []) × (back ≡ key)
line_parts text line front back port key cut split long good is =
    same_parts line front back (decimal port ++ 32 ∷ []) key split (line_of_desk text line port key is cut)
    (long ∙ sym (key_long key good))

-- three texts that were put one after the other
pub three_put : (a b c d x y z : List ℕ) → b ≡ a ++ x → c ≡ b ++ y → d ≡ c ++ z
    → d ≡ a ++ (x ++ (y ++ z))
three_put a b c d x y z p q r =
    r ∙ ap (λ (l : List ℕ). l ++ z) (q ∙ ap (λ (l : List ℕ). l ++ y) p) ∙ append_assoc (a ++ x) y z
    ∙ append_assoc a x (y ++ z)

-- two
pub two_put : (a b c x y : List ℕ) → b ≡ a ++ x → c ≡ b ++ y → c ≡ a ++ (x ++ y)
two_put a b c x y p q = q ∙ ap (λ (l : List ℕ). l ++ y) p ∙ append_assoc a x y
