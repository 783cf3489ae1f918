-- Fields one after the other, and the digits of a length.
use Rattle.std.proofs.Common.{◌≡◌, ◌≤◌, ◌<◌, ◌+◌, ◌*◌, ◌∙◌, ℕ, Bool, true, false}
use Rattle.std.proofs.Common.{List, [], ◌∷◌, ◌++◌, length, map}
use Rattle.std.proofs.Common.{take, get_or, refl, ap, arith, nat_lt, nat_le}
use Rattle.std.specs.List.{list_all}
use Rattle.std.specs.Char.{digit_value, is_ascii_digit}
use Rattle.std.specs.Str.Parse.{digits_value, digits_value_after}
use Rattle.std.proofs.lemmas.List.{take_more}
use Rattle.std.proofs.lemmas.List.Sums.{list_all-from_AllPass}
use Rattle.httparse.specs.Grammar.{AllPass}
use Rattle.httparse.specs.Spans.{header_bytes}
use Rattle.httparse.specs.declared.spans.HeaderSpan.{HeaderSpan}
use Rattle.desk_calls.specs.Calls.{AreValues, digits_ask, is_named, length_asks, values_of}
use Rattle.desk_calls.specs.declared.calls.Asked.TheVariants.{Now}
use Rattle.desk_calls.specs.declared.calls.Call.TheVariants.{Refused}
use Rattle.desk_calls.specs.declared.calls.Flaw.TheVariants.{TooLarge}
use Rattle.desk_calls.specs.declared.lengths.Values.{Values}
use Rattle.desk_calls.specs.declared.lengths.Values.TheVariants.{More}

-- a second value
pub second : (before : List (List ℕ)) (one value : List ℕ) → before ≡ one ∷ []
    → AreValues (before ++ value ∷ []) More
second before one value e = (one, value, [], ap (λ l. l ++ value ∷ []) e)

-- one more of many
pub yet_more : (before : List (List ℕ)) (value : List ℕ) → AreValues before More
    → AreValues (before ++ value ∷ []) More
yet_more before value (one, other, more, e) = (one, other, more ++ value ∷ [], ap (λ l. l ++ value ∷ []) e)

-- the values of fields and more fields
values_append : (name : List ℕ) (fields others : List (List ℕ × List ℕ))
    → values_of name (fields ++ others) ≡ values_of name fields ++ values_of name others
values_append name [] others = refl
values_append name (field ∷ fields) others = go (is_named name field) refl (values_append name fields others)
  where
    go : (b : Bool) → is_named name field ≡ b → values_of name (fields ++ others) ≡ values_of name fields
        ++ values_of name others
        → values_of name (field ∷ fields ++ others) ≡ values_of name (field ∷ fields) ++ values_of name others
    go true e more = rw e (ap (λ l. field.1 ∷ l) more)
    go false e more = rw e more

spread : (input : List ℕ) (headers others : List HeaderSpan)
    → map (header_bytes input) (headers ++ others) ≡ map (header_bytes input) headers
    ++ map (header_bytes input) others
spread input [] others = refl
spread input (header ∷ headers) others = ap (λ l. header_bytes input header ∷ l) (spread input headers others)

-- the values of one field more
values_more : (name input : List ℕ) (headers : List HeaderSpan) (i : ℕ) (d : HeaderSpan) → i < length headers
    → values_of name (map (header_bytes input) (take (i + 1) headers))
    ≡ values_of name (map (header_bytes input) (take i headers))
    ++ values_of name (header_bytes input (get_or headers i d) ∷ [])
values_more name input headers i d within =
    let header = get_or headers i d in
    ap (λ l. values_of name (map (header_bytes input) l)) (take_more headers i d within)
    ∙ ap (values_of name) (spread input (take i headers) (header ∷ []))
    ∙ values_append name (map (header_bytes input) (take i headers)) (header_bytes input header ∷ [])

pub fields_step : (name input : List ℕ) (headers : List HeaderSpan) (i : ℕ) (d : HeaderSpan) (found : Values)
    → i < length headers
    → AreValues (values_of name (map (header_bytes input) (take i headers))
    ++ values_of name (header_bytes input (get_or headers i d) ∷ [])) found
    → AreValues (values_of name (map (header_bytes input) (take (i + 1) headers))) found
fields_step name input headers i d found within are = rw (values_more name input headers i d within) are

-- digits that follow do not make a number smaller
goes_up : (n : ℕ) (digits : List ℕ) → n ≤ digits_value_after 10 n digits
goes_up n [] = omega arith
goes_up n (c ∷ digits) = let up = goes_up (n * 10 + digit_value c) digits in omega arith

-- a number that is too large before its last digit
pub too_large : (n : ℕ) (digits text : List ℕ) → 2200000 < n
    → digits_value_after 10 n digits ≡ digits_value 10 text
    → Now (Refused TooLarge) ≡ digits_ask text
too_large n digits text large same =
    let up = goes_up n digits in
    let over : nat_lt 2200000 (digits_value 10 text) ≡ true = grind (arith, up, same) in
    rw over refl

-- one to nine digits
pub length_is : (text : List ℕ) → 0 < length text → length text ≤ 9 → AllPass is_ascii_digit text
    → digits_ask text ≡ length_asks text
length_is text some few digits =
    let low : nat_le 1 (length text) ≡ true = grind arith in
    let high : nat_le (length text) 9 ≡ true = grind arith in
    let all : list_all is_ascii_digit text ≡ true = list_all-from_AllPass is_ascii_digit text digits in
    rw (low, high, all) refl
