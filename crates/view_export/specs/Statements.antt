-- Pieces of SQL: literals, and statements of a line each.
use Rattle.std.specs.Prelude.{ℕ, ◌/◌, ◌%◌, Bool, not, ◌&&◌, ◌==◌, List, [], ◌∷◌, ◌++◌}
use Rattle.std.specs.Prelude.{if◌then◌else◌, ℤ, pos, int_lt}
use Rattle.std.specs.Prelude.{unsigned_abs, codes, decimal}
use Rattle.std.specs.List.{list_any}
use Rattle.hex.specs.Hex.{encode_lower}
use Rattle.sheet_types.specs.Texts.{uuid_text}

-- ---- literals

-- a number of thousandths with three decimals, as -0.250 of -250
abbrev pub thousandths : ℤ → List ℕ
thousandths x =
    (if int_lt x (pos 0) then codes "-" else [])
    ++ (decimal (unsigned_abs x / 1000) ++ (codes "." ++ (decimal (unsigned_abs x / 100 % 10)
    ++ (decimal (unsigned_abs x / 10 % 10) ++ decimal (unsigned_abs x % 10)))))

abbrev pub blob : List ℕ → List ℕ
blob bytes = codes "X'" ++ (encode_lower bytes ++ codes "'")

abbrev pub uuid_literal : List ℕ → List ℕ
uuid_literal id = codes "'" ++ (uuid_text id ++ codes "'")

-- NUL would cut a text between apostrophes, and an apostrophe end it.
abbrev pub is_plain : List ℕ → Bool
is_plain text = not (list_any (λ b. b == 0) text) && not (list_any (λ b. b == 39) text)

-- a text between apostrophes, or by its bytes where it cannot stand there
abbrev pub text_literal : List ℕ → List ℕ
text_literal text =
    if is_plain text
    then codes "'" ++ (text ++ codes "'")
    else codes "CAST(X'" ++ (encode_lower text ++ codes "' AS TEXT)")

-- ---- statements

-- values or columns with commas between them, and the end of their statement
abbrev pub ended : List (List ℕ) → List ℕ
ended [] = codes ");\n"
ended (x ∷ []) = x ++ codes ");\n"
ended (x ∷ y ∷ xs) = x ++ (codes "," ++ ended (y ∷ xs))

-- a table of these columns
abbrev pub table : List ℕ → List (List ℕ) → List ℕ
table name columns = codes "CREATE TABLE " ++ (name ++ (codes " (" ++ ended columns))

-- a row of these values; the name may have columns behind it
abbrev pub insert : List ℕ → List (List ℕ) → List ℕ
insert name values = codes "INSERT INTO " ++ (name ++ (codes " VALUES (" ++ ended values))
