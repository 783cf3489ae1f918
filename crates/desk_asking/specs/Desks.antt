-- The text that says where a desk listens, and the key of those who may ask it. Profile.
use Rattle.std.specs.Prelude.{ℕ, List, [], ◌∷◌, ◌++◌, length, decimal, Bool, ◌&&◌, ◌||◌, nat_eq}
use Rattle.std.specs.Prelude.{nat_le}
use Rattle.std.specs.List.{list_all}

-- a hexadecimal digit, letters in lower case
abbrev pub is_key_digit : ℕ → Bool
is_key_digit byte = nat_le 48 byte && nat_le byte 57 || nat_le 97 byte && nat_le byte 102

-- 32 of them
abbrev pub is_key : List ℕ → Bool
is_key text = nat_eq (length text) 32 && list_all is_key_digit text

-- the port, the key, and the end of the line
abbrev pub desk_text : ℕ → List ℕ → List ℕ
desk_text port key = decimal port ++ (32 ∷ (key ++ 10 ∷ []))
