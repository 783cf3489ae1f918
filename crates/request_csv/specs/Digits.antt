-- Digits in hexadecimal as a table has them. Profile.
use Rattle.std.specs.Prelude.{◌≡◌, ◌<◌, ℕ, List, slice_index, unwrap_or}
use Rattle.hex.specs.Hex.{hex_digit_value}

-- the value of a digit in either case; 255 of any other byte
abbrev pub digit_value : ℕ → ℕ
digit_value byte = unwrap_or (hex_digit_value byte) 255

-- a table has it of each byte
abbrev pub AreDigits : List ℕ → Type 0
AreDigits values = (byte : ℕ) → byte < 256 → slice_index values byte ≡ digit_value byte
