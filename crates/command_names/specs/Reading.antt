-- Which words can begin the text of a UUID. Profile, over RFC 9562 (UUIDs).
use Rattle.std.specs.Prelude.{◌+◌, ◌==◌, ◌&&◌, ◌||◌, [], ◌∷◌, ℕ, Bool, true, List, length}
use Rattle.std.specs.Prelude.{nat_le, nat_lt}
use Rattle.std.specs.Prelude.{if◌then◌else◌}

abbrev pub is_hex : ℕ → Bool
is_hex byte = (nat_le 48 byte && nat_le byte 57) || (nat_le 65 byte && nat_le byte 70) ||
    (nat_le 97 byte && nat_le byte 102)

-- where the text of a UUID has a hyphen
abbrev pub is_hyphen : ℕ → Bool
is_hyphen at = (at == 8) || (at == 13) || (at == 18) || (at == 23)

-- a character can stand at a place of it
abbrev pub fits_at : ℕ → ℕ → Bool
fits_at at byte = if is_hyphen at then byte == 45 else nat_lt at 36 && is_hex byte

-- each of these can, the first at this place
abbrev pub fits : ℕ → List ℕ → Bool
fits at [] = true
fits at (byte ∷ bytes) = fits_at at byte && fits (at + 1) bytes

-- A name has at least four characters.
abbrev pub can_begin : List ℕ → Bool
can_begin word = nat_le 4 (length word) && fits 0 word
