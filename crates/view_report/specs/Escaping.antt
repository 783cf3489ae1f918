-- Foreign text in a page (HTML 5): no character of it ends an element or an attribute, and none turns around what
-- follows. Profile.
use Rattle.std.specs.Prelude.{ℕ, ◌+◌, ◌%◌, Bool, ◌&&◌, ◌||◌, ◌==◌, nat_le, nat_lt}
use Rattle.std.specs.Prelude.{if◌then◌else◌, List, codes, flat_map}
use Rattle.std.specs.Char.{encode_utf8}
use Rattle.std.specs.Str.{chars}

-- a control of ASCII
abbrev pub is_control : ℕ → Bool
is_control c = nat_lt c 32 || c == 127

-- a character that HTML does not allow, or one that turns the text behind it around
abbrev pub is_unseen : ℕ → Bool
is_unseen c =
    (nat_le 128 c && nat_le c 159) || (nat_le 8234 c && nat_le c 8238) || (nat_le 8294 c && nat_le c 8297)
    || (nat_le 64976 c && nat_le c 65007) || nat_le 65534 (c % 65536)

-- the picture of a control
abbrev pub control_picture : ℕ → ℕ
control_picture c = if c == 127 then 9249 else 9216 + c

-- a character as it is seen: a control as its picture, an unseen one as U+FFFD
abbrev pub shown_code : ℕ → ℕ
shown_code c = if is_control c then control_picture c else (if is_unseen c then 65533 else c)

-- a character in a text or in an attribute between double quotes
abbrev pub escaped_code : ℕ → List ℕ
escaped_code c =
    if c == 38 then codes "&amp;" else if c == 60 then codes "&lt;" else if c == 62 then codes "&gt;"
    else if c == 34 then codes "&quot;" else if c == 39 then codes "&#39;" else encode_utf8 (shown_code c)

abbrev pub escaped : List ℕ → List ℕ
escaped text = flat_map escaped_code (chars text)

-- a character of text that is to be read byte for byte: no element begins with it
abbrev pub raw_code : ℕ → List ℕ
raw_code c =
    if c == 38 then codes "&amp;" else if c == 60 then codes "&lt;" else if c == 62 then codes "&gt;" else encode_utf8 c

abbrev pub raw_text : List ℕ → List ℕ
raw_text text = flat_map raw_code (chars text)

-- a character of a moment: the time stands apart from the day
abbrev pub moment_code : ℕ → List ℕ
moment_code c = if c == 84 then codes " <span>" else if c == 90 then codes "</span>" else escaped_code c

abbrev pub moment_text : List ℕ → List ℕ
moment_text at = flat_map moment_code (chars at)
