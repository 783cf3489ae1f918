-- What the members of a JSON object are (RFC 8259, as `serde_json` reads it). Profile.
use Rattle.std.specs.Prelude.{◌≡◌, ◌≢◌, ℕ, ℤ, List, Option, Some, None, Ok, ◌⊎◌, [], ◌∷◌}
use Rattle.std.specs.Prelude.{option_and_then, IsUtf8}
use Rattle.uuid.specs.Text.{parsed_hyphenated}
use Rattle.hex.specs.Hex.{decode_of}
use Rattle.serde_json.specs.Data.{Data}
use Rattle.serde_json.specs.Read.{read}
use Rattle.serde_json.specs.Find.{get, as_str, as_number, as_i64}

-- the bytes are JSON, and this is its value; of a member that comes again the last stays
abbrev pub JsonIs : List ℕ → Data → Type 0
JsonIs bytes d = IsUtf8 bytes × (read bytes ≡ Some d)

-- the text of the member of this name, if there is one and it is a string
abbrev pub text_member : Data → List ℕ → Option (List ℕ)
text_member d name = option_and_then as_str (get name d)

-- the number of the member of this name, if there is one and it is whole and fits 64 bits with a sign
abbrev pub number_member : Data → List ℕ → Option ℤ
number_member d name = option_and_then as_i64 (option_and_then as_number (get name d))

-- the member of this name is this text
abbrev pub IsTextAt : Data → List ℕ → List ℕ → Type 0
IsTextAt d name text = text_member d name ≡ Some text

-- it is the hyphenated form of this UUID, digits in either case
abbrev pub IsUuidAt : Data → List ℕ → List ℕ → Type 0
IsUuidAt d name id = option_and_then parsed_hyphenated (text_member d name) ≡ Some id

-- it is this whole number
abbrev pub IsNumberAt : Data → List ℕ → ℤ → Type 0
IsNumberAt d name number = number_member d name ≡ Some number

-- it is these bytes in hexadecimal, an even number of digits in either case
pub record IsHexAt (d : Data) (name : List ℕ) (bytes : List ℕ) : Type 0 where
  pub text : List ℕ
  pub there : IsTextAt d name text
  pub digits : decode_of text ≡ Ok bytes

-- a name is one of these
unfoldable pub IsOneOf : List (List ℕ) → List ℕ → Type 0
IsOneOf [] name = ⊥
IsOneOf (known ∷ names) name = (known ≡ name) ⊎ IsOneOf names name

-- there is no member but of these names
abbrev pub HasNoOther : Data → List (List ℕ) → Type 0
HasNoOther d names = (name : List ℕ) → get name d ≢ None → IsOneOf names name
