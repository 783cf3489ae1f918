-- Texts that are read: digests, numbers, UUIDs, frames. Profile, over RFC 9562 (UUIDs) and FIPS 180-4 (digests).
use Rattle.std.specs.Prelude.{◌≡◌, ℕ, ◌+◌, ◌*◌, ◌/◌, ◌%◌, ℤ, List, [], ◌∷◌, length}
use Rattle.std.specs.Prelude.{map, Option, FitsSigned}
use Rattle.std.specs.Int.{w64}
use Rattle.std.specs.List.{join_with_byte, AllByRecursion}
use Rattle.std.specs.Fmt.{signed_decimal}
use Rattle.std.specs.Option.{option_map_or}
use Rattle.hex.specs.Hex.{IsBytes}
use Rattle.sheet_types.specs.Texts.{spaced, uuid_text}
use Rattle.sheet_types.specs.declared.frame.Frame.{Frame}
use Rattle.sheet_types.specs.declared.frame.Rect.{Rect}

-- 32 bytes
pub record IsDigest (digest : List ℕ) : Type 0 where
  pub long : length digest ≡ 32
  pub bytes : IsBytes digest

-- the value of a lower-case hexadecimal digit by its code, 48 to 57 or 97 to 102; of any other code some number below
-- 16
abbrev pub digit_value : ℕ → ℕ
digit_value c = (c % 16 + 9 * (c / 64)) % 16

-- a rectangle as a line has it
abbrev pub rect_text : Rect → List ℕ
rect_text r = spaced (signed_decimal r.zoom ∷ signed_decimal r.column ∷ signed_decimal r.last_column
    ∷ signed_decimal r.row ∷ signed_decimal r.last_row ∷ [])

-- the stored text of a UUID, or the empty text where there is none
abbrev pub optional_uuid_text : Option (List ℕ) → List ℕ
optional_uuid_text id = option_map_or uuid_text id []

-- numbers with single commas between them
abbrev pub numbers_text : List ℤ → List ℕ
numbers_text numbers = join_with_byte 44 (map signed_decimal numbers)

-- the eleven numbers of a frame, in the order in which they are written
abbrev pub frame_numbers : Frame → List ℤ
frame_numbers f =
    f.srs_id ∷ f.min_x ∷ f.min_y ∷ f.max_x ∷ f.max_y ∷ f.tile_width ∷ f.tile_height
    ∷ f.first_zoom ∷ f.levels ∷ f.matrix_width ∷ f.matrix_height ∷ []

abbrev pub frame_text : Frame → List ℕ
frame_text f = numbers_text (frame_numbers f)

-- each of its numbers fits 64 bits
abbrev pub IsInRange : Frame → Type 0
IsInRange f = AllByRecursion (FitsSigned w64) (frame_numbers f)
