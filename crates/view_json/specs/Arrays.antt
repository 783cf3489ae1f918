-- One JSON array (RFC 8259) over many lines: `[`, an object a line with a comma before each but the first, `]`.
-- Profile.
use Rattle.std.specs.Prelude.{◌≡◌, ℕ, Bool, true, false, List, [], ◌∷◌, ◌++◌, codes, Option}
use Rattle.std.specs.Prelude.{option_map, string_bytes}
use Rattle.std.specs.Option.{option_map_or}
use Rattle.serde_json.specs.Data.{Data, null, number, string, unsigned}
use Rattle.serde_json.specs.Written.{comma_if, compact_text}
use Rattle.sheet_types.specs.Texts.{uuid_text}
use Rattle.view_json.specs.declared.arrays.Lines.{Lines}

-- ---- the array

-- each on a line of its own; a comma stands at the end of the line before, if there is an object
abbrev pub lines : Bool → List Data → List ℕ
lines is_later [] = []
lines is_later (d ∷ ds) = comma_if is_later ++ (10 ∷ (compact_text d ++ lines true ds))

-- the array before it is closed
abbrev pub so_far : List Data → List ℕ
so_far ds = codes "[" ++ lines false ds

abbrev pub array_text : List Data → List ℕ
array_text ds = so_far ds ++ codes "\n]\n"

abbrev pub has_some : List Data → Bool
has_some [] = false
has_some (d ∷ ds) = true

-- what stands in an array that is not closed
pub record IsOpen (ds : List Data) (it : Lines) : Type 0 where
  pub text : string_bytes it.text ≡ so_far ds
  pub later : it.is_later ≡ has_some ds

-- these objects are put behind the others
abbrev pub Puts : List Data → Lines → Lines → Type 0
Puts objects old new = (ds : List Data) → IsOpen ds old → IsOpen (ds ++ objects) new

-- an object's text is put on the next line
pub record PutsLine (object : List ℕ) (old new : Lines) : Type 0 where
  pub text : string_bytes new.text ≡ string_bytes old.text ++ ((comma_if old.is_later ++ 10 ∷ []) ++ object)
  pub later : new.is_later ≡ true

-- ---- values

-- a whole number that is not negative
abbrev pub count : ℕ → Data
count n = number (unsigned n)

-- a text that may be absent
abbrev pub text_or_null : Option (List ℕ) → Data
text_or_null text = option_map_or string text null

-- a package that may be absent, by its whole UUID
abbrev pub end_data : Option (List ℕ) → Data
end_data id = text_or_null (option_map uuid_text id)
