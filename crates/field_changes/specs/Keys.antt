-- What tells contents apart: a list of numbers from which a content can be read, byte by byte. Profile.
use Rattle.std.specs.Prelude.{ℕ, ℤ, pos, negsuc, unsigned_abs, Bool, List, [], ◌∷◌, ◌++◌, length}
use Rattle.std.specs.Prelude.{bytes_eq}
use Rattle.uuid.specs.Parts.{zero_bytes}
use Rattle.sheet_types.specs.declared.command.Content.{Content}
use Rattle.sheet_types.specs.declared.command.Content.TheVariants.{Tile, Media, Row}
use Rattle.sheet_types.specs.declared.command.Item.{Item}
use Rattle.sheet_types.specs.declared.receipt.MovedKind.{MovedKind}
use Rattle.sheet_types.specs.World.{kind_number}

abbrev pub sign : ℤ → ℕ
sign (pos n) = 0
sign (negsuc n) = 1

abbrev pub numbered : ℕ → ℤ → ℤ → ℤ → List ℕ
numbered kind a b c = kind ∷ sign a ∷ unsigned_abs a ∷ sign b ∷ unsigned_abs b ∷ sign c ∷ unsigned_abs c
    ∷ []

-- seven numbers: the kind, and those of a tile or a row, or the length of a content type
abbrev pub head_of : Content → List ℕ
head_of (Tile zoom column row bytes) = numbered 1 zoom column row
head_of (Media content_type bytes) = 2 ∷ length content_type ∷ 0 ∷ 0 ∷ 0 ∷ 0 ∷ 0 ∷ []
head_of (Row x y code label) = numbered 3 x y code

abbrev pub words_of : Content → List ℕ
words_of (Tile zoom column row bytes) = []
words_of (Media content_type bytes) = content_type
words_of (Row x y code label) = []

abbrev pub body_of : Content → List ℕ
body_of (Tile zoom column row bytes) = bytes
body_of (Media content_type bytes) = bytes
body_of (Row x y code label) = label

abbrev pub content_key : Content → List ℕ
content_key content = head_of content ++ (words_of content ++ body_of content)

-- two contents are one, byte by byte
abbrev pub same_content : Content → Content → Bool
same_content one other = bytes_eq (content_key one) (content_key other)

-- a number, an identity behind its length, and a content
abbrev pub key_of : ℕ → List ℕ → Content → List ℕ
key_of rank base content = rank ∷ length base ∷ (base ++ content_key content)

-- an item of a package: its identity and its content
abbrev pub item_mark : Item → List ℕ
item_mark i = key_of 0 i.identity i.content

-- a content, and how many like it stand before
abbrev pub rank_key : ℕ → Content → List ℕ
rank_key rank content = key_of rank zero_bytes content

-- a kind and a number, by which a link of a file names its ends
abbrev pub number_key : MovedKind → ℤ → List ℕ
number_key kind number = kind_number kind ∷ sign number ∷ unsigned_abs number ∷ []
