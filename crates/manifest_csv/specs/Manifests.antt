-- The manifest of a package: its items and links, one record each, as CSV (RFC 4180) in the default spelling of the
-- crate `csv`: records end with LF. UUIDs as in RFC 9562, section 4; fingerprints by FIPS 180-4, section 6.2; the
-- columns are profile.
use Rattle.std.specs.Prelude.{◌≡◌, ℕ, List, [], ◌∷◌, ◌++◌, codes, decimal, false, flat_map}
use Rattle.std.specs.Fmt.{signed_decimal}
use Rattle.hex.specs.Hex.{encode_lower}
use Rattle.csv.specs.Writing.{default_writer, fields_written, has_written, row_text, writer_setup}
use Rattle.csv.specs.declared.writer.Writer.{Writer}
use Rattle.sheet_types.specs.Texts.{fingerprint, kind_of, kind_word, mapping_word, size, uuid_text}
use Rattle.sheet_types.specs.declared.command.Content.{Content}
use Rattle.sheet_types.specs.declared.command.Content.TheVariants.{Tile, Media, Row}
use Rattle.sheet_types.specs.declared.command.Item.{Item}
use Rattle.sheet_types.specs.declared.command.Relation.{Relation}

-- the names of the columns, in their order
abbrev pub manifest_header : List (List ℕ)
manifest_header = codes "kind" ∷ codes "identity" ∷ codes "other" ∷ codes "zoom" ∷ codes "column"
    ∷ codes "row"
    ∷ codes "x" ∷ codes "y" ∷ codes "code" ∷ codes "size" ∷ codes "fingerprint" ∷ codes "text" ∷ []

-- where a content stands, from the zoom to the code
abbrev pub place_fields : Content → List (List ℕ)
place_fields (Tile zoom column row bytes) = signed_decimal zoom ∷ signed_decimal column ∷ signed_decimal row
    ∷ [] ∷ []
    ∷ [] ∷ []
place_fields (Media content_type bytes) = [] ∷ [] ∷ [] ∷ [] ∷ [] ∷ [] ∷ []
place_fields (Row x y code label) = [] ∷ [] ∷ [] ∷ signed_decimal x ∷ signed_decimal y ∷ signed_decimal code
    ∷ []

-- the content type or the label
abbrev pub text_of : Content → List ℕ
text_of (Tile zoom column row bytes) = []
text_of (Media content_type bytes) = content_type
text_of (Row x y code label) = label

abbrev pub item_fields : Item → List (List ℕ)
item_fields item =
    kind_word (kind_of item.content) ∷ uuid_text item.identity ∷ [] ∷ (place_fields item.content
    ++ (decimal (size item.content) ∷ encode_lower (fingerprint item.content) ∷ text_of item.content ∷ []))

-- a link has no place, the size 0, and neither fingerprint nor text
abbrev pub link_fields : Relation → List (List ℕ)
link_fields link = mapping_word link.mapping ∷ uuid_text link.base ∷ uuid_text link.other ∷ [] ∷ [] ∷ []
    ∷ [] ∷ []
    ∷ [] ∷ codes "0" ∷ [] ∷ [] ∷ []

-- records, one after the other
abbrev pub records_text : {X : Type 0} → (X → List (List ℕ)) → List X → List ℕ
records_text fields = flat_map (λ x. row_text default_writer (fields x))

-- the header, the items and the links, in their order
abbrev pub manifest_of : List Item → List Relation → List ℕ
manifest_of items links = row_text default_writer manifest_header
    ++ (records_text item_fields items ++ records_text link_fields links)

-- a writer with the crate's defaults that stands between two records
abbrev pub IsBetween : {W : Type 0} → Writer W → Type 0
IsBetween w = (writer_setup w ≡ default_writer) × (fields_written w ≡ 0) × (has_written w ≡ false)
