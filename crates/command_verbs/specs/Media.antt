-- The type of a medium by its first bytes: ISO 15948, 5.2 (PNG), ITU-T T.81, Annex B (JPEG), ISO 32000-1, 7.5.2
-- (PDF). The order is profile.
use Rattle.std.specs.Prelude.{ℕ, Bool, not, ◌==◌, ◌&&◌, ◌||◌, nat_le, List, [], ◌∷◌, codes}
use Rattle.std.specs.Prelude.{Option, Some, None}
use Rattle.std.specs.Prelude.{if◌then◌else◌, length}
use Rattle.std.specs.List.{list_all, starts_with}
use Rattle.command_verbs.specs.declared.media.MediaType.{MediaType}
use Rattle.command_verbs.specs.declared.media.MediaType.TheVariants.{Png, Jpeg, Pdf, Plain}

abbrev pub type_name : MediaType → List ℕ
type_name Png = codes "image/png"
type_name Jpeg = codes "image/jpeg"
type_name Pdf = codes "application/pdf"
type_name Plain = codes "text/plain"

abbrev pub has_front : List ℕ → List ℕ → Bool
has_front bytes front = starts_with (λ a b. a == b) bytes front

-- printable ASCII, a tab, or a part of an end of line
abbrev pub is_plain : ℕ → Bool
is_plain b = (nat_le 32 b && nat_le b 126) || (b == 9) || (b == 10) || (b == 13)

abbrev pub is_plain_text : List ℕ → Bool
is_plain_text bytes = not (length bytes == 0) && list_all is_plain bytes

abbrev pub png : List ℕ
png = 137 ∷ 80 ∷ 78 ∷ 71 ∷ 13 ∷ 10 ∷ 26 ∷ 10 ∷ []

abbrev pub jpeg : List ℕ
jpeg = 255 ∷ 216 ∷ 255 ∷ []

abbrev pub pdf : List ℕ
pdf = codes "%PDF-"

abbrev pub media_type : List ℕ → Option MediaType
media_type bytes =
    if has_front bytes png then Some Png
    else (if has_front bytes jpeg then Some Jpeg
    else (if has_front bytes pdf then Some Pdf
    else (if is_plain_text bytes then Some Plain else None)))
