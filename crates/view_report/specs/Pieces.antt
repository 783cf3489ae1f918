-- The pieces that recur in a page (HTML 5). Profile.
use Rattle.std.specs.Prelude.{ℕ, ◌+◌, ◌-◌, ◌%◌, ◌==◌, nat_le, List, [], ◌++◌, length, Option}
use Rattle.std.specs.Prelude.{Some, None}
use Rattle.std.specs.Prelude.{if◌then◌else◌, ℤ, codes, decimal}
use Rattle.std.specs.Fmt.{signed_decimal}
use Rattle.std.specs.Option.{option_map_or}
use Rattle.hex.specs.Hex.{encode_lower}
use Rattle.sheet_types.specs.Texts.{uuid_text}
use Rattle.view_report.specs.Escaping.{escaped}
use Rattle.view_report.specs.Registers.{live_of, name_of, thing_found}
use Rattle.view_report.specs.declared.registers.About.{About}
use Rattle.view_report.specs.declared.registers.About.TheVariants.{Sheet, Medium, Mark}
use Rattle.view_report.specs.declared.registers.Name.{Name}
use Rattle.view_report.specs.declared.registers.Register.{Register}
use Rattle.view_report.specs.declared.registers.Thing.{Thing}

-- a text of which the style shows the beginning
abbrev pub short : List ℕ → List ℕ
short text = codes "<code class=\"id\">" ++ (text ++ codes "</code>")

abbrev pub short_text : List ℕ → List ℕ
short_text id = short (uuid_text id)

abbrev pub digest_text : List ℕ → List ℕ
digest_text digest = short (encode_lower digest)

-- foreign text that keeps its own direction, where there is any
abbrev pub label_text : List ℕ → List ℕ
label_text label = if length label == 0 then [] else codes "<bdi>" ++ (escaped label ++ codes "</bdi>")

-- what people call a package or a sheet, or its UUID; and where no element may stand
abbrev pub name_text : List Name → List ℕ → List ℕ
name_text names id = option_map_or (λ n. label_text n.name) (name_of names id) (short_text id)

abbrev pub plain_name : List Name → List ℕ → List ℕ
plain_name names id = option_map_or (λ n. escaped n.name) (name_of names id) (uuid_text id)

-- ---- holders

-- the archive has a colour and a pattern of its own, loans five and seven in turn
abbrev pub colour_of : ℕ → ℕ
colour_of n = if n == 0 then 0 else (n - 1) % 5 + 1

abbrev pub pattern_of : ℕ → ℕ
pattern_of n = if n == 0 then 0 else (n - 1) % 7 + 1

abbrev pub class_text : ℕ → List ℕ
class_text n = codes "c" ++ decimal (colour_of n)

abbrev pub swatch_text : ℕ → List ℕ
swatch_text n =
    codes "<svg class=\"sw " ++ (class_text n
    ++ (codes "\" width=\"30\" height=\"16\" aria-hidden=\"true\"><rect x=\"1\" y=\"1\" width=\"28\" height=\"14\" fill=\"url(#w"
    ++ (decimal n ++ codes ")\"/></svg>")))

-- the class of a package: its colour while it lives
abbrev pub holder_class : Register → List ℕ → List ℕ
holder_class r id = option_map_or (λ p. class_text p.number) (live_of r.packages.items id) (codes "g")

abbrev pub holder_text : Register → List ℕ → List ℕ
holder_text r id =
    codes "<a class=\"h " ++ (holder_class r id ++ (codes "\" href=\"#p-" ++ (uuid_text id
    ++ (codes "\">" ++ (name_text r.names id ++ codes "</a>")))))

-- ---- receipts

-- how many receipts are not shown
abbrev pub first_shown : Register → ℕ
first_shown r = length r.receipts.items - 2000

-- the number of a receipt, which leads to its row where it has one
abbrev pub receipt_text : Register → ℕ → List ℕ
receipt_text r seq =
    if nat_le seq (first_shown r) then decimal seq
    else codes "<a href=\"#r" ++ (decimal seq ++ (codes "\">" ++ (decimal seq ++ codes "</a>")))

-- ---- how much, and what

abbrev pub word_of : ℕ → List ℕ → List ℕ → List ℕ
word_of n one many = if n == 1 then one else many

abbrev pub some_text : ℕ → List ℕ → List ℕ → List ℕ
some_text n one many = codes "<span class=\"a\">" ++ (decimal n ++ (word_of n one many ++ codes "</span>"))

abbrev pub amount_text : ℕ → List ℕ → List ℕ → List ℕ
amount_text n one many = if n == 0 then [] else some_text n one many

abbrev pub sums_text : ℕ → ℕ → ℕ → ℕ → List ℕ
sums_text tiles media rows links =
    amount_text tiles (codes " sheet") (codes " sheets") ++ (amount_text media (codes " medium") (codes " media")
    ++ (amount_text rows (codes " mark") (codes " marks") ++ amount_text links (codes " link") (codes " links")))

-- what people call a package or a sheet and a space, where they have a name for it
abbrev pub called : List Name → List ℕ → List ℕ
called names id = option_map_or (λ n. label_text n.name ++ codes " ") (name_of names id) []

-- the place of a sheet; a sheet and a mark in a few words
abbrev pub place_text : ℤ → ℤ → ℤ → List ℕ
place_text zoom column row = signed_decimal zoom ++ (codes "/"
    ++ (signed_decimal column ++ (codes "/" ++ signed_decimal row)))

abbrev pub sheet_text : List Name → List ℕ → ℤ → ℤ → ℤ → List ℕ
sheet_text names id zoom column row = called names id ++ place_text zoom column row

abbrev pub mark_text : ℤ → List ℕ → List ℕ
mark_text code label = signed_decimal code ++ (codes " " ++ label_text label)

-- what an item is, in a few words
abbrev pub told_text : List Name → List ℕ → About → List ℕ
told_text names id (Sheet zoom column row) = sheet_text names id zoom column row
told_text names id (Medium content_type) = label_text content_type
told_text names id (Mark x y code label) = mark_text code label

abbrev pub about_text : List Name → Thing → List ℕ
about_text names t = told_text names t.identity t.about

-- an item as a link that leads to its row
abbrev pub found_text : List Name → List ℕ → Thing → List ℕ
found_text names id t = codes "<a href=\"#i-" ++ (uuid_text id ++ (codes "\">" ++ (about_text names t ++ codes "</a>")))

-- an item that a receipt or a link names: told where a package holds it
abbrev pub thing_text : Register → List ℕ → List ℕ
thing_text r id = option_map_or (found_text r.names id) (thing_found r.things id) (short_text id)
