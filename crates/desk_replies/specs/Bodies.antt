-- The JSON of receipts, refusals and packages (RFC 8259): which members, and in which order. Profile.
use Rattle.std.specs.Prelude.{ℕ, List, length, map, codes, decimal, count_by, Option, Some, None}
use Rattle.serde_json.specs.Data.{Data, number, string, array, object, Members, member, no_members, unsigned}
use Rattle.serde_json.specs.View.{items_of}
use Rattle.serde_json.specs.Written.{compact_text}
use Rattle.sheet_types.specs.Answers.{loans_of, sums_held}
use Rattle.sheet_types.specs.Custody.{ends_at, ticket}
use Rattle.sheet_types.specs.Reading.{optional_uuid_text}
use Rattle.sheet_types.specs.Refusals.{refusal_name, refusal_number}
use Rattle.sheet_types.specs.Texts.{uuid_text}
use Rattle.sheet_types.specs.World.{World, Package}
use Rattle.sheet_types.specs.declared.receipt.Receipt.{Receipt}
use Rattle.sheet_types.specs.declared.refusal.Refusal.{Refusal}
use Rattle.sheet_types.specs.declared.refusal.Refusal.TheVariants.{CutLink, Stale, LoanOpen, Collides}
use Rattle.desk_replies.specs.declared.packages.Listed.{Listed}

-- a whole number that is not negative
abbrev pub count : ℕ → Data
count n = number (unsigned n)

-- ---- receipts

abbrev pub receipt_data : Receipt → Data
receipt_data r =
    object (member (codes "at") (string r.at) (member (codes "bytes") (count r.bytes)
    (member (codes "from") (string (optional_uuid_text r.source))
    (member (codes "items") (count (length r.items)) (member (codes "line") (string r.line)
    (member (codes "links") (count r.links)
    (member (codes "media") (count r.media) (member (codes "request") (string (uuid_text r.request))
    (member (codes "rows") (count r.rows)
    (member (codes "seq") (count r.seq) (member (codes "tiles") (count r.tiles)
    (member (codes "to") (string (optional_uuid_text r.target)) no_members))))))))))))

-- the body of a receipt
abbrev pub receipt_text : Receipt → List ℕ
receipt_text r = compact_text (receipt_data r)

-- ---- refusals

-- what a reason carries, as text
abbrev pub refusal_detail : Refusal → Option (List ℕ)
refusal_detail (CutLink item) = Some (uuid_text item)
refusal_detail (Stale last) = Some (decimal last)
refusal_detail (LoanOpen loan) = Some (uuid_text loan)
refusal_detail (Collides tile) = Some (uuid_text tile)
refusal_detail why = None

-- the other members after the detail, if there is one
abbrev pub with_detail : Option (List ℕ) → Members → Members
with_detail None others = others
with_detail (Some detail) others = member (codes "detail") (string detail) others

abbrev pub refusal_data : Refusal → Data
refusal_data why = object (with_detail (refusal_detail why) (member (codes "name") (string (refusal_name why))
    (member (codes "refusal") (count (refusal_number why)) no_members)))

-- the body of a refusal
abbrev pub refusal_text : Refusal → List ℕ
refusal_text why = compact_text (refusal_data why)

-- ---- packages

-- what the list says of one package, by how many loans it has
abbrev pub listed_data : Listed → ℕ → Data
listed_data p loans =
    object (member (codes "bytes") (count p.sums.bytes) (member (codes "depth") (count p.depth)
    (member (codes "links") (count p.sums.links)
    (member (codes "loans") (count loans) (member (codes "media") (count p.sums.media)
    (member (codes "package") (string (uuid_text p.uuid))
    (member (codes "parent") (string (optional_uuid_text p.parent))
    (member (codes "rows") (count p.sums.rows) (member (codes "ticket") (count p.ticket)
    (member (codes "tiles") (count p.sums.tiles) no_members))))))))))

-- how many of these packages are loans of one
abbrev pub loans_among : List Listed → List ℕ → ℕ
loans_among ps p = count_by (λ x. ends_at x.parent p) ps

abbrev pub list_data : List Listed → Data
list_data ps = array (items_of (map (λ p. listed_data p (loans_among ps p.uuid)) ps))

-- the body of a list of packages
abbrev pub list_text : List Listed → List ℕ
list_text ps = compact_text (list_data ps)

-- ---- the same of a world

-- what is to be told of a package of a world
abbrev pub listed : World → Package → Listed
listed w p = record { uuid = p.uuid; parent = p.parent; depth = p.depth; ticket = ticket w p.uuid; sums = sums_held p }

abbrev pub all_listed : World → List Listed
all_listed w = map (listed w) w.packages

abbrev pub packages_data : World → Data
packages_data w = array (items_of (map (λ p. listed_data (listed w p) (loans_of w p.uuid)) w.packages))

-- the body of the list of a world's packages
abbrev pub packages_text : World → List ℕ
packages_text w = compact_text (packages_data w)
