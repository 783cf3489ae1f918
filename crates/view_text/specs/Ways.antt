-- The way of an item through the packages: a line for each receipt that names its identity, and where it stands now.
-- Profile.
use Rattle.std.specs.Prelude.{ℕ, Bool, not, ◌&&◌, ◌||◌, ◌==◌, bytes_eq, if◌then◌else◌, List}
use Rattle.std.specs.Prelude.{◌++◌, codes, decimal}
use Rattle.std.specs.Prelude.{filter, flat_map, Option}
use Rattle.std.specs.List.{list_any, before_first}
use Rattle.std.specs.Option.{option_and_then, option_map_or}
use Rattle.sheet_types.specs.Balance.{names_identity}
use Rattle.sheet_types.specs.Custody.{ends_at}
use Rattle.sheet_types.specs.Ordered.{last_where}
use Rattle.sheet_types.specs.Texts.{uuid_text}
use Rattle.sheet_types.specs.World.{is_item_kind}
use Rattle.sheet_types.specs.declared.receipt.Moved.{Moved}
use Rattle.sheet_types.specs.declared.receipt.Receipt.{Receipt}
use Rattle.view_text.specs.Columns.{at_left, at_right, end_text}

-- ---- which receipts name an identity, and how

-- the thing is a link, and the identity is that of one of its two ends
abbrev pub is_end_of : List ℕ → Moved → Bool
is_end_of id m = not (is_item_kind m.kind) && (bytes_eq m.base id || ends_at m.other id)

-- the receipt moved a link that ends there
abbrev pub names_end : List ℕ → Receipt → Bool
names_end id r = list_any (is_end_of id) r.items

-- the receipt names the identity, as that of an item or of an end of a link
abbrev pub speaks_of : List ℕ → Receipt → Bool
speaks_of id r = names_identity id r || names_end id r

-- how it does
abbrev pub naming_word : Bool → Bool → List ℕ
naming_word as_item as_end = if as_item then (if as_end then codes "both" else codes "item") else codes "link"

-- the command of a receipt is the first word of its line
abbrev pub first_word : List ℕ → List ℕ
first_word line = before_first (λ c. c == 32) line

-- ---- lines

abbrev pub way_line : List ℕ → Receipt → List ℕ
way_line id r =
    at_right 10 (decimal r.seq) ++ (at_left 24 r.at ++ (at_left 36 (uuid_text r.request)
    ++ (at_left 6 (first_word r.line)
    ++ (at_left 4 (naming_word (names_identity id r) (names_end id r))
    ++ (at_left 36 (end_text r.source) ++ (end_text r.target ++ codes "\n"))))))

-- those of the receipts that name the identity, in their order
abbrev pub way_lines : List ℕ → List Receipt → List ℕ
way_lines id receipts = flat_map (way_line id) (filter (speaks_of id) receipts)

-- where an item stands by these receipts, which are in the order of their numbers: the target of the last that names
-- it itself
abbrev pub place_by : List Receipt → List ℕ → Option (List ℕ)
place_by receipts id = option_and_then (λ r. r.target) (last_where (names_identity id) receipts)

abbrev pub place_line : Option (List ℕ) → List ℕ
place_line place = codes "now " ++ (option_map_or (λ p. codes "in " ++ uuid_text p) place (codes "nowhere")
    ++ codes "\n")

abbrev pub way_of : List ℕ → List Receipt → List ℕ
way_of id receipts = way_lines id receipts ++ place_line (place_by receipts id)
