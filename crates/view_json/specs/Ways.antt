-- The way of an item as JSON: an object for each receipt that names its identity, and a last one for where it stands.
-- Profile.
use Rattle.std.specs.Prelude.{ℕ, List, [], ◌∷◌, ◌++◌, codes, filter, map, Option}
use Rattle.serde_json.specs.Data.{Data, string, object, member, no_members}
use Rattle.sheet_types.specs.Balance.{names_identity}
use Rattle.sheet_types.specs.Texts.{uuid_text}
use Rattle.sheet_types.specs.declared.receipt.Receipt.{Receipt}
use Rattle.view_text.specs.Ways.{first_word, names_end, naming_word, place_by, speaks_of}
use Rattle.view_json.specs.Arrays.{array_text, count, end_data}

-- by how the receipt names the identity, and the values of its ends
abbrev pub naming_object : Receipt → List ℕ → Data → Data → Data
naming_object r naming from to =
    object (member (codes "as") (string naming) (member (codes "at") (string r.at)
    (member (codes "from") from (member (codes "receipt") (count r.seq)
    (member (codes "request") (string (uuid_text r.request)) (member (codes "to") to
    (member (codes "what") (string (first_word r.line)) no_members)))))))

abbrev pub naming_data : Receipt → List ℕ → Data
naming_data r naming = naming_object r naming (end_data r.source) (end_data r.target)

abbrev pub way_data : List ℕ → Receipt → Data
way_data id r = naming_data r (naming_word (names_identity id r) (names_end id r))

-- those of the receipts that name the identity, in their order
abbrev pub way_datas : List ℕ → List Receipt → List Data
way_datas id receipts = map (way_data id) (filter (speaks_of id) receipts)

abbrev pub place_data : Option (List ℕ) → Data
place_data place = object (member (codes "now") (end_data place) no_members)

abbrev pub way_json : List ℕ → List Receipt → List ℕ
way_json id receipts = array_text (way_datas id receipts ++ place_data (place_by receipts id) ∷ [])
