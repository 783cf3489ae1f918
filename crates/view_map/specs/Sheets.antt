-- Which sheets are drawn, in which order and over how many others. Profile.
use Rattle.std.specs.Prelude.{ℕ, ◌+◌, ◌==◌, Bool, true, false, not, List, [], ◌∷◌, ◌++◌, map}
use Rattle.std.specs.Prelude.{filter, min, nat_lt}
use Rattle.std.specs.Prelude.{count_by, if◌then◌else◌}
use Rattle.view_map.specs.Layout.{is_on, number}
use Rattle.view_map.specs.declared.holders.Place.{Place}
use Rattle.view_map.specs.declared.holders.Holder.{Holder}
use Rattle.view_map.specs.declared.layout.Layout.{Layout}
use Rattle.view_map.specs.declared.sheets.Sheet.{Sheet}

-- the places that a package has on the map
abbrev pub places_on : Layout → Holder → List Place
places_on l h = filter (is_on l) h.places.items

abbrev pub sheet_of : ℕ → List ℕ → Place → Sheet
sheet_of index uuid place = record { place = place; index = index; uuid = uuid }

-- the sheets of the package at a place of the list
abbrev pub sheets_of : Layout → ℕ → Holder → List Sheet
sheets_of l index h = map (sheet_of index h.uuid) (places_on l h)

abbrev pub is_loan : Holder → Bool
is_loan h = nat_lt 0 h.depth

-- whether a package is one of the loans, or of those that are none
abbrev pub is_wanted : Bool → Holder → Bool
is_wanted true h = is_loan h
is_wanted false h = not (is_loan h)

-- its sheets where it is
abbrev pub wanted_sheets : Layout → Bool → ℕ → Holder → List Sheet
wanted_sheets l loans index h = if is_wanted loans h then sheets_of l index h else []

-- the sheets of the loans, or of those that are none, numbered from n
unfoldable pub sheets_where : Layout → Bool → ℕ → List Holder → List Sheet
sheets_where l loans n [] = []
sheets_where l loans n (h ∷ hs) = wanted_sheets l loans n h ++ sheets_where l loans (n + 1) hs

-- all sheets in the order in which they are drawn: those of loans over those of the archive
abbrev pub all_sheets : Layout → List Holder → List Sheet
all_sheets l hs = sheets_where l false 0 hs ++ sheets_where l true 0 hs

-- how many of these places are this one, four at most
abbrev pub layer_at : List ℕ → ℕ → ℕ
layer_at below n = min 4 (count_by (λ m. m == n) below)

-- a sheet, and how many lie below it, four at most
pub record Shape : Type 0 where
  pub sheet : Sheet
  pub layer : ℕ

-- the sheets in turn, over places where some are drawn already
unfoldable pub layered : Layout → List ℕ → List Sheet → List Shape
layered l below [] = []
layered l below (s ∷ ss) =
    record { sheet = s; layer = layer_at below (number l s.place) } ∷ layered l (below ++ number l s.place ∷ []) ss

-- what is drawn
abbrev pub shapes : Layout → List Holder → List Shape
shapes l hs = layered l [] (all_sheets l hs)
