-- The way of the item that a word names. Profile.
use Rattle.std.specs.Prelude.{◌≡◌, ℕ, List, Option, None, option_map, string_bytes}
use Rattle.std.specs.Bool.{then_some}
use Rattle.std.specs.List.{list_any}
use Rattle.sheet_types.specs.declared.receipt.Receipt.{Receipt}
use Rattle.command_names.specs.Searching.{IsFound}
use Rattle.command_names.specs.declared.searching.Found.{Found}
use Rattle.command_names.specs.declared.searching.Found.TheVariants.{One, Two, Nearest}
use Rattle.view_text.specs.Ways.{speaks_of}
use Rattle.view_json.specs.Forms.{told_way}
use Rattle.view_json.specs.declared.forms.Form.{Form}
use Rattle.view_searches.specs.Searches.{added_of}
use Rattle.view_searches.specs.declared.ways.NamedWay.{NamedWay}

-- that of the one that was found
abbrev pub way_found : Form → List Receipt → Found → Option (List ℕ)
way_found form receipts (One id) = then_some (list_any (speaks_of id) receipts) (told_way form id receipts)
way_found form receipts (Two one other) = None
way_found form receipts (Nearest nearest) = None

-- what is found for a word among all items that receipts added, and the way of the one that it names
pub record IsNamedWay (form : Form) (receipts : List Receipt) (word : List ℕ) (it : NamedWay) : Type 0 where
  pub search : IsFound word (added_of receipts) it.found
  pub way : option_map (λ text. string_bytes text) it.text ≡ way_found form receipts it.found
