-- What people are told of a world: its live packages by UUID, its ledger, the way of one item through them, and a
-- kept receipt. Profile.
use Rattle.std.specs.Prelude.{ℕ, List, [], ◌∷◌, ◌++◌, map, Option, option_map}
use Rattle.std.specs.Bool.{then_some}
use Rattle.std.specs.List.{list_any}
use Rattle.sheet_types.specs.Answers.{receipt_answer, sums_held}
use Rattle.sheet_types.specs.Custody.{ticket}
use Rattle.sheet_types.specs.World.{World, Package, receipts_of}
use Rattle.desk_replies.specs.Bodies.{receipt_text}
use Rattle.view_history.specs.Told.{moment_of}
use Rattle.view_json.specs.Forms.{told_excerpt, told_status, told_way}
use Rattle.view_json.specs.declared.forms.Form.{Form}
use Rattle.view_text.specs.Ways.{speaks_of}
use Rattle.view_text.specs.declared.ledgers.Excerpt.{Excerpt}
use Rattle.view_text.specs.declared.packages.PackageRow.{PackageRow}

-- the moment of the last receipt that names a package, if one does
abbrev pub last_change : World → List ℕ → Option (List ℕ)
last_change w p = moment_of (receipts_of w) (ticket w p)

abbrev pub package_row : World → Package → PackageRow
package_row w p =
    record {
      uuid = p.uuid;
      parent = p.parent;
      depth = p.depth;
      loan = p.loan;
      sums = sums_held p;
      changed = last_change w p.uuid;
    }

abbrev pub package_rows : World → List PackageRow
package_rows w = map (package_row w) w.packages

-- the packages, and so many files of none
abbrev pub status_text : Form → World → ℕ → List ℕ
status_text form w strays = told_status form (package_rows w) strays

-- the way of an item, if a receipt names it
abbrev pub way_answer : Form → World → List ℕ → Option (List ℕ)
way_answer form w id = then_some (list_any (speaks_of id) (receipts_of w)) (told_way form id (receipts_of w))

-- the receipts that are asked for
abbrev pub log_text : Form → World → Excerpt → List ℕ
log_text form w e = told_excerpt form (receipts_of w) e

-- the receipt of a request as the desk has it, on a line, if one is kept
abbrev pub receipt_line : World → List ℕ → Option (List ℕ)
receipt_line w id = option_map (λ r. receipt_text r ++ (10 ∷ [])) (receipt_answer w id)
