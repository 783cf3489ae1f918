-- What people are told, as a table or as JSON. Profile.
use Rattle.std.specs.Prelude.{ℕ, List, ◌++◌}
use Rattle.sheet_types.specs.declared.receipt.Receipt.{Receipt}
use Rattle.view_text.specs.Ledgers.{excerpt_of}
use Rattle.view_text.specs.Packages.{status_of, strays_line}
use Rattle.view_text.specs.Ways.{way_of}
use Rattle.view_text.specs.declared.ledgers.Excerpt.{Excerpt}
use Rattle.view_text.specs.declared.packages.PackageRow.{PackageRow}
use Rattle.view_json.specs.Ledgers.{excerpt_json}
use Rattle.view_json.specs.Packages.{status_json}
use Rattle.view_json.specs.Ways.{way_json}
use Rattle.view_json.specs.declared.forms.Form.{Form}
use Rattle.view_json.specs.declared.forms.Form.TheVariants.{Table, Json}

abbrev pub told_status : Form → List PackageRow → ℕ → List ℕ
told_status Table rows strays = status_of rows ++ strays_line strays
told_status Json rows strays = status_json rows strays

abbrev pub told_excerpt : Form → List Receipt → Excerpt → List ℕ
told_excerpt Table ledger e = excerpt_of ledger e
told_excerpt Json ledger e = excerpt_json ledger e

abbrev pub told_way : Form → List ℕ → List Receipt → List ℕ
told_way Table id receipts = way_of id receipts
told_way Json id receipts = way_json id receipts
