-- What a quotation is read as.
use Rattle.std.specs.Prelude.{◌≡◌, ℕ, false, List, ◌++◌, Some}
use Rattle.field_sql.specs.Naming.{begins_with, quotation, read_quotation}

-- No name ends its quotation: before anything but a further mark, all of the name is read, and nothing else.
abbrev pub QuotationsAreRead : Type 0
QuotationsAreRead = (mark : ℕ) (name rest : List ℕ) → begins_with mark rest ≡ false
    → read_quotation mark (quotation mark name ++ rest) ≡ Some (name, rest)
