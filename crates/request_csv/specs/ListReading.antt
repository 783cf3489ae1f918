-- Where a reader of a list stands, and what it has read of it. Profile.
use Rattle.std.specs.Prelude.{◌≡◌, ◌⊎◌, ◌<◌, ℕ, List, Option, Some, IfSome, length}
use Rattle.csv.specs.Reading.{Reached, Ready, default_config, owned_rows_left, owned_rows_reader, reader_config}
use Rattle.csv.specs.Reading.{reader_state, reader_trim, source_of, strip_bom}
use Rattle.csv.specs.declared.parser.State.TheVariants as st
use Rattle.csv.specs.declared.reader.Trim.TheVariants as trim
use Rattle.sheet_types.specs.declared.command.Request.{Request}
use Rattle.request_csv.specs.RequestLists.{AreFirstRecords, AreList, IsList}
use Rattle.request_csv.specs.declared.lists.ReadFault.{ReadFault}
use Rattle.request_csv.specs.declared.lists.ReadFault.TheVariants.{Memory, Read}
use Rattle.request_csv.specs.declared.readers.ListReader.{ListReader}

-- the fault of a reader that gave no more: it failed, unless it never does, or memory was wanting
abbrev pub IsOfReader : Type 0 → ReadFault → Type 0
IsOfReader NeverFails fault = (fault ≡ Memory) ⊎ ((fault ≡ Read) × ¬ NeverFails)

-- a text that begins as a list of these requests: the header, and after it one record for each
abbrev pub IsBegun : List ℕ → List Request → Type 0
IsBegun text requests = (rows : List (List (List ℕ))) × AreFirstRecords text rows × AreList rows requests

-- there is a list of so many requests, and where the text is known it is that one
abbrev pub IsListOfSo : ℕ → Option (List ℕ) → Type 0
IsListOfSo count text = (requests : List Request) × (length requests ≡ count)
    × IfSome text (λ t. IsList t requests)

module _ {R : Type 0} (rem : R → Option (List ℕ)) where
  -- the first records of a text are a list of these requests, and a reader of records stands behind them
  abbrev pub IsReadTo : ListReader R → List Request → List ℕ → Type 0
  IsReadTo list requests text = (rows : List (List (List ℕ))) × (rest : List ℕ)
      × (source_of rem (owned_rows_reader list.rows) ≡ Some rest)
      × Reached default_config st.StartRecord (strip_bom text) rows (reader_state (owned_rows_reader list.rows)) rest
      × AreList rows requests

  -- a reader of a list stands behind the records of these requests
  pub record Stands (text : Option (List ℕ)) (list : ListReader R) (requests : List Request) : Type 0 where
    pub plain : reader_trim (owned_rows_reader list.rows) ≡ trim.None
    pub ready : Ready (owned_rows_reader list.rows)
    pub left : 0 < owned_rows_left list.rows
    pub config : reader_config (owned_rows_reader list.rows) ≡ default_config
    pub counted : list.count ≡ length requests
    pub read : IfSome text (IsReadTo list requests)
