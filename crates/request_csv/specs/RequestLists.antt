-- Which text is a list of which requests, and which fault of a text is met first (profile, over RFC 4180 as `csv`
-- reads it).
use Rattle.std.specs.Prelude.{◌≡◌, ◌≢◌, ◌⊎◌, ◌+◌, ℕ, List, [], ◌∷◌, length}
use Rattle.std.specs.List.{AllZip}
use Rattle.csv.specs.Reading.{AreRecords, Reached, default_config, strip_bom}
use Rattle.csv.specs.Records.{AllText}
use Rattle.csv.specs.declared.parser.State.{State}
use Rattle.csv.specs.declared.parser.State.TheVariants as st
use Rattle.sheet_types.specs.declared.command.Request.{Request}
use Rattle.request_csv.specs.Requests.{header, IsRequest}
use Rattle.request_csv.specs.declared.lists.ReadFault.{ReadFault}
use Rattle.request_csv.specs.declared.lists.ReadFault.TheVariants.{Header, Record, Read}
use Rattle.request_csv.specs.declared.records.Ending.{Ending}
use Rattle.request_csv.specs.declared.records.Ending.TheVariants as ending

-- a record that can be judged: UTF-8, with a field for each column
abbrev pub IsReadable : List (List ℕ) → Type 0
IsReadable fields = AllText fields × (length fields ≡ 18)

-- a record that is this request
abbrev pub Asks : List (List ℕ) → Request → Type 0
Asks fields request = IsReadable fields × IsRequest fields request

-- a record that can be judged, and is no request
abbrev pub AsksNothing : List (List ℕ) → Type 0
AsksNothing fields = IsReadable fields × ((request : Request) → ¬ IsRequest fields request)

-- the header, and after it one record for each of these requests
abbrev pub AreList : List (List (List ℕ)) → List Request → Type 0
AreList [] requests = ⊥
AreList (first ∷ rows) requests = (first ≡ header) × AllZip Asks rows requests

-- the fault that is met first in records after the header, the first of which has this number
abbrev pub IsFaultFrom : ℕ → List (List (List ℕ)) → ReadFault → Type 0
IsFaultFrom number [] fault = ⊥
IsFaultFrom number (fields ∷ rows) fault = ((fault ≡ Read) × ¬ IsReadable fields)
    ⊎ ((fault ≡ Record number) × AsksNothing fields)
    ⊎ ((request : Request) × Asks fields request × IsFaultFrom (number + 1) rows fault)

-- the fault that is met first in the records of a list
abbrev pub IsFaultOf : List (List (List ℕ)) → ReadFault → Type 0
IsFaultOf [] fault = ⊥
IsFaultOf (first ∷ rows) fault = ((fault ≡ Read) × ¬ AllText first)
    ⊎ ((fault ≡ Header) × AllText first × (first ≢ header))
    ⊎ ((first ≡ header) × IsFaultFrom 1 rows fault)

-- nothing in these records is a fault, whatever follows
abbrev pub AreFaultless : List (List (List ℕ)) → Type 0
AreFaultless rows = (rows ≡ []) ⊎ ((requests : List Request) × AreList rows requests)

-- the fault that the end of the records brings: none came, or the reader failed after them
abbrev pub IsFaultOfEnd : List (List (List ℕ)) → Ending → ReadFault → Type 0
IsFaultOfEnd rows ending.End fault = (fault ≡ Header) × (rows ≡ [])
IsFaultOfEnd rows ending.Failed fault = (fault ≡ Read) × AreFaultless rows
IsFaultOfEnd rows ending.Memory fault = ⊥

-- these are the first records of a text
abbrev pub AreFirstRecords : List ℕ → List (List (List ℕ)) → Type 0
AreFirstRecords text rows = (state : State) × (rest : List ℕ)
    × Reached default_config st.StartRecord (strip_bom text) rows state rest

-- these are all the records of a text
abbrev pub AreAllRecords : List ℕ → List (List (List ℕ)) → Type 0
AreAllRecords text rows = AreRecords default_config st.StartRecord (strip_bom text) rows

-- a text that is a list of these requests
abbrev pub IsList : List ℕ → List Request → Type 0
IsList text requests = (rows : List (List (List ℕ))) × AreAllRecords text rows × AreList rows requests

-- the fault that a text meets first: it has no record, or some records at its start show it
abbrev pub MeetsFirst : List ℕ → ReadFault → Type 0
MeetsFirst text fault = ((fault ≡ Header) × AreAllRecords text [])
    ⊎ ((rows : List (List (List ℕ))) × AreFirstRecords text rows × IsFaultOf rows fault)
