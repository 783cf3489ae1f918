-- Why a text is no list of requests: the first record that is none, and its first column that is not what it has to
-- be (profile).
use Rattle.std.specs.Prelude.{◌≡◌, ◌≢◌, ◌⊎◌, ◌+◌, ℕ, List, [], ◌∷◌, length}
use Rattle.csv.specs.Records.{AllText}
use Rattle.sheet_types.specs.declared.command.Request.{Request}
use Rattle.request_csv.specs.Forms.{IsColumnAtFault, IsFirstUnmet, header_wants}
use Rattle.request_csv.specs.Requests.{header}
use Rattle.request_csv.specs.RequestLists.{AreAllRecords, Asks, IsReadable, MeetsFirst}
use Rattle.request_csv.specs.declared.causes.RecordFault.{RecordFault}
use Rattle.request_csv.specs.declared.causes.RecordFault.TheVariants.{NoText, FieldCount, Column}
use Rattle.request_csv.specs.declared.causes.ListFault.{ListFault}
use Rattle.request_csv.specs.declared.causes.ListFault.TheVariants as cause
use Rattle.request_csv.specs.declared.lists.ReadFault.{ReadFault}
use Rattle.request_csv.specs.declared.lists.ReadFault.TheVariants as fault

-- why a record after the header is no request
abbrev pub IsRecordFault : List (List ℕ) → RecordFault → Type 0
IsRecordFault fields NoText = ¬ AllText fields
IsRecordFault fields (FieldCount count) = AllText fields × (length fields ≡ count) × (count ≢ 18)
IsRecordFault fields (Column fault) = IsReadable fields × IsColumnAtFault fields fault

-- why a first record is not the names of the columns
abbrev pub IsHeaderFault : List (List ℕ) → RecordFault → Type 0
IsHeaderFault fields NoText = ¬ AllText fields
IsHeaderFault fields (FieldCount count) = AllText fields × (length fields ≡ count) × (count ≢ 18)
IsHeaderFault fields (Column fault) = IsReadable fields × IsFirstUnmet fields 0 header_wants fault

-- the first of records after the header that is no request, and why; the first of them has this number
abbrev pub IsCauseFrom : ℕ → List (List (List ℕ)) → ListFault → Type 0
IsCauseFrom number [] why = ⊥
IsCauseFrom number (fields ∷ rows) why =
    ((met : RecordFault) × (why ≡ cause.Record number met) × IsRecordFault fields met)
    ⊎ ((request : Request) × Asks fields request × IsCauseFrom (number + 1) rows why)

-- why these records are no list
abbrev pub IsCauseOf : List (List (List ℕ)) → ListFault → Type 0
IsCauseOf [] why = why ≡ cause.NoRecord
IsCauseOf (first ∷ rows) why =
    ((met : RecordFault) × (why ≡ cause.Header met) × IsHeaderFault first met)
    ⊎ ((first ≡ header) × IsCauseFrom 1 rows why)

-- why a text is no list
abbrev pub IsCause : List ℕ → ListFault → Type 0
IsCause text why = (rows : List (List (List ℕ))) × AreAllRecords text rows × IsCauseOf rows why

-- the fault that is told of it
abbrev pub read_fault : ListFault → ReadFault
read_fault cause.NoRecord = fault.Header
read_fault (cause.Header NoText) = fault.Read
read_fault (cause.Header (FieldCount count)) = fault.Header
read_fault (cause.Header (Column at)) = fault.Header
read_fault (cause.Record number NoText) = fault.Read
read_fault (cause.Record number (FieldCount count)) = fault.Read
read_fault (cause.Record number (Column at)) = fault.Record number

-- that fault is the one that the text meets first
abbrev pub CauseIsMetFirst : Type 0
CauseIsMetFirst = (text : List ℕ) (why : ListFault) → IsCause text why → MeetsFirst text (read_fault why)
