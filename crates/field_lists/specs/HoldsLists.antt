-- Which text is a list of which entries, and which fault of a text is met first (profile, over RFC 4180 as `csv`
-- reads it).
use Rattle.std.specs.Prelude.{◌≡◌, ◌≢◌, ◌⊎◌, ◌+◌, ℕ, Bool, true, false, List, [], ◌∷◌}
use Rattle.std.specs.Prelude.{length}
use Rattle.std.specs.List.{AllZip}
use Rattle.csv.specs.Reading.{AreRecords, Reached, default_config, strip_bom}
use Rattle.csv.specs.Records.{AllText}
use Rattle.csv.specs.declared.parser.State.{State}
use Rattle.csv.specs.declared.parser.State.TheVariants as st
use Rattle.field_lists.specs.declared.entries.Listed.{Listed}
use Rattle.field_lists.specs.Listed.{header, IsListed}
use Rattle.field_lists.specs.declared.lists.ListFault.{ListFault}
use Rattle.field_lists.specs.declared.lists.ListFault.TheVariants.{Header, Record, Read, Memory}

-- a record that can be judged: UTF-8, with a field for each column
abbrev pub IsReadable : List (List ℕ) → Type 0
IsReadable fields = AllText fields × (length fields ≡ 12)

-- a record that is this entry
abbrev pub Lists : List (List ℕ) → Listed → Type 0
Lists fields entry = IsReadable fields × IsListed fields entry

-- a record that can be judged, and is no entry
abbrev pub ListsNothing : List (List ℕ) → Type 0
ListsNothing fields = IsReadable fields × ((entry : Listed) → ¬ IsListed fields entry)

-- the header, and after it one record for each of these entries
abbrev pub AreList : List (List (List ℕ)) → List Listed → Type 0
AreList [] entries = ⊥
AreList (first ∷ rows) entries = (first ≡ header) × AllZip Lists rows entries

-- the fault that is met first in records after the header, the first of which has this number
abbrev pub IsFaultFrom : ℕ → List (List (List ℕ)) → ListFault → Type 0
IsFaultFrom number [] fault = ⊥
IsFaultFrom number (fields ∷ rows) fault = ((fault ≡ Read) × ¬ IsReadable fields)
    ⊎ ((fault ≡ Record number) × ListsNothing fields)
    ⊎ ((entry : Listed) × Lists fields entry × IsFaultFrom (number + 1) rows fault)

-- the fault that is met first in the records of a list
abbrev pub IsFaultOf : List (List (List ℕ)) → ListFault → Type 0
IsFaultOf [] fault = ⊥
IsFaultOf (first ∷ rows) fault = ((fault ≡ Read) × ¬ AllText first)
    ⊎ ((fault ≡ Header) × AllText first × (first ≢ header))
    ⊎ ((first ≡ header) × IsFaultFrom 1 rows fault)

-- the records so far have no fault: none came, or there is a header, and one record for each of these entries
abbrev pub AreBegun : Bool → List (List (List ℕ)) → List Listed → Type 0
AreBegun false rows entries = (rows ≡ []) × (entries ≡ [])
AreBegun true rows entries = AreList rows entries

-- the fault of a reader that gave no more: it failed, unless it never does, or memory was wanting
abbrev pub IsOfReader : Type 0 → ListFault → Type 0
IsOfReader NeverFails fault = (fault ≡ Memory) ⊎ ((fault ≡ Read) × ¬ NeverFails)

-- these are the first records of a text
abbrev pub AreFirstRecords : List ℕ → List (List (List ℕ)) → Type 0
AreFirstRecords text rows = (state : State) × (rest : List ℕ)
    × Reached default_config st.StartRecord (strip_bom text) rows state rest

-- these are all the records of a text
abbrev pub AreAllRecords : List ℕ → List (List (List ℕ)) → Type 0
AreAllRecords text rows = AreRecords default_config st.StartRecord (strip_bom text) rows

-- a text that is a list of these entries
abbrev pub IsList : List ℕ → List Listed → Type 0
IsList text entries = (rows : List (List (List ℕ))) × AreAllRecords text rows × AreList rows entries

-- the fault that a text meets first: it has no record, or some records at its start show it
abbrev pub MeetsFirst : List ℕ → ListFault → Type 0
MeetsFirst text fault = ((fault ≡ Header) × AreAllRecords text [])
    ⊎ ((rows : List (List (List ℕ))) × AreFirstRecords text rows × IsFaultOf rows fault)
