-- Laws of request lists: a text is read in one way.
use Rattle.std.specs.Prelude.{◌≡◌, ◌++◌, ℕ, List}
use Rattle.sheet_types.specs.declared.command.Request.{Request}
use Rattle.request_csv.specs.ListReading.{IsBegun}
use Rattle.request_csv.specs.RequestLists.{IsList, MeetsFirst}
use Rattle.request_csv.specs.declared.lists.ReadFault.{ReadFault}

-- a text is a list of one list of requests at most
abbrev pub HasOneList : Type 0
HasOneList = (text : List ℕ) (one other : List Request) → IsList text one → IsList text other → one ≡ other

-- a text that is a list meets no fault
abbrev pub ListHasNoFault : Type 0
ListHasNoFault = (text : List ℕ) (requests : List Request) (fault : ReadFault) → IsList text requests
    → ¬ MeetsFirst text fault

-- one fault is the first
abbrev pub OneIsFirst : Type 0
OneIsFirst = (text : List ℕ) (one other : ReadFault) → MeetsFirst text one → MeetsFirst text other
    → one ≡ other

-- a text that is a list begins as one with the first of its requests, and with no others
abbrev pub ListGoesOn : Type 0
ListGoesOn = (text : List ℕ) (requests some : List Request) → IsList text requests → IsBegun text some
    → (rest : List Request) × (requests ≡ some ++ rest)
