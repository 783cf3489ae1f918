-- What a line says, as the code has it. Profile.
use Rattle.std.specs.Prelude.{ℕ, Bool, true, false, List, codes}
use Rattle.sheet_types.specs.Texts.{Entry, Adds, Deletes, Links, Unlinks, Splits, Merges}
use Rattle.sheet_types.specs.declared.command.Mapping.{Mapping}
use Rattle.sheet_ledger.specs.declared.entries.LineEntry.{LineEntry}
use Rattle.sheet_ledger.specs.declared.entries.LineEntry.TheVariants.{Add, Delete, Link, Unlink, Split, Merge}

-- the entry that it is
abbrev pub entry_said : LineEntry → Entry
entry_said (Add p identity kind size digest) = Adds p identity kind size digest
entry_said (Delete p identity) = Deletes p identity
entry_said (Link p mapping base other) = Links p mapping base other
entry_said (Unlink p mapping base other) = Unlinks p mapping base other
entry_said (Split p child mode rect) = Splits p child mode rect
entry_said (Merge child into ticket) = Merges child into ticket

-- a link that comes or goes: its verb, and its entry
abbrev pub link_verb : Bool → List ℕ
link_verb true = codes "link"
link_verb false = codes "unlink"

abbrev pub link_said : Bool → List ℕ → Mapping → List ℕ → List ℕ → Entry
link_said true p mapping base other = Links p mapping base other
link_said false p mapping base other = Unlinks p mapping base other
