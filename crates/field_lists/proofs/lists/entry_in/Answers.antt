-- A record that can be judged and is no entry is the fault of its number.
use Rattle.std.proofs.Common.{rules, ◌≡◌, refl, inl, inr}
use Rattle.csv.specs.Records.{fields_of}
use Rattle.field_lists.proofs.lists.entry_in.Goals as goal

pub returns-clause-fault : goal.returns-clause-fault
returns-clause-fault c =
    let none = rw c.in-None.is at c.in_ok-entry.ensures.none in
    let same : fields_of c.in-Ok.text ≡ fields_of c.args.row = search rules in
    inr (inr (inl (refl, ((search rules, search rules), λ entry asks. none entry (rw same asks)))))
