-- A record that is no name is the fault of its number.
use Rattle.std.proofs.Common.{rules, ◌≡◌, refl, inl, inr}
use Rattle.csv.specs.Records.{fields_of}
use Rattle.view_names.proofs.lists.name_in.Goals as goal

pub returns-clause-fault : goal.returns-clause-fault
returns-clause-fault c =
    let none = rw c.in-None.is at c.in_ok-name.ensures.none in
    let same : fields_of c.in-Ok.text ≡ fields_of c.args.row = search rules in
    inr (inl (refl, λ name asks. none name (rw same asks.1)))
