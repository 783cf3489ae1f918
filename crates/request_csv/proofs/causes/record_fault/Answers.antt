use Rattle.std.proofs.Common.{◌≡◌, rules}
use Rattle.csv.specs.Records.{fields_of}
use Rattle.request_csv.proofs.CauseFacts.{same_column_fault}
use Rattle.request_csv.proofs.causes.record_fault.Goals as goal

pub returns-in-Some-clause-some : goal.returns-in-Some-clause-some
returns-in-Some-clause-some c =
    let same : fields_of c.in-Ok.text ≡ fields_of c.args.row = search rules in
    let found = rw c.in-Some.is at c.in_ok-fault.ensures.some in (
      (search rules, search rules),
      same_column_fault (fields_of c.in-Ok.text) (fields_of c.args.row) c.in-Some.fault
          same found,
    )
