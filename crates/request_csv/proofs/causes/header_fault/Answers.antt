-- A record of as many columns with their names is the header.
use Rattle.std.proofs.Common.{◌≡◌, length, rules}
use Rattle.csv.specs.Records.{fields_of}
use Rattle.request_csv.proofs.CauseFacts.{is_header}
use Rattle.request_csv.proofs.causes.header_fault.Goals as goal

pub returns-in-Some-clause-some : goal.returns-in-Some-clause-some
returns-in-Some-clause-some c =
    let same : fields_of c.in-Ok.text ≡ fields_of c.args.row = search rules in
    let first = rw c.in-Some.is at c.in_ok-fault.ensures.some in
    ((search rules, search rules), rw same at first)

pub returns-clause-none : goal.returns-clause-none
returns-clause-none c =
    let same : fields_of c.in-Ok.text ≡ fields_of c.args.row = search rules in
    let long : length (fields_of c.args.row) ≡ 18 = search rules in
    let met = rw c.in-None.is at c.in_ok-fault.ensures.none in
    is_header (fields_of c.args.row) long (rw same at met)
