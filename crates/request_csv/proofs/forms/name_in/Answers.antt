use Rattle.std.proofs.Common.{[], sym}
use Rattle.request_csv.proofs.FormFacts.{name_there}
use Rattle.request_csv.proofs.forms.name_in.Goals as goal

pub returns-in-Some : goal.returns-in-Some
returns-in-Some c = sym (name_there c.args.names.now c.args.place c.in-Some.name.now [] c.in-Some.ensures.lookup.3.0
    c.in-Some.ensures.lookup.1)
