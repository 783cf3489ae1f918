use Rattle.request_json.proofs.MemberFacts.{one_of}
use Rattle.request_json.proofs.members.is_one_of.Goals as goal

pub returns : goal.returns
returns c = one_of c.args.names.now c.args.name.now c.is_among.ensures
