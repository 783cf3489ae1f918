use Rattle.std.specs.Prelude.{map}
use Rattle.serde_json.specs.View.{view}
use Rattle.request_json.proofs.MemberFacts.{no_other}
use Rattle.request_json.proofs.members.has_no_other.Goals as goal

pub returns-in-Some : goal.returns-in-Some
returns-in-Some c = no_other (view c.args.value.now) c.in-Some.members.now.entries
    (map (λ known. known.now) c.args.names.now) c.in-Some.ensures c.are_one_of.ensures
