-- A colon, and digits behind it.
use Rattle.desk_calls.proofs.HostFacts.{port_is}
use Rattle.desk_calls.proofs.hosts.is_port.Goals as goal

pub returns-in-Some : goal.returns-in-Some
returns-in-Some c = port_is _ _ c.in-Some.first.now c.are_digits.result c.in-Some.ensures.cases.0 c.are_digits.ensures
