use Rattle.desk_http.proofs.CommandFacts.{bad_key_is}
use Rattle.desk_http.proofs.commands.bad_key.Goals as goal

pub returns : goal.returns
returns c = bad_key_is
