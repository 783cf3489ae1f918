use Rattle.desk_http.proofs.DueFacts.{due_is_served}
use Rattle.desk_http.proofs.serving_laws.due_is_served.Goals as goal

pub returns : goal.returns
returns g c = due_is_served g.S.Store
