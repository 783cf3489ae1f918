use Rattle.field_laws.proofs.Home.{room_for_both}
use Rattle.field_laws.proofs.laws.room_for_both.Goals as goal

pub returns : goal.returns
returns c = room_for_both
