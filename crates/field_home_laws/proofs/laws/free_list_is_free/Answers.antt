use Rattle.field_home_laws.proofs.Free.{free_list_is_free}
use Rattle.field_home_laws.proofs.laws.free_list_is_free.Goals as goal

pub returns : goal.returns
returns c = free_list_is_free
