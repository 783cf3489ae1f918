use Rattle.field_home_laws.proofs.Free.{free_file_comes_home}
use Rattle.field_home_laws.proofs.laws.free_file_comes_home.Goals as goal

pub returns : goal.returns
returns c = free_file_comes_home
