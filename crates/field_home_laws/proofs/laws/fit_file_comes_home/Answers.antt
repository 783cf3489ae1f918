use Rattle.field_home_laws.proofs.Home.{fit_file_comes_home}
use Rattle.field_home_laws.proofs.laws.fit_file_comes_home.Goals as goal

pub returns : goal.returns
returns c = fit_file_comes_home
