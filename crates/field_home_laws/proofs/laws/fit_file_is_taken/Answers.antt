use Rattle.field_home_laws.proofs.Fits.{fit_file_is_taken}
use Rattle.field_home_laws.proofs.laws.fit_file_is_taken.Goals as goal

pub returns : goal.returns
returns c = fit_file_is_taken
