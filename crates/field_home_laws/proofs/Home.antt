-- A file of which no record is told comes home.
use Rattle.std.specs.Prelude.{◌≡◌}
use Rattle.field_laws.proofs.Home.{changes_come_home}
use Rattle.field_home_laws.specs.Laws.{FitFileComesHome}
use Rattle.field_home_laws.proofs.Fits.{fit_file_is_taken}

pub fit_file_comes_home : FitFileComesHome
fit_file_comes_home w p ticket moment more h requests replies next register live timed none changes free run sound =
    changes_come_home w p ticket moment more h.items.items h.links.items requests replies next register live changes
    (fit_file_is_taken w p ticket moment more h requests register live timed none changes free) run sound
