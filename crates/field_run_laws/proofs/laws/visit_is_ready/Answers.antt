use Rattle.std.specs.Prelude.{refl}
use Rattle.field_run_laws.proofs.laws.visit_is_ready.Goals as goal

pub returns : goal.returns
returns c = (
  ((refl, refl), ((refl, refl), ((refl, refl), ((refl, refl), ((refl, refl), tt))))),
  record { unkept = refl; apart = refl },
  refl,
  (
    refl,
    (refl, refl, refl, refl, refl, refl, refl),
    refl,
    (
      refl,
      (refl, refl, refl, refl, refl, refl, refl),
      refl,
      (
        refl,
        (refl, refl, refl),
        refl,
        (
          refl,
          refl,
          refl,
          (refl, (refl, refl), refl, tt),
        ),
      ),
    ),
  ),
)
