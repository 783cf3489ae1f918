use Rattle.std.specs.Prelude.{refl}
use Rattle.sheet_examples.proofs.ledgers.short_names.Goals as goal

pub returns : goal.returns
returns c = (refl, refl, refl, refl)
