use Rattle.std.specs.Prelude.{refl}
use Rattle.sheet_examples.proofs.adding.tile_sizes.Goals as goal

pub returns : goal.returns
returns c = (refl, refl, λ bytes n. rw n (rw n refl), λ bytes n. rw n refl, λ bytes n. rw n refl)
