-- Both kinds of stores are in memory, and so always clean.
use Rattle.std.proofs.Common.{refl}
use Rattle.store_memory.proofs.Cleanness.{always_clean}
use Rattle.cli.proofs.Rehearsing.{arrays_clean}
use Rattle.cli.proofs.rehearse.over_either.Goals as goal

pub returns-then-are_few : goal.returns-then-are_few
returns-then-are_few g c = c.over.ensures arrays_clean

pub returns-else-are_few : goal.returns-else-are_few
returns-else-are_few g c = c.over-else-are_few.ensures (λ h. always_clean (λ _. refl) h)
