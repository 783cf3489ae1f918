-- Both kinds of stores are in memory, and so always clean.
use Rattle.std.proofs.Common.{refl}
use Rattle.store_memory.proofs.Cleanness.{always_clean}
use Rattle.cli.proofs.Rehearsing.{arrays_clean}
use Rattle.cli.proofs.serving.served_by_either.Goals as goal

pub returns-in-Ok : goal.returns-in-Ok
returns-in-Ok g c = c.in-Ok.ensures arrays_clean

pub returns-in-Err : goal.returns-in-Err
returns-in-Err g c = c.in-Err.ensures arrays_clean

pub returns-in-Ok-served_over : goal.returns-in-Ok-served_over
returns-in-Ok-served_over g c = c.in-Ok-served_over.ensures (λ h. always_clean (λ _. refl) h)

pub returns-in-Err-served_over : goal.returns-in-Err-served_over
returns-in-Err-served_over g c = c.in-Err-served_over.ensures (λ h. always_clean (λ _. refl) h)
