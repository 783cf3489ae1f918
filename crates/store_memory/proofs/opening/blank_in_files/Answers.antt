use Rattle.std.proofs.Common.{refl, Result, Ok, Err, IfOk}
use Rattle.store_memory.proofs.Cleanness.{always_clean}
use Rattle.store_memory.proofs.opening.blank_in_files.Goals as goal

-- what holds where the disk is clean
settled : {T E : Type 0} (P Clean : T → Type 0) (r : Result T E) → ((x : T) → Clean x)
    → IfOk r (λ x. Clean x → P x) → IfOk r P
settled P Clean (Ok x) clean said = said (clean x)
settled P Clean (Err e) clean said = tt

each : {T E : Type 0} (P : T → Type 0) (r : Result T E) → ((x : T) → P x) → IfOk r P
each P (Ok x) holds = holds x
each P (Err e) holds = tt

pub returns-clause-clean : goal.returns-clause-clean
returns-clause-clean c = each _ c.open_empty.result (always_clean (λ _. refl))

pub returns-clause-opened : goal.returns-clause-opened
returns-clause-opened c = settled _ _ c.open_empty.result (always_clean (λ _. refl)) c.open_empty.ensures.opened

pub returns-clause-blank : goal.returns-clause-blank
returns-clause-blank c = settled _ _ c.open_empty.result (always_clean (λ _. refl)) c.open_empty.ensures.blank
