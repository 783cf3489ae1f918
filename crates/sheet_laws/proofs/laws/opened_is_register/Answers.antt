use Rattle.std.specs.Prelude.{◌≡◌, true}
use Rattle.sheet_laws.proofs.laws.opened_is_register.Goals as goal
use Rattle.sheet_laws.specs.Laws.{StoreSight}
use Rattle.sheet_laws.proofs.Opened.{opened_is_register}

pub returns : goal.returns
returns c = λ stores w readings stands. opened_is_register StoreSight (λ s. s.head) (λ s. s.claims)
    (λ s. s.is_formed ≡ true) (λ s. s.is_tied ≡ true) (λ s. s.frame) (λ s. s.reads_as) stores w stands
    readings
