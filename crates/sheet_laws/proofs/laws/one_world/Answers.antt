use Rattle.std.specs.Prelude.{◌≡◌, true}
use Rattle.sheet_laws.proofs.laws.one_world.Goals as goal
use Rattle.sheet_laws.specs.Laws.{StoreSight}
use Rattle.sheet_laws.proofs.OneWorld.{one_world}

pub returns : goal.returns
returns c = one_world StoreSight (λ s. s.head) (λ s. s.claims) (λ s. s.is_formed ≡ true)
    (λ s. s.is_tied ≡ true) (λ s. s.frame) (λ s. s.reads_as)
