use Rattle.std.specs.Prelude.{◌≡◌, true}
use Rattle.sheet_laws.specs.Laws.{StoreSight}
use Rattle.opening_live.proofs.laws.live_ones_stand.Goals as goal
use Rattle.opening_live.proofs.Alone.{stand_to, stand_fro}

pub returns : goal.returns
returns c = λ views w. (
  stand_to StoreSight (λ v. v.head) (λ v. v.claims) (λ v. v.is_formed ≡ true) (λ v. v.is_tied ≡ true)
      (λ v. v.frame)
      (λ v. v.reads_as) views w,
  stand_fro StoreSight (λ v. v.head) (λ v. v.claims) (λ v. v.is_formed ≡ true) (λ v. v.is_tied ≡ true)
      (λ v. v.frame)
      (λ v. v.reads_as) views w,
)
