-- What a world keeps of its packages, read without a look at a store. Profile.
use Rattle.std.specs.Prelude.{◌≡◌, ℕ, List, map, Option}
use Rattle.sheet_types.specs.Answers.{package_sights, sums_held}
use Rattle.sheet_types.specs.World.{World}
use Rattle.sheet_types.specs.declared.receipt.Sums.{Sums}
use Rattle.world.specs.Reading.{sight_of}
use Rattle.world.specs.declared.reading.PackageSight.{PackageSight}
use Rattle.view_world.specs.Told.{last_change}

-- of each package, in turn
pub record AreKept (w : World) (sights : List PackageSight) (sums : List Sums) : Type 0 where
  pub seen : map sight_of sights ≡ package_sights w
  pub held : sums ≡ map sums_held w.packages

-- and what its stores told: the splits that made them, and their last changes
pub record AreAsked (w : World) (loans : List ℕ) (moments : List (Option (List ℕ))) : Type 0 where
  pub made_by : loans ≡ map (λ p. p.loan) w.packages
  pub changed : moments ≡ map (λ p. last_change w p.uuid) w.packages
