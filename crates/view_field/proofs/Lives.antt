-- A package that has sums is live.
use Rattle.std.proofs.Common.{◌≡◌, Bool, true, false, Option, refl}
use Rattle.std.specs.Option.{is_some}
use Rattle.std.specs.Bool.{then_some}

pub some_where : {A : Type 0} (b : Bool) (x : A) → is_some (then_some b x) ≡ b
some_where true x = refl
some_where false x = refl
