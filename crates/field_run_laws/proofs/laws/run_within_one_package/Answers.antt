use Rattle.std.specs.Prelude.{[]}
use Rattle.field_run_laws.proofs.Held.{begins, run_stage, holds_now}
use Rattle.field_run_laws.proofs.laws.run_within_one_package.Goals as goal

pub returns : goal.returns
returns c = λ w p qs replies next register live within new run given.
    let s = run_stage w w p [] _ _ live (begins w p register) qs replies next within new.unkept new.apart run given in
    (holds_now w next p qs _ _ s, s.register)
