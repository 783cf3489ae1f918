-- The identity that is added was asked of first, and then the request's own.
use Rattle.world.specs.Worlds.{StandsFor}
use Rattle.command_requests.proofs.Untouched.{stands_after, untouched_then}
use Rattle.command_field.proofs.Free.{both_new}
use Rattle.command_field.proofs.freedom.taken_by.Goals as goal

pub returns-clause-told : goal.returns-clause-told
returns-clause-told g c = λ clean.
    let before = c.request_taken.ensures.read.clean clean in
    let told = rw c.in_default.is at c.in_ok-taken.ensures.told in
    both_new (StandsFor g.S.Store c.args.world.now) (StandsFor g.S.Store c.identity_taken.new.world)
    c.args.request.now c.request_taken.result (told before)
    (stands_after g.S.Store c.args.world.now c.identity_taken.new.world c.in_ok-taken.ensures.read)
    (c.request_taken.ensures.told clean)

pub returns-clause-read : goal.returns-clause-read
returns-clause-read g c =
    untouched_then g.S.Store c.args.world.now c.identity_taken.new.world c.request_taken.new.world
    c.in_ok-taken.ensures.read c.request_taken.ensures.read
