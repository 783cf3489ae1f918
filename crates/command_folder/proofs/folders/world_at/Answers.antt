-- The stores that were opened are those whose world it is.
use Rattle.std.specs.Prelude.{Result, Ok, Err, IfOk}
use Rattle.command_folder.proofs.folders.world_at.Goals as goal

ok_so : {X E : Type 0} (P Q : X → Type 0) (r : Result X E) → ((x : X) → P x → Q x) → IfOk r P → IfOk r Q
ok_so P Q (Ok x) f h = f x h
ok_so P Q (Err e) f h = tt

pub returns : goal.returns
returns c =
    let opened = c.in_ok-stores in
    ok_so _ _ c.world_of-found.result.0
    (λ found is. (opened.stores.items, opened.ensures.opened, opened.ensures.each, is)) c.world_of-found.ensures.world
