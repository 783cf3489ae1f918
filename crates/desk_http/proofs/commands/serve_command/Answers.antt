-- What was read may be handed on; where something bars it, nothing was made of the world.
use Rattle.std.proofs.Common.{◌≡◌, inr, refl, rules}
use Rattle.desk_http.proofs.CommandFacts.{handed_or_left}
use Rattle.desk_http.proofs.Barring.{turned}
use Rattle.desk_http.proofs.ServedBy.{same_by}
use Rattle.desk_http.proofs.commands.serve_command.Goals as goal

pub returns-in-Ok-clause-handed : goal.returns-in-Ok-clause-handed
returns-in-Ok-clause-handed g c =
    let whole : c.deref.result.now ≡ c.in-Ok.input.items = search rules in
    handed_or_left _ c.in-Ok.ensures.passes (rw whole at c.hand_on.ensures.handed)

pub returns-in-Err-clause-served : goal.returns-in-Err-clause-served
returns-in-Err-clause-served g c = same_by g.S.Store c.args.world.now c.args.world.now refl

pub returns-in-Err-clause-handed : goal.returns-in-Err-clause-handed
returns-in-Err-clause-handed g c = inr (
  record { world_stays = refl; shelf_stays = refl; clerk_stays = refl },
  turned _ _ _ _ _ _ c.in-Err.bar c.in-Err.ensures.none c.turn_away.ensures,
)
