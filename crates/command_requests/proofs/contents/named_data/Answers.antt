-- The item is looked up in the world as it was listed.
use Rattle.std.proofs.Common.{◌≡◌, ◌∙◌, ap, subst, sym}
use Rattle.command_verbs.specs.Items.{the_item}
use Rattle.command_requests.proofs.Untouched.{stands_after, untouched_then}
use Rattle.command_requests.proofs.contents.named_data.Goals as goal

pub returns-in_err-bytes-in-Ok-clause-read : goal.returns-in_err-bytes-in-Ok-clause-read
returns-in_err-bytes-in-Ok-clause-read g c =
    untouched_then g.S.Store c.args.world.now c.world_items.new.world c.data_in.new.world c.in_ok-items.ensures.read
    c.in_err-bytes-in-Ok.ensures.read

pub returns-in-Ok-clause-read : goal.returns-in-Ok-clause-read
returns-in-Ok-clause-read g c =
    untouched_then g.S.Store c.args.world.now c.world_items.new.world c.data_in.new.world c.in_ok-items.ensures.read
    c.in_ok-bytes-in-Ok.ensures.read

pub returns-in-Ok-clause-told : goal.returns-in-Ok-clause-told
returns-in-Ok-clause-told g c = λ clean w stands.
    let listed = c.in_ok-items.ensures.told (c.in_ok-bytes-in-Ok.ensures.read.clean clean) w stands in
    let now = stands_after g.S.Store c.args.world.now c.world_items.new.world c.in_ok-items.ensures.read w stands in (
      c.in-Ok.entry,
      ap (λ es. the_item es c.args.word.now) (sym listed ∙ sym c.as_slice.ensures.value)
          ∙ sym c.in-Ok.ensures,
      c.in_ok-bytes-in-Ok.ensures.told clean w now,
    )
