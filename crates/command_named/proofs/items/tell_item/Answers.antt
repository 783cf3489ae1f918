use Rattle.command_named.proofs.items.tell_item.Goals as goal

pub returns : goal.returns
returns g c = (
  c.get_in-ending.new.world,
  c.get_in-ending.ensures,
  c.hint_after-hint.ensures.read,
  λ clean w stands.
      c.hint_after-hint.ensures.told clean w stands,
)
