-- What stands at the place, or a new name.
use Rattle.std.proofs.Common.{◌-◌, ◌∙◌, ap, sym, Some, None}
use Rattle.std.specs.Option.{option_map_or}
use Rattle.field_changes.specs.Naming.{copies}
use Rattle.field_changes.specs.declared.naming.Name.TheVariants.{Old, New}
use Rattle.field_changes.proofs.naming.Spare.name.Goals as goal

pub returns-in-Some : goal.returns-in-Some
returns-in-Some c = λ left holds.
    ap (λ o. option_map_or Old o (New (c.args.place - copies (λ i. i.content) c.args.content.now left)))
    (c.in-Some.ensures ∙ holds.places c.args.content.now c.args.place)

pub returns-in-None : goal.returns-in-None
returns-in-None c = λ left holds.
    ap New (c.saturating_sub.ensures ∙ ap (λ n. c.args.place - n)
    (c.count_of-count.ensures ∙ holds.counts c.args.content.now))
    ∙ ap (λ o. option_map_or Old o (New (c.args.place - copies (λ i. i.content) c.args.content.now left)))
    (c.in-None.ensures ∙ holds.places c.args.content.now c.args.place)
