-- The items, and then the links.
use Rattle.std.proofs.Common.{◌∙◌, ap, ◌||◌}
use Rattle.sheet_types.specs.Ordered.{has}
use Rattle.sheet_types.specs.World.{moved_thing}
use Rattle.std.specs.Ordering.{nat_cmp}
use Rattle.std.specs.Cmp.Lexicographic.{slice_cmp}
use Rattle.std.specs.BTreeSet.{contains}
use Rattle.sheet_balance.proofs.Kept.{or_assoc}
use Rattle.sheet_balance.proofs.holding.note_holder.Goals as goal

pub returns : goal.returns
returns c = λ thing.
    let s = c.args.holder.now in
    let old = contains (slice_cmp nat_cmp) c.args.held.now thing in
    c.in_ok-note_held-2.ensures thing ∙ ap (λ b. b || has moved_thing thing c.as_slice-2.result.now)
    (c.in_ok-note_held.ensures thing)
    ∙ ap (λ xs. (old || has moved_thing thing c.as_slice.result.now) || has moved_thing thing xs)
    c.as_slice-2.ensures
    ∙ ap (λ xs. (old || has moved_thing thing xs) || has moved_thing thing s.links) c.as_slice.ensures
    ∙ or_assoc old (has moved_thing thing s.items) (has moved_thing thing s.links)
