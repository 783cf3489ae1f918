use Rattle.std.proofs.Common.{◌≡◌, take}
use Rattle.std.specs.Prelude.{flat_map}
use Rattle.identity_register.specs.Reach.{links_of}
use Rattle.cut.proofs.Asking.{Asked}
use Rattle.cut.proofs.gathering.links_of_each.Given as goal

abbrev pub invariant-loop-id : goal.invariant-loop-id
invariant-loop-id g l = Asked g.R.Reach.can_ask g.R.Reach.stays g.R.Reach.shows
    (λ p. l.links.items ≡ flat_map (links_of p) (take l.id-index l.ids)) l.fn.reach l.reach
