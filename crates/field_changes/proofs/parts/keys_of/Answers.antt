-- One more is put in.
use Rattle.std.proofs.Common.{◌∙◌, ap, ◌||◌, bytes_eq}
use Rattle.std.specs.Ordering.{nat_cmp}
use Rattle.std.specs.Cmp.Lexicographic.{slice_cmp}
use Rattle.std.specs.BTreeSet.{contains}
use Rattle.sheet_types.specs.World.{link_key}
use Rattle.field_changes.proofs.Sets.{put_in, any_more}
use Rattle.field_changes.proofs.parts.keys_of.Goals as goal

pub loop-link-preserved : goal.loop-link-preserved
loop-link-preserved c =
    any_more (λ q x. bytes_eq (link_key x) q) (contains (slice_cmp nat_cmp) c.loop-link.keys)
    (contains (slice_cmp nat_cmp) c.insert.new.self) c.args.links.now c.loop-link.link-index c.link-item.result
    c.loop-link-test.true c.link-item.is c.loop-link.invariant
    (λ q. put_in c.loop-link.keys c.insert.new.self c.of.result c.in_ok-insert.ensures.updates q
    ∙ ap (λ k. contains (slice_cmp nat_cmp) c.loop-link.keys q || bytes_eq k q) c.of.ensures)
