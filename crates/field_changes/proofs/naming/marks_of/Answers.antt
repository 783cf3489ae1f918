-- One item more.
use Rattle.std.proofs.Common.{◌∙◌, ap, ◌||◌, bytes_eq}
use Rattle.std.specs.Ordering.{nat_cmp}
use Rattle.std.specs.Cmp.Lexicographic.{slice_cmp}
use Rattle.std.specs.BTreeSet.{contains}
use Rattle.field_changes.specs.Keys.{item_mark}
use Rattle.field_changes.proofs.Sets.{put_in, any_more}
use Rattle.field_changes.proofs.naming.marks_of.Goals as goal

pub loop-item-preserved : goal.loop-item-preserved
loop-item-preserved c =
    any_more (λ q i. bytes_eq (item_mark i) q) (contains (slice_cmp nat_cmp) c.loop-item.marks)
    (contains (slice_cmp nat_cmp) c.insert.new.self) c.args.items.now c.loop-item.item-index c.item-item.result
    c.loop-item-test.true c.item-item.is c.loop-item.invariant
    (λ q. put_in c.loop-item.marks c.insert.new.self c.of_item.result c.in_ok-insert.ensures.updates q
    ∙ ap (λ k. contains (slice_cmp nat_cmp) c.loop-item.marks q || bytes_eq k q) c.of_item.ensures)
