-- One more is put in.
use Rattle.std.proofs.Common.{bytes_eq}
use Rattle.std.specs.Ordering.{nat_cmp}
use Rattle.std.specs.Cmp.Lexicographic.{slice_cmp}
use Rattle.std.specs.BTreeSet.{contains}
use Rattle.sheet_types.specs.declared.command.Item.{Item}
use Rattle.field_changes.proofs.Sets.{put_in, any_more}
use Rattle.field_faults.proofs.lines.known_of.Goals as goal

pub loop-item-preserved : goal.loop-item-preserved
loop-item-preserved c =
    any_more (λ q x. bytes_eq ((λ (i : Item). i.identity) x) q) (contains (slice_cmp nat_cmp) c.loop-item.known)
    (contains (slice_cmp nat_cmp) c.insert.new.self) c.args.items.now c.loop-item.item-index c.item-item.result
    c.loop-item-test.true c.item-item.is c.loop-item.invariant
    (λ q. put_in c.loop-item.known c.insert.new.self c.item-item.result.identity c.in_ok-insert.ensures.updates q)
