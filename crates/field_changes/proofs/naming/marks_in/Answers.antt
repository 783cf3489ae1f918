-- One item more.
use Rattle.std.specs.Ordering.{nat_cmp}
use Rattle.std.specs.Cmp.Lexicographic.{slice_cmp}
use Rattle.std.specs.BTreeSet.{contains}
use Rattle.field_changes.specs.Naming.{is_marked}
use Rattle.field_changes.proofs.Sets.{any_more}
use Rattle.field_changes.proofs.naming.marks_in.Goals as goal

pub loop-item-preserved : goal.loop-item-preserved
loop-item-preserved c =
    any_more is_marked (contains (slice_cmp nat_cmp) c.loop-item.marks)
    (contains (slice_cmp nat_cmp) c.note_mark.new.marks) c.args.file.now c.loop-item.item-index c.item-item.result
    c.loop-item-test.true c.item-item.is c.loop-item.invariant
    c.in_ok-note_mark.ensures
