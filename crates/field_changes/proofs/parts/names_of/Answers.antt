-- One more is put in.
use Rattle.std.proofs.Common.{◌∙◌, ap, ◌||◌, bytes_eq}
use Rattle.std.specs.Ordering.{nat_cmp}
use Rattle.std.specs.Cmp.Lexicographic.{slice_cmp}
use Rattle.std.specs.BTreeSet.{contains}
use Rattle.field_changes.specs.declared.naming.Named.{Named}
use Rattle.field_changes.proofs.Sets.{put_in, any_more}
use Rattle.field_changes.proofs.parts.names_of.Goals as goal

pub loop-name-preserved : goal.loop-name-preserved
loop-name-preserved c =
    any_more (λ q x. bytes_eq ((λ (n : Named). n.identity) x) q) (contains (slice_cmp nat_cmp) c.loop-name.known)
    (contains (slice_cmp nat_cmp) c.insert.new.self) c.args.names.now c.loop-name.name-index c.name-item.result
    c.loop-name-test.true c.name-item.is c.loop-name.invariant
    (λ q. put_in c.loop-name.known c.insert.new.self c.name-item.result.identity c.in_ok-insert.ensures.updates q)
