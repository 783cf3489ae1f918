-- One request more.
use Rattle.std.specs.Ordering.{nat_cmp}
use Rattle.std.specs.Cmp.Lexicographic.{slice_cmp}
use Rattle.std.specs.BTreeSet.{contains}
use Rattle.sheet_types.specs.declared.command.Request.{Request}
use Rattle.field_home_laws.specs.Free.{deleted}
use Rattle.command_field.proofs.Ids.{among_more}
use Rattle.command_field.proofs.limits.deleted_by.Goals as goal

pub loop-request-preserved : goal.loop-request-preserved
loop-request-preserved c =
    among_more (λ (q : Request). deleted q.command) (contains (slice_cmp nat_cmp) c.loop-request.gone)
    (contains (slice_cmp nat_cmp) c.put_deleted.new.gone) c.args.requests.now c.loop-request.request-index
    c.request-item.result c.loop-request-test.true c.request-item.is c.loop-request.invariant
    c.in_ok-put_deleted.ensures
