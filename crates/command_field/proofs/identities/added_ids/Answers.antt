-- One request more.
use Rattle.std.proofs.Common.{◌∙◌, refl}
use Rattle.sheet_types.specs.declared.command.Request.{Request}
use Rattle.field_run_laws.specs.Ready.{added}
use Rattle.command_requests.proofs.Listed.{flat_more}
use Rattle.command_field.proofs.identities.added_ids.Goals as goal

pub loop-request-preserved : goal.loop-request-preserved
loop-request-preserved c = record {
  added = c.in_ok-push_added.ensures
      ∙ flat_more (λ (q : Request). added q.command) c.args.requests.now c.loop-request.request-index
      c.request-item.result c.loop-request.ids.items (added c.request-item.result.command) c.loop-request-test.true
      c.request-item.is c.loop-request.invariant.added refl;
}
