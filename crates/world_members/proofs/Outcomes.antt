-- The outcome of a request, in the cases in which it is found.
use Rattle.std.specs.Prelude.{◌≡◌, true, false, not, drop, bytes_eq, Option, Some, None, Ok}
use Rattle.std.proofs.Common.{sym, ap, ◌∙◌}
use Rattle.std.specs.Bool.{then_some}
use Rattle.std.specs.Option.{option_and_then, option_map_or}
use Rattle.sheet_types.specs.Custody.{kept}
use Rattle.sheet_types.specs.Refuse.{reasons, id_reused}
use Rattle.sheet_types.specs.Step.{accepted, receipt_of, kept_reply, refuses, outcome_by}
use Rattle.sheet_types.specs.Texts.{line}
use Rattle.sheet_types.specs.World.{World}
use Rattle.sheet_types.specs.declared.command.Request.{Request}
use Rattle.sheet_types.specs.declared.receipt.Receipt.{Receipt}
use Rattle.sheet_types.specs.declared.refusal.Refusal.TheVariants.{IdReused}
use Rattle.world_members.specs.Steps.{KeptOutcome, ReusedOutcome, RefusedOutcome, AcceptedOutcome}
use Rattle.world_members.proofs.Carrying.{carried_out_in_one}
use Rattle.world_members.proofs.FirstRows.{holds}

-- the kept reply, by what is kept
reply_of : (w : World) (q : Request) (found : Option Receipt) → kept w q.id ≡ found
    → kept_reply w q ≡ option_and_then (λ r. then_some (bytes_eq r.line (line q.command)) r) found
reply_of w q found is = ap (option_and_then (λ r. then_some (bytes_eq r.line (line q.command)) r)) is

pub kept_outcome : KeptOutcome
kept_outcome w q r is same = ap (λ k. outcome_by w q k (refuses w q))
    (reply_of w q (Some r) is ∙ ap (λ b. then_some b r) same)

pub reused_outcome : ReusedOutcome
reused_outcome w q r is other =
    let reused : id_reused w q ≡ true = ap (λ k. option_map_or (λ s. not (bytes_eq s.line (line q.command))) k
    false)
    is ∙ ap not other in
    ap (λ k. outcome_by w q k (refuses w q)) (reply_of w q (Some r) is ∙ ap (λ b. then_some b r) other)
    ∙ ap (outcome_by w q None) (sym (holds (id_reused w q) IdReused (drop 1 (reasons w (accepted w q) q)) reused))

pub refused_outcome : RefusedOutcome
refused_outcome w q why is refused = ap (λ k. outcome_by w q k (refuses w q)) (reply_of w q None is)
    ∙ ap (outcome_by w q None) refused

pub accepted_outcome : AcceptedOutcome
accepted_outcome w q one is none =
    ap (λ k. outcome_by w q k (refuses w q)) (reply_of w q None is) ∙ ap (outcome_by w q None) none
    ∙ ap (λ v. (Ok (receipt_of w q), v)) (carried_out_in_one w (receipt_of w q) q.command one)
