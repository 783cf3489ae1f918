-- A request that is new and not refused is due where its package stands.
use Rattle.std.specs.Prelude.{◌≡◌, ℕ, ◌+◌, List, [], ◌∷◌, length, if◌then◌else◌, refl, bytes_eq}
use Rattle.std.proofs.Common.{sym, ap, subst, ◌∙◌, inl, length-append}
use Rattle.sheet_types.specs.Custody.{ticket}
use Rattle.sheet_types.specs.Register.{IsRegister}
use Rattle.sheet_types.specs.Step.{accepted, receipt_of, outcome}
use Rattle.sheet_types.specs.World.{holdings, receipts_of}
use Rattle.sheet_types.specs.declared.receipt.Receipt.{Receipt}
use Rattle.sheet_types.proofs.Every.{All-each}
use Rattle.sheet_laws.proofs.Packages.{at_all}
use Rattle.sheet_laws.proofs.Running.{step_keeps_register}
use Rattle.world_members.specs.Laws.{package_of}
use Rattle.world_members.specs.Steps.{NothingAgainst}
use Rattle.world_members.specs.Turning.{DueWhereAccepted, world_after}
use Rattle.world_members.proofs.Carrying.{carried_out_in_one}
use Rattle.world_members.proofs.Counting.{sums_after_command}
use Rattle.world_members.proofs.Fitting.{nothing_against_accepted, fits_where_accepted}
use Rattle.world_members.proofs.Limits.{receipts_next, ticket_after}
use Rattle.world_members.proofs.Outcomes.{accepted_outcome}

pub due_where_accepted : DueWhereAccepted
due_where_accepted w q at register uuid types one new none place =
    let r : Receipt = receipt_of w q in
    let id : List ℕ = package_of q.command in
    let against : NothingAgainst w q = nothing_against_accepted w (accepted w q) q one new none in
    let fits = fits_where_accepted w q register uuid types one against in
    let is : accepted w q ≡ world_after (receipt_of w q) q.command w =
    carried_out_in_one w (receipt_of w q) q.command one in
    let keeps : IsRegister (outcome w q).1 = step_keeps_register w q (outcome w q).0 (outcome w q).1 types register
    (inl (refl, refl)) in
    record {
      holds = holdings w (package_of q.command);
      place = place;
      named = (at_all w (λ _. Unit {0}) (package_of q.command) (All-each (λ _. Unit {0}) (λ _. tt) w.packages)
          against.live).1;
      fits = fits;
      sums = sym (sums_after_command w q register against.live fits).1;
      tickets = λ p. subst (λ v. ticket v p ≡ (if bytes_eq p (package_of q.command) then length (receipts_of w) +
          1 else ticket w p)) is (ticket_after w q p register one against.live);
      counted = subst (λ v. length (receipts_of v) ≡ length (receipts_of w) + 1) is
          (ap length (receipts_next w q register one against.live)
          ∙ length-append (receipts_of w) (receipt_of w q ∷ []));
      register = subst IsRegister (ap (λ o. o.1) (accepted_outcome w q one new none)) keeps;
    }
