-- A request that comes again, after whatever requests.
use Rattle.std.specs.Prelude.{◌≡◌, ◌⊎◌, ◌∷◌, ◌++◌, true, false, not, refl, bytes_eq, Some, None}
use Rattle.std.specs.Prelude.{Ok, Err}
use Rattle.std.proofs.Common.{sym, ap, subst, ◌∙◌, inl, inr}
use Rattle.std.specs.Bool.{then_some}
use Rattle.std.specs.Option.{option_and_then, option_map_or}
use Rattle.sheet_types.specs.Custody.{kept}
use Rattle.sheet_types.specs.Refuse.{id_reused}
use Rattle.sheet_types.specs.Register.{IsRegister}
use Rattle.sheet_types.specs.Step.{Run, IsFault, outcome, outcome_by, kept_reply, refuses}
use Rattle.sheet_types.specs.Texts.{line}
use Rattle.sheet_types.specs.World.{World}
use Rattle.sheet_types.specs.declared.command.Request.{Request}
use Rattle.sheet_types.specs.declared.receipt.Receipt.{Receipt}
use Rattle.sheet_types.specs.declared.refusal.Refusal.TheVariants.{IdReused}
use Rattle.sheet_laws.proofs.Running.{step_keeps_register, run_keeps_register, run_of_both, repeat_changes_nothing}
use Rattle.sheet_kept_laws.specs.Laws.{Reply, Answers, OnceForGood, AcceptedForGood, ActsOnce, OtherLineIsRefused}
use Rattle.sheet_kept_laws.proofs.Kept.{run_keeps_kept, accepted_is_kept}

-- where the outcome is an answer that changes nothing, so is each step
answers : (w : World) (q : Request) (answer : Reply) → outcome w q ≡ (answer, w) → Answers w q answer
answers w q answer is reply next step =
    elim step [
      | inl done ↦ (inl (done.0 ∙ ap (λ o. o.0) is), done.1 ∙ ap (λ o. o.1) is)
      | inr fault ↦ (inr fault.0, fault.1)
    ]

pub once_for_good : OnceForGood
once_for_good w q r qs replies next types register run is same =
    answers next q (Ok r) (repeat_changes_nothing next q r (run_keeps_kept w qs replies next q.id r types register run
    is) same)

pub accepted_for_good : AcceptedForGood
accepted_for_good w q r mid has_types register step qs replies next types run =
    let it : (kept mid q.id ≡ Some r) × (r.line ≡ line q.command) = accepted_is_kept w q r mid step in
    once_for_good mid q r qs replies next types (step_keeps_register w q (Ok r) mid has_types register step) run it.0
    it.1

-- a request whose identity is kept for another line
refused : (w : World) (q : Request) (r : Receipt) → kept w q.id ≡ Some r
    → bytes_eq r.line (line q.command) ≡ false
    → outcome w q ≡ (Err IdReused, w)
refused w q r is other =
    let no_reply : kept_reply w q ≡ None = ap (option_and_then (λ s. then_some (bytes_eq s.line (line q.command)) s))
    is ∙ ap (λ b. then_some b r) other in
    let reused : id_reused w q ≡ true = ap (λ k. option_map_or (λ s. not (bytes_eq s.line (line q.command))) k
    false)
    is ∙ ap not other in
    let why : refuses w q ≡ Some IdReused = rw reused refl in
    ap (λ k. outcome_by w q k (refuses w q)) no_reply ∙ ap (outcome_by w q None) why

pub other_line_is_refused : OtherLineIsRefused
other_line_is_refused w q r qs replies next types register run is other =
    answers next q (Err IdReused) (refused next q r (run_keeps_kept w qs replies next q.id r types register run is)
    other)

pub acts_once : ActsOnce
acts_once w mid before q r given between replies last again next types_before types types_between register came step
    run repeat =
    let there : IsRegister mid = run_keeps_register w before came.0 mid types_before register came.1 in
    let answer : ((again ≡ Ok r) ⊎ IsFault again) × (next ≡ last) =
    accepted_for_good mid q r given types there step between replies last types_between run again next repeat in
    let whole : Run w (before ++ q ∷ between) (came.0 ++ Ok r ∷ replies) last =
    (run_of_both w before (q ∷ between) (came.0 ++ Ok r ∷ replies) last).1
    (mid, came.0, Ok r ∷ replies, refl, came.1, (given, step, run)) in (
      answer.0,
      (
        came.0 ++ Ok r ∷ replies,
        subst (λ v. Run w (before ++ q ∷ between) (came.0 ++ Ok r ∷ replies) v)
            (sym answer.1) whole,
      ),
    )
