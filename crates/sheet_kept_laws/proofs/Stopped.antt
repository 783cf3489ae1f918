-- A request that was stopped, and comes again.
use Rattle.std.specs.Prelude.{◌≡◌, ◌⊎◌, List, [], ◌∷◌, ◌++◌, refl, Ok, Err}
use Rattle.std.proofs.Common.{sym, subst, inl, inr}
use Rattle.sheet_types.specs.Lines.{HasTypes}
use Rattle.sheet_types.specs.Register.{IsRegister}
use Rattle.sheet_types.specs.Step.{Step, Run, IsFault, outcome}
use Rattle.sheet_types.specs.World.{World}
use Rattle.sheet_types.specs.declared.command.Request.{Request}
use Rattle.sheet_laws.proofs.Running.{run_keeps_register, run_of_both}
use Rattle.sheet_kept_laws.specs.Laws.{Reply, BeginsWith, ComesTo, StoppedActsOnce}
use Rattle.sheet_kept_laws.proofs.Again.{accepted_for_good}
use Rattle.sheet_kept_laws.proofs.Unasked.{refused_stays}

-- Its first reply is this one, or a fault; and the rest leads on from a world to which the request leads.
abbrev Once : World → Request → List Request → List Reply → World → Type 0
Once w q others replies next = BeginsWith (outcome w q).0 replies × ComesTo w (q ∷ others) next

-- as the world was before it
from_before : (w : World) (q : Request) (others : List Request) (replies : List Reply) (next : World)
    → Run w (q ∷ others) replies next → Once w q others replies next
from_before w q others [] next run = absurd run
from_before w q others (reply ∷ replies) next run =
    (elim run.1 [ inl done ↦ inl done.0 | inr fault ↦ inr fault.0 ], (reply ∷ replies, run))

-- as it was after it, with the reply that the request got
from_after : (w : World) (q : Request) (others : List Request) (replies : List Reply) (next : World)
    → HasTypes q.command → IsRegister w → (first : Reply) → (outcome w q).0 ≡ first
    → Run (outcome w q).1 (q ∷ others) replies next → Once w q others replies next
from_after w q others replies next types register (Err why) is run =
    from_before w q others replies next (subst (λ v. Run v (q ∷ others) replies next)
    (refused_stays w q why (outcome w q).1 (inl (sym is, refl))) run)
from_after w q others [] next types register (Ok r) is run = absurd run
from_after w q others (reply ∷ replies) next types register (Ok r) is run =
    let made : World = (outcome w q).1 in
    let given : Step w q (Ok r) made = inl (sym is, refl) in
    let again : ((reply ≡ Ok r) ⊎ IsFault reply) × (run.0 ≡ made) =
    accepted_for_good w q r made types register given [] [] made tt refl reply run.0 run.1 in (
      subst (λ o. (reply ≡ o) ⊎ IsFault reply) (sym is) again.0,
      (Ok r ∷ replies, (made, given, subst (λ v. Run v others replies next) again.1 run.2)),
    )

once : (w : World) (q : Request) (left : World) (others : List Request) (replies : List Reply) (next : World)
    → HasTypes q.command → IsRegister w → (left ≡ w) ⊎ (left ≡ (outcome w q).1)
    → Run left (q ∷ others) replies next
    → Once w q others replies next
once w q left others replies next types register among run =
    elim among [
      | inl before ↦ from_before w q others replies next (subst (λ v. Run v (q ∷ others) replies next) before run)
      | inr after ↦ from_after w q others replies next types register (outcome w q).0 refl
          (subst (λ v. Run v (q ∷ others) replies next) after run)
    ]

pub stopped_acts_once : StoppedActsOnce
stopped_acts_once w mid before q left others replies next types_before types register came among run =
    let there : IsRegister mid = run_keeps_register w before came.0 mid types_before register came.1 in
    let it : Once mid q others replies next = once mid q left others replies next types there among run in (
      it.0,
      (
        came.0 ++ it.1.0,
        (run_of_both w before (q ∷ others) (came.0 ++ it.1.0) next).1 (mid, came.0, it.1.0, refl, came.1, it.1.1),
      ),
    )
