-- A request that got no receipt leaves the world as it was.
use Rattle.std.specs.Prelude.{◌≡◌, [], ◌∷◌, refl, Option, Some, None, Ok, Err}
use Rattle.std.proofs.Common.{sym, subst, ◌∙◌, inl, inr}
use Rattle.sheet_types.specs.Step.{Step, Run, outcome_by, kept_reply, refuses}
use Rattle.sheet_types.specs.World.{World}
use Rattle.sheet_types.specs.declared.command.Request.{Request}
use Rattle.sheet_types.specs.declared.receipt.Receipt.{Receipt}
use Rattle.sheet_types.specs.declared.refusal.Refusal.{Refusal}
use Rattle.sheet_kept_laws.specs.Laws.{RefusedAsUnasked}

-- by what is kept, and by what refuses
outcome_stays : (w : World) (q : Request) (why : Refusal) (k : Option Receipt) (refused : Option Refusal)
    → (outcome_by w q k refused).0 ≡ Err why → (outcome_by w q k refused).1 ≡ w
outcome_stays w q why (Some r) refused is = refl
outcome_stays w q why None (Some other) is = refl
outcome_stays w q why None None is = absurd (let e = is in cc)

pub refused_stays : (w : World) (q : Request) (why : Refusal) (next : World) → Step w q (Err why) next → next ≡ w
refused_stays w q why next step =
    elim step [
      | inl done ↦ done.1 ∙ outcome_stays w q why (kept_reply w q) (refuses w q) (sym done.0)
      | inr fault ↦ fault.1
    ]

pub refused_as_unasked : RefusedAsUnasked
refused_as_unasked w [] [] next run = run
refused_as_unasked w [] (reply ∷ replies) next run = absurd run
refused_as_unasked w (q ∷ qs) [] next run = absurd run
refused_as_unasked w (q ∷ qs) (Ok r ∷ replies) next run = (
  run.0,
  run.1,
  refused_as_unasked run.0 qs replies next
      run.2,
)
refused_as_unasked w (q ∷ qs) (Err why ∷ replies) next run =
    let same : run.0 ≡ w = refused_stays w q why run.0 run.1 in
    refused_as_unasked w qs replies next (subst (λ v. Run v qs replies next) same run.2)
