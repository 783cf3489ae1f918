-- Runs of one list of requests in which each got a receipt.
use Rattle.std.specs.Prelude.{◌≡◌, [], ◌∷◌}
use Rattle.std.proofs.Common.{sym, subst, ◌∙◌, inl, inr}
use Rattle.sheet_types.specs.Step.{Step, Run, outcome}
use Rattle.sheet_types.specs.World.{World}
use Rattle.sheet_types.specs.declared.command.Request.{Request}
use Rattle.field_run_laws.specs.Lists.{Reply, IsGiven}
use Rattle.field_run_laws.specs.Laws.{GivenRunsAgree}

-- such a step is the outcome
pub is_outcome : (m : World) (q : Request) (reply : Reply) (next : World) → Step m q reply next → IsGiven reply
    → next ≡ (outcome m q).1
is_outcome m q reply next step given = elim step [
  | inl done ↦ done.1
  | inr fault ↦ absurd (elim fault.0 [
    | inl memory ↦ subst IsGiven memory given
    | inr store
        ↦ subst IsGiven store given
  ])
]

pub given_runs_agree : GivenRunsAgree
given_runs_agree w [] [] first [] second one a two b = one ∙ sym two
given_runs_agree w [] [] first (s ∷ ss) second one a two b = absurd two
given_runs_agree w [] (r ∷ rs) first other second one a two b = absurd one
given_runs_agree w (q ∷ qs) [] first other second one a two b = absurd one
given_runs_agree w (q ∷ qs) (r ∷ rs) first [] second one a two b = absurd two
given_runs_agree w (q ∷ qs) (r ∷ rs) first (s ∷ ss) second one a two b =
    let same : two.0 ≡ one.0 = is_outcome w q s two.0 two.1 b.0 ∙ sym (is_outcome w q r one.0 one.1 a.0) in
    given_runs_agree one.0 qs rs first ss second one.2 a.1 (subst (λ v. Run v qs ss second) same two.2) b.1
