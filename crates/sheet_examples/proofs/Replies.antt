-- What follows of the three cases of a reply.
use Rattle.std.specs.Prelude.{◌≡◌, Option, Some, None, Err, refl}
use Rattle.std.proofs.Common.{inl, inr, ◌∙◌, ap}
use Rattle.sheet_types.specs.World.{World}
use Rattle.sheet_types.specs.Step.{outcome_by, kept_reply, refuses}
use Rattle.sheet_types.specs.declared.command.Request.{Request}
use Rattle.sheet_types.specs.declared.receipt.Receipt.{Receipt}
use Rattle.sheet_types.specs.declared.refusal.Refusal.{Refusal}
use Rattle.sheet_examples.specs.Steps.{RefusedChangesNothing, KeptChangesNothing, FaultAnywhere}

stays : (w : World) (q : Request) (o : Option Receipt) (refused : Option Refusal) (why : Refusal)
    → Err why ≡ (outcome_by w q o refused).0 → (outcome_by w q o refused).1 ≡ w
stays w q (Some r) refused why e = refl
stays w q None (Some other) why e = refl
stays w q None None why e = absurd (cc e)

pub refused_changes_nothing : RefusedChangesNothing
refused_changes_nothing w q why next step = elim step [
  | inl h ↦ h.1 ∙ stays w q (kept_reply w q) (refuses w q) why h.0
  | inr h ↦ h.1
]

pub kept_changes_nothing : KeptChangesNothing
kept_changes_nothing w q r e = ap (λ o. outcome_by w q o (refuses w q)) e

pub fault_anywhere : FaultAnywhere
fault_anywhere w q = (inr (inl refl, refl), inr (inr refl, refl))
