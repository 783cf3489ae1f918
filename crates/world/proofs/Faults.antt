-- Whether a reply tells a fault, and what it means for the world of the model.
use Rattle.std.specs.Prelude.{◌≡◌, ◌⊎◌, refl, Option, Some, None, Result, Ok, Err, IsErr}
use Rattle.std.proofs.Common.{inl, inr, subst, sym}
use Rattle.sheet_types.specs.Step.{IsFault, Step, outcome_by, kept_reply, refuses}
use Rattle.sheet_types.specs.World.{World}
use Rattle.sheet_types.specs.declared.command.Request.{Request}
use Rattle.sheet_types.specs.declared.receipt.Receipt.{Receipt}
use Rattle.sheet_types.specs.declared.refusal.Refusal.{Refusal}
use Rattle.sheet_types.specs.declared.refusal.Refusal.TheVariants as refusal

no_fault : (reply : Result Receipt Refusal) → ¬ (reply ≡ Err refusal.OutOfMemory)
    → ¬ (reply ≡ Err refusal.StoreFault)
    → ¬ IsFault reply
no_fault reply memory store (inl e) = memory e
no_fault reply memory store (inr e) = store e

-- it tells one or not
pub fault_or_not : (reply : Result Receipt Refusal) → IsFault reply ⊎ ¬ IsFault reply
fault_or_not (Ok receipt) = inr (no_fault (Ok receipt) (λ e. let x = e in cc) (λ e. let x = e in cc))
fault_or_not (Err refusal.IdReused) = inr (no_fault (Err refusal.IdReused) (λ e. let x = e in cc)
    (λ e. let x = e in cc))
fault_or_not (Err refusal.UnknownPackage) = inr (no_fault (Err refusal.UnknownPackage) (λ e. let x = e in cc)
    (λ e. let x = e in cc))
fault_or_not (Err refusal.PackageUsed) = inr (no_fault (Err refusal.PackageUsed) (λ e. let x = e in cc)
    (λ e. let x = e in cc))
fault_or_not (Err refusal.BadText) = inr (no_fault (Err refusal.BadText) (λ e. let x = e in cc)
    (λ e. let x = e in cc))
fault_or_not (Err refusal.TooLarge) = inr (no_fault (Err refusal.TooLarge) (λ e. let x = e in cc)
    (λ e. let x = e in cc))
fault_or_not (Err refusal.IdentityUsed) = inr (no_fault (Err refusal.IdentityUsed) (λ e. let x = e in cc)
    (λ e. let x = e in cc))
fault_or_not (Err refusal.UnknownItem) = inr (no_fault (Err refusal.UnknownItem) (λ e. let x = e in cc)
    (λ e. let x = e in cc))
fault_or_not (Err refusal.WrongKind) = inr (no_fault (Err refusal.WrongKind) (λ e. let x = e in cc)
    (λ e. let x = e in cc))
fault_or_not (Err refusal.BadPlace) = inr (no_fault (Err refusal.BadPlace) (λ e. let x = e in cc)
    (λ e. let x = e in cc))
fault_or_not (Err refusal.OutOfFrame) = inr (no_fault (Err refusal.OutOfFrame) (λ e. let x = e in cc)
    (λ e. let x = e in cc))
fault_or_not (Err refusal.PlaceTaken) = inr (no_fault (Err refusal.PlaceTaken) (λ e. let x = e in cc)
    (λ e. let x = e in cc))
fault_or_not (Err refusal.LinkThere) = inr (no_fault (Err refusal.LinkThere) (λ e. let x = e in cc)
    (λ e. let x = e in cc))
fault_or_not (Err refusal.UnknownLink) = inr (no_fault (Err refusal.UnknownLink) (λ e. let x = e in cc)
    (λ e. let x = e in cc))
fault_or_not (Err refusal.Linked) = inr (no_fault (Err refusal.Linked) (λ e. let x = e in cc) (λ e. let x = e in cc))
fault_or_not (Err refusal.BadRectangle) = inr (no_fault (Err refusal.BadRectangle) (λ e. let x = e in cc)
    (λ e. let x = e in cc))
fault_or_not (Err refusal.TooDeep) = inr (no_fault (Err refusal.TooDeep) (λ e. let x = e in cc)
    (λ e. let x = e in cc))
fault_or_not (Err refusal.NothingToLend) = inr (no_fault (Err refusal.NothingToLend) (λ e. let x = e in cc)
    (λ e. let x = e in cc))
fault_or_not (Err (refusal.CutLink x)) = inr (no_fault (Err (refusal.CutLink x)) (λ e. let y = e in cc)
    (λ e. let y = e in cc))
fault_or_not (Err refusal.Foreign) = inr (no_fault (Err refusal.Foreign) (λ e. let x = e in cc)
    (λ e. let x = e in cc))
fault_or_not (Err (refusal.Stale x)) = inr (no_fault (Err (refusal.Stale x)) (λ e. let y = e in cc)
    (λ e. let y = e in cc))
fault_or_not (Err (refusal.LoanOpen x)) = inr (no_fault (Err (refusal.LoanOpen x)) (λ e. let y = e in cc)
    (λ e. let y = e in cc))
fault_or_not (Err (refusal.Collides x)) = inr (no_fault (Err (refusal.Collides x)) (λ e. let y = e in cc)
    (λ e. let y = e in cc))
fault_or_not (Err refusal.TooMany) = inr (no_fault (Err refusal.TooMany) (λ e. let x = e in cc)
    (λ e. let x = e in cc))
fault_or_not (Err refusal.OutOfMemory) = inl (inl refl)
fault_or_not (Err refusal.StoreFault) = inl (inr refl)

same_by : (w : World) (q : Request) (k : Option Receipt) (r : Option Refusal) → IsErr (outcome_by w q k r).0
    → (outcome_by w q k r).1 ≡ w
same_by w q (Some receipt) r refused = absurd (let e = refused in cc)
same_by w q None (Some why) refused = refl
same_by w q None None refused = absurd (let e = refused in cc)

-- a request that is refused, or met a fault, leaves the world
pub refused_stays : (w next : World) (q : Request) (reply : Result Receipt Refusal) → IsErr reply
    → Step w q reply next → Step w q reply w
refused_stays w next q reply refused (inl told) = inl (
  told.0,
  sym
      (same_by w q (kept_reply w q) (refuses w q) (subst IsErr told.0 refused)),
)
refused_stays w next q reply refused (inr fault) = inr (fault.0, refl)

-- a fault is an error
pub fault_is_err : (reply : Result Receipt Refusal) → IsFault reply → IsErr reply
fault_is_err (Ok receipt) (inl e) = absurd (let f = e in cc)
fault_is_err (Ok receipt) (inr e) = absurd (let f = e in cc)
fault_is_err (Err why) fault = refl
