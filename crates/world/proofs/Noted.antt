-- What a request comes to names nothing that is not known, once the receipt is noted.
use Rattle.std.proofs.Common.{◌≡◌, sym, ap, subst, ℕ, List, Option, Some, None, Result, Ok, Err}
use Rattle.sheet_types.specs.Step.{outcome, outcome_by, kept_reply, refuses, receipt_of, accepted}
use Rattle.sheet_types.specs.World.{World}
use Rattle.sheet_types.specs.declared.command.Request.{Request}
use Rattle.sheet_types.specs.declared.receipt.Receipt.{Receipt}
use Rattle.sheet_types.specs.declared.refusal.Refusal.{Refusal}
use Rattle.world_known.specs.Known.{Grows, Knows, Notes}
use Rattle.world_known.proofs.Remembering.{knows_more, knows_next}

-- a reply that is one receipt is no other
pub same_receipt : (a b : Receipt) (v u : World) → ◌≡◌ {A = Result Receipt Refusal × World} (Ok a, v) (Ok b, u)
    → a ≡ b
same_receipt a b v u e = let replies : ◌≡◌ {A = Result Receipt Refusal} (Ok a) (Ok b) = ap (λ o. o.0) e in cc

-- and no refusal
pub no_receipt : (why : Refusal) (b : Receipt) (v u : World) → ◌≡◌ {A = Result Receipt Refusal × World}
    (Err why, v)
    (Ok b, u) → ⊥
no_receipt why b v u e = let replies : ◌≡◌ {A = Result Receipt Refusal} (Err why) (Ok b) = ap (λ o. o.0) e in cc

-- the world after a request that got this receipt
pub knows_after : (q : Request) (due : Receipt) (known noted : List (List ℕ)) → Grows known noted
    → Notes noted due
    → (w next : World) → Knows known w → outcome w q ≡ (Ok due, next) → Knows noted next
knows_after q due known noted grows notes w next knows is = by_case (kept_reply w q) (refuses w q) is
  where
    by_case : (k : Option Receipt) (refused : Option Refusal) → outcome_by w q k refused ≡ (Ok due, next)
        → Knows noted next
    by_case (Some r) refused same = subst (Knows noted) (ap (λ o. o.1) same) (knows_more known noted w grows knows)
    by_case None (Some why) same = absurd (no_receipt why due w next same)
    by_case None None same = subst (Knows noted) (ap (λ o. o.1) same)
        (knows_next known noted w q grows knows (subst (Notes noted)
        (sym (same_receipt (receipt_of w q) due (accepted w q) next same)) notes))
