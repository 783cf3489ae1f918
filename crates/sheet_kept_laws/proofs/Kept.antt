-- What is kept stays kept, and what is given is kept.
use Rattle.std.specs.Prelude.{◌≡◌, ℕ, Bool, true, false, cond, List, [], ◌∷◌, ◌++◌, find, refl}
use Rattle.std.specs.Prelude.{bytes_eq, Option}
use Rattle.std.specs.Prelude.{Some, None, Ok, Err}
use Rattle.std.proofs.Common.{sym, ap, subst, ◌∙◌, inl, inr}
use Rattle.std.proofs.lemmas.Slice.Eq.{bytes_eq-Decides}
use Rattle.std.specs.Bool.{then_some}
use Rattle.std.specs.Option.{option_and_then}
use Rattle.sheet_types.specs.Custody.{kept}
use Rattle.sheet_types.specs.Step.{outcome_by, accepted, receipt_of, kept_reply, refuses}
use Rattle.sheet_types.specs.Texts.{line}
use Rattle.sheet_types.specs.World.{World, receipts_of}
use Rattle.sheet_types.specs.declared.command.Request.{Request}
use Rattle.sheet_types.specs.declared.receipt.Receipt.{Receipt}
use Rattle.sheet_types.specs.declared.refusal.Refusal.{Refusal}
use Rattle.sheet_types.proofs.Basics.{None≢Some, some_same}
use Rattle.sheet_kept_laws.specs.Laws.{Reply, StepKeepsKept, RunKeepsKept, AcceptedIsKept}
use Rattle.sheet_kept_laws.proofs.Given.{given_is_kept}
use Rattle.sheet_kept_laws.proofs.Growing.{run_extends_ledger}

-- the first that passes is the first of a longer list too
found_before : {X : Type 0} (p : X → Bool) (x : X) (xs ys : List X) → find p xs ≡ Some x
    → find p (xs ++ ys) ≡ Some x
found_before p x [] ys h = absurd (None≢Some h)
found_before p x (z ∷ zs) ys h =
    elim (p z) as (λ v. cond v (Some z) (find p zs) ≡ Some x → cond v (Some z) (find p (zs ++ ys)) ≡ Some x) [
      | true ↦ λ e. e
      | false ↦ λ e. found_before p x zs ys e
    ] h

-- ---- what is kept stays kept

pub run_keeps_kept : RunKeepsKept
run_keeps_kept w qs replies next id r types register run is =
    let more : (more : List Receipt) × (receipts_of next ≡ receipts_of w ++ more) =
    run_extends_ledger w qs replies next types register run in
    ap (find (λ x. bytes_eq x.request id)) more.1 ∙ found_before (λ x. bytes_eq x.request id) r (receipts_of w)
    more.0
    is

pub step_keeps_kept : StepKeepsKept
step_keeps_kept w q reply next id r types register step is =
    run_keeps_kept w (q ∷ []) (reply ∷ []) next id r (types, tt) register (next, step, refl) is

-- ---- what is given is kept

abbrev IsKeptFor : World → Request → Receipt → Type 0
IsKeptFor w q r = (kept w q.id ≡ Some r) × (r.line ≡ line q.command)

-- a reply from the ledger
reply_is_kept : (text : List ℕ) (k : Option Receipt) (r : Receipt)
    → option_and_then (λ s. then_some (bytes_eq s.line text) s) k ≡ Some r → (k ≡ Some r) × (r.line ≡ text)
reply_is_kept text None r h = absurd (None≢Some h)
reply_is_kept text (Some s) r h =
    elim (bytes_eq s.line text) as (λ v. bytes_eq s.line text ≡ v → then_some v s ≡ Some r
    → (Some s ≡ Some r)
    × (r.line ≡ text)) [
      | true ↦ λ same is. (is, ap (λ x. x.line) (sym (some_same is)) ∙ (bytes_eq-Decides s.line text).0 same)
      | false ↦ λ _ none. absurd (None≢Some none)
    ] refl h

-- the receipt of a reply
abbrev given : Receipt → Reply → Receipt
given other (Ok r) = r
given other (Err why) = other

-- by what is kept, and by what refuses
kept_by : (w : World) (q : Request) (r : Receipt) (k : Option Receipt) (why : Option Refusal) → kept_reply w q ≡ k
    → refuses w q ≡ why → (outcome_by w q k why).0 ≡ Ok r → IsKeptFor (outcome_by w q k why).1 q r
kept_by w q r (Some x) why is by ok = subst (IsKeptFor w q) (ap (given x) ok)
    (reply_is_kept (line q.command) (kept w q.id) x is)
kept_by w q r None (Some why) is by ok = absurd (error_not_ok why ok)
  where
    error_not_ok : (e : Refusal) → Err e ≡ Ok r → ⊥
    error_not_ok e same = cc
kept_by w q r None None is by ok = subst (IsKeptFor (accepted w q) q) (ap (given (receipt_of w q)) ok)
    (given_is_kept w q is by, refl)

pub accepted_is_kept : AcceptedIsKept
accepted_is_kept w q r next step =
    elim step [
      | inl done ↦ subst (λ v. IsKeptFor v q r) (sym done.1)
          (kept_by w q r (kept_reply w q) (refuses w q) refl refl (sym done.0))
      | inr fault ↦ absurd (elim fault.0 [
        | inl memory ↦ ok_not_error _ memory
        | inr store
            ↦ ok_not_error _ store
      ])
    ]
  where
    ok_not_error : (e : Refusal) → Ok r ≡ Err e → ⊥
    ok_not_error e same = cc
