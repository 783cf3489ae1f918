-- What it takes to be accepted, and what is not.
use Rattle.std.specs.Prelude.{◌≡◌, Bool, true, false, cond, not, List, [], ◌∷◌, refl, bytes_eq, Option}
use Rattle.std.specs.Prelude.{Some, None}
use Rattle.std.proofs.Common.{sym, ap, ◌∙◌}
use Rattle.std.specs.List.{AllByRecursion}
use Rattle.sheet_types.specs.Ordered.{has}
use Rattle.sheet_types.specs.World.{World, receipts_of}
use Rattle.std.specs.Option.{option_map_or, option_and_then}
use Rattle.sheet_types.specs.Custody.{kept}
use Rattle.sheet_types.specs.Texts.{line}
use Rattle.sheet_types.specs.Step.{kept_reply, outcome_by, accepted, outcome}
use Rattle.std.specs.Bool.{then_some}
use Rattle.sheet_types.specs.Matrix.{first_row}
use Rattle.sheet_types.specs.Refuse.{id_reused, refusal}
use Rattle.sheet_types.specs.declared.command.Request.{Request}
use Rattle.sheet_types.specs.declared.refusal.Refusal.{Refusal}
use Rattle.sheet_types.proofs.Basics.{None≢Some, not_false}
use Rattle.sheet_types.proofs.Found.{none_found}

-- where no row of a table passes, each test fails
pub rows_fail : {X : Type 0} (rows : List (Bool × X)) → first_row rows ≡ None
    → AllByRecursion (λ row. row.0 ≡ false) rows
rows_fail [] h = tt
rows_fail (row ∷ rows) h =
    elim row.0 as (λ v. row.0 ≡ v → cond v (Some row.1) (first_row rows) ≡ None
    → AllByRecursion (λ x. x.0 ≡ false) (row ∷ rows)) [
      | true ↦ λ _ e. absurd (None≢Some (sym e))
      | false ↦ λ fails e. (fails, rows_fail rows e)
    ] refl h

-- a request that is neither answered from the ledger nor refused has a new identity
pub new_identity : (w : World) (q : Request) → kept_reply w q ≡ None → id_reused w q ≡ false
    → has (λ r. r.request) q.id (receipts_of w) ≡ false
new_identity w q no_reply not_reused = none_found (λ r. bytes_eq r.request q.id) (receipts_of w)
    (elim (kept w q.id) as (λ k. option_and_then (λ r. then_some (bytes_eq r.line (line q.command)) r) k ≡ None
    → option_map_or (λ r. not (bytes_eq r.line (line q.command))) k false ≡ false → k ≡ None) [
      | None ↦ λ _ _. refl
      | Some r ↦ λ no reused. absurd (None≢Some (sym no ∙ ap (λ b. then_some b r)
          (not_false (bytes_eq r.line (line q.command)) reused)))
    ] no_reply not_reused)

-- a request that is neither answered from the ledger nor refused
pub keeps : (P : World → Type 0) (w : World) (q : Request) → P w
    → (kept_reply w q ≡ None → refusal w (accepted w q) q ≡ None → P (accepted w q)) → P (outcome w q).1
keeps P w q h then' =
    let why : Option Refusal = refusal w (accepted w q) q in
    elim (kept_reply w q) as (λ k. kept_reply w q ≡ k → P (outcome_by w q k why).1) [
      | Some r ↦ λ _. h
      | None ↦ λ no_reply. elim (refusal w (accepted w q) q) as
          (λ o. refusal w (accepted w q) q ≡ o → P (outcome_by w q None o).1) [
            | Some e ↦ λ _. h
            | None ↦ λ no_refusal. then' no_reply no_refusal
          ] refl
    ] refl
