-- Why a new merge is refused, in turn.
use Rattle.std.specs.Prelude.{◌≡◌, Bool, true, false, cond, not, ◌&&◌, List, ◌∷◌, Option, Some, refl}
use Rattle.std.proofs.Common.{ap, ◌∙◌}
use Rattle.std.proofs.lemmas.Bool.{and_from}
use Rattle.sheet_types.specs.Matrix.{first_row}
use Rattle.sheet_types.specs.World.{is_live}
use Rattle.sheet_types.specs.declared.command.Request.{Request}
use Rattle.sheet_types.specs.declared.refusal.Refusal.{Refusal}
use Rattle.sheet_types.specs.declared.refusal.Refusal.TheVariants.{IdReused, UnknownPackage}
use Rattle.sheet_laws.specs.Laws.{merge_request}
use Rattle.world_loans.specs.Loans.{merge_reasons, MergeRefusedInTurn, MergeRefusedAsUnknown}
use Rattle.world_members.proofs.Fitting.{none_reused}

-- both packages are live, or not
both_live : (a b : Bool) → (a && b) ≡ false → not (a && (b && true)) ≡ true
both_live true true h = ap not h
both_live true false h = refl
both_live false b h = refl

pub merge_refused_in_turn : MergeRefusedInTurn
merge_refused_in_turn w next id moment child into ticket' new child_live into_live =
    let q : Request = merge_request id moment child into ticket' in
    let rows : List (Bool × Refusal) = (not (is_live w child && (is_live w into && true)), UnknownPackage)
    ∷ merge_reasons w next (merge_request id moment child into ticket') in
    ap (λ b. cond b (Some IdReused) (first_row rows)) (none_reused w q new)
    ∙ ap (λ b. cond (not b) (Some UnknownPackage) (first_row
    (merge_reasons w next (merge_request id moment child into ticket'))))
    (and_from (is_live w child) (is_live w into && true) child_live
    (and_from (is_live w into) true into_live refl))

pub merge_refused_as_unknown : MergeRefusedAsUnknown
merge_refused_as_unknown w next id moment child into ticket' new dead =
    let q : Request = merge_request id moment child into ticket' in
    let rest : Option Refusal = first_row (merge_reasons w next (merge_request id moment child into ticket')) in
    ap (λ b. cond b (Some IdReused) (cond (not (is_live w child && (is_live w into && true))) (Some UnknownPackage)
    rest)) (none_reused w q new)
    ∙ ap (λ b. cond b (Some UnknownPackage) rest) (both_live (is_live w child) (is_live w into) dead)
