-- Why a new split is refused, in turn.
use Rattle.std.specs.Prelude.{Bool, true, cond, not, ◌&&◌, List, ◌∷◌, Option, Some}
use Rattle.std.proofs.Common.{ap, ◌∙◌}
use Rattle.sheet_types.specs.Matrix.{first_row}
use Rattle.sheet_types.specs.World.{is_live}
use Rattle.sheet_types.specs.declared.command.Request.{Request}
use Rattle.sheet_types.specs.declared.refusal.Refusal.{Refusal}
use Rattle.sheet_types.specs.declared.refusal.Refusal.TheVariants.{IdReused, UnknownPackage}
use Rattle.sheet_laws.specs.Laws.{split_request}
use Rattle.world_loans.specs.Loans.{split_reasons, SplitRefusedInTurn, SplitRefusedAsUnknown}
use Rattle.world_members.proofs.Fitting.{none_reused}

pub split_refused_in_turn : SplitRefusedInTurn
split_refused_in_turn w next id moment p child mode rect new live =
    let q : Request = split_request id moment p child mode rect in
    let rows : List (Bool × Refusal) = (not (is_live w p && true), UnknownPackage)
    ∷ split_reasons w next (split_request id moment p child mode rect) in
    ap (λ b. cond b (Some IdReused) (first_row rows)) (none_reused w q new)
    ∙ ap (λ b. cond (not (b && true)) (Some UnknownPackage) (first_row
    (split_reasons w next (split_request id moment p child mode rect)))) live

pub split_refused_as_unknown : SplitRefusedAsUnknown
split_refused_as_unknown w next id moment p child mode rect new dead =
    let q : Request = split_request id moment p child mode rect in
    let rest : Option Refusal = first_row (split_reasons w next (split_request id moment p child mode rect)) in
    ap (λ b. cond b (Some IdReused) (cond (not (is_live w p && true)) (Some UnknownPackage) rest))
    (none_reused w q new)
    ∙ ap (λ b. cond (not (b && true)) (Some UnknownPackage) rest) dead
