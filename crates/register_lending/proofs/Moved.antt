-- What goes and comes, from the names of a selection to its cut.
use Rattle.std.proofs.Common.{subst, Result, Ok, arith}
use Rattle.sqlite.specs.Effect.{Database}
use Rattle.sqlite.specs.State.{State, HasCleanDisk}
use Rattle.store_sql.specs.Staying.{Stays}
use Rattle.store_sql.specs.Transactions.{Steps}
use Rattle.store_sql.proofs.Transactions.{steps_answer}
use Rattle.custody.specs.Homing.{FromClean}
use Rattle.identity_register.specs.LocalNumbers.{Shrinks}
use Rattle.identity_register.specs.Reads.{Reads}
use Rattle.identity_register.specs.declared.selection.Selection.{Selection}
use Rattle.transfer.specs.Parcels.{IsSelection, names_of, selected, without_names}
use Rattle.transfer.specs.Moves.{OfSource, Takes}
use Rattle.register_lending.specs.Selecting.{TakesOut, CarriesOver}
use Rattle.register_lending.proofs.Selected.{is_selection, left_is_less, same_with, is_new_cut}

pub cut_out : (s : Selection) (old new : Database) → Shrinks (IsSelection (names_of s)) (without_names (names_of s))
    old new → TakesOut s old new
cut_out s old new shrinks c f p is reads part =
    let out = shrinks f p reads (is_selection c s f p old is reads part) in
    (subst (λ x. Reads f x new) (left_is_less c s f p old is reads part) out.0, out.1)

pub cut_in : (s : Selection) (source then_source : State) (old new : Database)
    → (HasCleanDisk then_source → OfSource source (λ p. Takes (selected (names_of s) p) old new))
    → FromClean then_source (CarriesOver s source.now) old new
cut_in s source then_source old new takes clean c f from p is read part reads may =
    let come = takes clean f from (λ _. read) f p reads (is_new_cut c s f from source.now is read part p may) in
    (subst (λ x. Reads f x new) (same_with c s f from source.now is read part p may) come.0, come.1)

-- a source that is read once more
pub later : {E F : Type 0} (s : Selection) (source then_source last_source : State) {old new : State} {x : Unit {0}}
    → Stays then_source last_source → Steps {E = E} (λ _. FromClean then_source (CarriesOver s source.now)) old new
    (Ok x)
    → Steps {X = Unit {0}} {E = F} (λ _. FromClean last_source (CarriesOver s source.now)) old new (Ok tt)
later s source then_source last_source stays steps = steps_answer
    (λ _. FromClean last_source (CarriesOver s source.now)) tt
    (λ change clean. change (omega (arith, stays.survives.clean, clean))) steps
