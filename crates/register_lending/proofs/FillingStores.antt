-- A store that was made for a child and filled.
use Rattle.std.proofs.Common.{sym, subst, Result, Ok, arith}
use Rattle.sqlite.specs.State.{State, HasCleanDisk}
use Rattle.sqlite.specs.Tree.{Trees}
use Rattle.sheet_types.specs.Cut.{Cut}
use Rattle.sheet_types.specs.Texts.{is_moment}
use Rattle.sheet_types.specs.World.{Package}
use Rattle.sheet_types.specs.declared.frame.Frame.{Frame}
use Rattle.store_sql.specs.Transactions.{Turns}
use Rattle.identity_register.specs.Creation.{Keeps}
use Rattle.identity_register.specs.Reads.{Reads}
use Rattle.std.specs.Prelude.{List, ℕ, ◌≡◌, true}
use Rattle.register_lending.specs.Lending.{Fills}
use Rattle.custody.specs.Homing.{FromClean}
use Rattle.transfer.specs.Parcels.{with_cut}
use Rattle.register_lending.specs.Selecting.{IsSelectionOf, IsPart, MayCome}
use Rattle.identity_register.specs.declared.selection.Selection.{Selection}
use Rattle.sqlite.specs.Effect.{Database}

-- it keeps what came into it
pub filled_keeps : {E : Type 0} (f : Frame) (c : Cut) (from empty : Package) (s : Selection) (at : List ℕ)
    (source : State) (db : Database) (made filled : State)
    → is_moment at ≡ true → (HasCleanDisk made → Keeps f empty made)
    → Turns {X = Unit {0}} {E = E} (λ _. FromClean source (Fills s at db)) made filled (Ok tt)
    → HasCleanDisk filled → HasCleanDisk source → IsSelectionOf c s → Reads f from db → IsPart c from
    → MayCome c empty → Keeps f (with_cut c empty) filled
filled_keeps f c from empty s at source db made filled moment keeps turns clean clean_source selected read part come =
    let done = turns.done clean in
    let was : Keeps f empty made = keeps (omega (arith, turns.survives.clean, clean)) in
    let reads : Reads f (with_cut c empty) filled.now = (done.0 clean_source moment c f from empty selected read part
    was.reads come).0 in
    record {
      holds = done.1;
      reads = reads;
      left = λ trees may. subst (λ (t : Trees). Reads f (with_cut c empty)
          (record { schema = filled.now.schema; trees = t })) (sym (done.1.left trees may)) reads;
    }
