-- What splits and merges write, call by call.
use Rattle.std.proofs.Common.{◌≡◌, sym, subst, ℕ, List, Result, Ok, Err, IsErrAnd, IsTrue, arith}
use Rattle.sqlite.specs.Effect.{Database}
use Rattle.sqlite.specs.State.{State, HasCleanDisk}
use Rattle.sheet_types.specs.Cut.{Cut}
use Rattle.sheet_types.specs.Step.{less}
use Rattle.sheet_types.specs.World.{Package}
use Rattle.sheet_types.specs.declared.frame.Frame.{Frame}
use Rattle.sheet_types.specs.declared.receipt.Receipt.{Receipt}
use Rattle.store_sql.specs.Staying.{Stays}
use Rattle.store_sql.specs.Transactions.{Steps}
use Rattle.store_sql.proofs.Transactions.{steps_then, steps_weaker}
use Rattle.custody.specs.Receipts.{IsNewReceipt, EntersReceipt}
use Rattle.custody.proofs.KeptRows.{dated_rows}
use Rattle.identity_register.specs.Calls.{Dates}
use Rattle.identity_register.specs.LocalNumbers.{KeepsNumbers}
use Rattle.identity_register.specs.Reads.{Reads}
use Rattle.identity_register.proofs.KeptNumbers.{kept_then}
use Rattle.register_lending.specs.Lending.{Fills, Lends, TakesHome, BringsBoth, MayReturn, lent, returned}
use Rattle.custody.specs.Homing.{AreApart, BringsHome, FromClean, with_receipts_of}
use Rattle.transfer.specs.Parcels.{with_cut}
use Rattle.register_lending.specs.Selecting.{IsSelectionOf, IsPart, MayCome, TakesOut, CarriesOver}
use Rattle.identity_register.specs.declared.selection.Selection.{Selection}
use Rattle.package_tables.specs.declared.fault.Fault.{Fault}
use Rattle.register_lending.specs.declared.turn_fault.TurnFault.{TurnFault}
use Rattle.register_lending.specs.declared.turn_fault.TurnFault.TheVariants.{Before, Committing}

-- ---- a child is filled

pub filled_then : {E F : Type 0} (s : Selection) (at : List ℕ) (source : State) (db : Database) {old mid new : State}
    {x : Unit {0}} {q : Result (Unit {0}) F} → Steps {E = E} (λ _. FromClean source (CarriesOver s db)) old mid
    (Ok x)
    → Steps (λ _. Dates at) mid new q
    → Steps (λ _. FromClean source (Fills s at db)) old new q
filled_then s at source db {old} {mid} {new} first next =
    steps_weaker (λ _. FromClean source (Fills s at db))
    (λ _ chain clean moment c f from p selected read part reads come.
    let came = chain.1 clean c f from p selected read part reads come in
    let it = chain.2 moment f (with_cut c p) came.0 in
    (it.0, it.1, kept_then old.now chain.0 new.now came.1 (dated_rows chain.0 new.now it.2).0))
    (steps_then first next)

-- ---- a parent lends

-- what is selected leaves it, the receipt is entered, and what stays keeps its number
abbrev pub TakesAndEnters : Receipt → Selection → Database → Database → Type 0
TakesAndEnters r s old new = (c : Cut) (f : Frame) (p : Package) → IsSelectionOf c s → Reads f p old → IsPart c p
    → IsNewReceipt r (less c p) → Reads f (lent r c p) new × KeepsNumbers new old

pub taken_then : {E F : Type 0} (r : Receipt) (s : Selection) {old mid new : State} {x : Unit {0}}
    {q : Result (Unit {0}) F} → Steps {E = E} (λ _. TakesOut s) old mid (Ok x)
    → Steps (λ _. EntersReceipt r) mid new q → Steps (λ _. TakesAndEnters r s) old new q
taken_then r s {old} {mid} {new} first next =
    steps_weaker (λ _. TakesAndEnters r s)
    (λ _ chain c f p selected reads part receipt.
    let left = chain.1 c f p selected reads part in
    let it = chain.2 f (less c p) left.0 receipt in
    (it.0, kept_then new.now chain.0 old.now it.2 left.1))
    (steps_then first next)

pub lent_then : {E F : Type 0} (r : Receipt) (s : Selection) {old mid new : State} {x : Unit {0}}
    {q : Result (Unit {0}) F} → Steps {E = E} (λ _. TakesAndEnters r s) old mid (Ok x)
    → Steps (λ _. Dates r.at) mid new q → Steps (λ _. Lends r s) old new q
lent_then r s {old} {mid} {new} first next =
    steps_weaker (λ _. Lends r s)
    (λ _ chain c f p selected reads part receipt.
    let left = chain.1 c f p selected reads part receipt in
    let it = chain.2 receipt.moment f (lent r c p) left.0 in
    (it.0, it.1, kept_then new.now chain.0 old.now (dated_rows chain.0 new.now it.2).1 left.1))
    (steps_then first next)

-- ---- a parent takes home

-- a source that was read once is read again
pub brought_then : {E F : Type 0} (s : Selection) (source then_source last_source : State) {old mid new : State}
    {x : Unit {0}} {q : Result (Unit {0}) F}
    → Stays source then_source → (HasCleanDisk then_source → IsTrue then_source.is_open)
    → Stays then_source last_source
    → Steps {E = E} (λ _. FromClean then_source (CarriesOver s source.now)) old mid (Ok x)
    → Steps (λ _. FromClean last_source (BringsHome then_source.now)) mid new q
    → Steps (λ _. FromClean last_source (BringsBoth s source.now)) old new q
brought_then s source then_source last_source {old} {mid} {new} stays opened again first next =
    steps_weaker (λ _. FromClean last_source (BringsBoth s source.now))
    (λ _ chain clean c f child p selected read part reads come apart.
    let before : HasCleanDisk then_source = omega (arith, again.survives.clean, clean) in
    let same : then_source.now ≡ source.now = (stays.holds (opened before)).now_is in
    let came = chain.1 before c f child p selected read part reads come in
    let it = chain.2 clean f child (with_cut c p) (subst (Reads f child) (sym same) read) came.0 apart in
    (it.0, kept_then old.now chain.0 new.now came.1 it.1))
    (steps_then first next)

-- with the receipt of the merge
abbrev pub BringsAndEnters : Receipt → Selection → Database → Database → Database → Type 0
BringsAndEnters r s source old new = (c : Cut) (f : Frame) (child p : Package) → IsSelectionOf c s
    → Reads f child source → Reads f p old → MayReturn r c child p → Reads f (returned r c child p) new
    × KeepsNumbers old new

pub entered_then : {E F : Type 0} (r : Receipt) (s : Selection) (source : State) (db : Database) {old mid new : State}
    {x : Unit {0}} {q : Result (Unit {0}) F} → Steps {E = E} (λ _. FromClean source (BringsBoth s db)) old mid (Ok x)
    → Steps (λ _. EntersReceipt r) mid new q
    → Steps (λ _. FromClean source (BringsAndEnters r s db)) old new q
entered_then r s source db {old} {mid} {new} first next =
    steps_weaker (λ _. FromClean source (BringsAndEnters r s db))
    (λ _ chain clean c f child p selected read reads may.
    let came = chain.1 clean c f child p selected read may.part reads may.come may.apart in
    let it = chain.2 f (with_receipts_of child (with_cut c p)) came.0 may.receipt in
    (it.0, kept_then old.now chain.0 new.now came.1 it.1))
    (steps_then first next)

pub home_then : {E F : Type 0} (r : Receipt) (s : Selection) (source : State) (db : Database) {old mid new : State}
    {x : Unit {0}} {q : Result (Unit {0}) F} → Steps {E = E} (λ _. FromClean source (BringsAndEnters r s db)) old mid
    (Ok x) → Steps (λ _. Dates r.at) mid new q
    → Steps (λ _. FromClean source (TakesHome r s db)) old new q
home_then r s source db {old} {mid} {new} first next =
    steps_weaker (λ _. FromClean source (TakesHome r s db))
    (λ _ chain clean c f child p selected read reads may.
    let came = chain.1 clean c f child p selected read reads may in
    let it = chain.2 may.receipt.moment f (returned r c child p) came.0 in
    (it.0, it.1, kept_then old.now chain.0 new.now came.1 (dated_rows chain.0 new.now it.2).0))
    (steps_then first next)

-- ---- where a transaction failed

-- an error of the commit is none of before it
pub committing : {X : Type 0} (r : Result X TurnFault) (made fault : Fault)
    → IsErrAnd r (λ turn. turn ≡ Committing made) → r ≡ Err (Before fault) → ⊥
committing (Ok x) made fault told is = absurd (let t = told in cc)
committing (Err turn) made fault told is = let t = told in cc

-- an error that is handed on is the one that came
pub same_error : {X : Type 0} (r : Result X TurnFault) (came : TurnFault) (fault : Fault)
    → IsErrAnd r (λ turn. turn ≡ came) → r ≡ Err (Before fault) → came ≡ Before fault
same_error (Ok x) came fault told is = absurd (let t = told in cc)
same_error (Err turn) came fault told is = let t = told in cc
