-- A command's change and the entry of its receipt, as one change of the package.
use Rattle.std.proofs.Common.{◌≡◌, Result, Ok, refl, sym, subst}
use Rattle.sqlite.specs.Effect.{Database}
use Rattle.sqlite.specs.State.{State}
use Rattle.store_sql.specs.Transactions.{Steps}
use Rattle.store_sql.proofs.Transactions.{steps_then, steps_weaker}
use Rattle.sheet_types.specs.World.{Package}
use Rattle.sheet_types.specs.declared.command.Command.{Command}
use Rattle.sheet_types.specs.declared.command.Command.TheVariants.{Add, Delete, Link, Unlink, Split, Merge}
use Rattle.sheet_types.specs.declared.frame.Frame.{Frame}
use Rattle.sheet_types.specs.declared.receipt.Receipt.{Receipt}
use Rattle.identity_register.specs.Calls.{Becomes, Dates}
use Rattle.identity_register.specs.LocalNumbers.{KeepsNumbers}
use Rattle.identity_register.specs.Reads.{Reads}
use Rattle.identity_register.proofs.KeptNumbers.{kept_then}
use Rattle.custody.specs.Receipts.{IsNewReceipt, EntersReceipt}
use Rattle.custody.proofs.KeptRows.{dated_rows}
use Rattle.world_members.specs.Carrying.{changed_by, Fits, after_command, SaysMoment}
use Rattle.world_members.specs.Carrying.{KeepsNumbersIn, MakesChange, KeepsNumbersBy}
use Rattle.world_members.specs.Laws.{CarriedOutInOne}

-- ---- the model

pub carried_out_in_one : CarriedOutInOne
carried_out_in_one w r (Add uuid identity content) one = refl
carried_out_in_one w r (Delete uuid identity) one = refl
carried_out_in_one w r (Link uuid mapping base other) one = refl
carried_out_in_one w r (Unlink uuid mapping base other) one = refl
carried_out_in_one w r (Split uuid child mode rect) one = absurd one
carried_out_in_one w r (Merge child into ticket) one = absurd one

-- ---- the change

-- the change of a command that is known by its form
pub change_steps : {E : Type 0} (command form : Command) {old new : State} {r : Result (Unit {0}) E}
    → command ≡ form
    → Steps (λ _. MakesChange form) old new r
    → Steps (λ _. MakesChange command) old new r
change_steps command form {old} {new} {r} is steps = subst (λ c. Steps (λ _. MakesChange c) old new r) (sym is) steps

-- a change leaves the head of its package and the receipts
pub same_rest : (command : Command) (p : Package) → changed_by command p
    ≡ record p { items = (changed_by command p).items; links = (changed_by command p).links }
same_rest (Add uuid identity content) p = refl
same_rest (Delete uuid identity) p = refl
same_rest (Link uuid mapping base other) p = refl
same_rest (Unlink uuid mapping base other) p = refl
same_rest (Split uuid child mode rect) p = refl
same_rest (Merge child into ticket) p = refl

-- so a receipt that was new still is
still_new : (r : Receipt) (command : Command) (p : Package) → IsNewReceipt r p
    → IsNewReceipt r (changed_by command p)
still_new r command p new = subst (IsNewReceipt r) (sym (same_rest command p))
    (record { number = new.number; request = new.request; fit = new.fit; moment = new.moment })

-- ---- the numbers

-- where the rows of items, identities and links are the same afterwards, the numbers are still kept
still_kept : (command : Command) (old mid new : Database) → KeepsNumbersIn command old mid → KeepsNumbers mid new
    → KeepsNumbers new mid → KeepsNumbersIn command old new
still_kept (Add uuid identity content) old mid new kept forth back = kept_then old mid new kept forth
still_kept (Delete uuid identity) old mid new kept forth back = kept_then new mid old back kept
still_kept (Link uuid mapping base other) old mid new kept forth back = kept_then old mid new kept forth
still_kept (Unlink uuid mapping base other) old mid new kept forth back = kept_then new mid old back kept
still_kept (Split uuid child mode rect) old mid new kept forth back = tt
still_kept (Merge child into ticket) old mid new kept forth back = tt

-- ---- the receipt

-- the change and its receipt
abbrev pub ChangesAndEnters : Receipt → Command → Database → Database → Type 0
ChangesAndEnters r command old new = (f : Frame) (p : Package) → Reads f p old → Fits r command p
    → Reads f (after_command r command p) new × KeepsNumbersIn command old new

-- after the change the receipt is entered
pub receipt_then : {E F : Type 0} (r : Receipt) (command : Command) {old mid new : State} {x : Unit {0}}
    {q : Result (Unit {0}) F} → Steps {E = E} (λ _. MakesChange command) old mid (Ok x)
    → Steps (λ _. EntersReceipt r) mid new q
    → Steps (λ _. ChangesAndEnters r command) old new q
receipt_then r command {old} {mid} {new} first next =
    steps_weaker (λ _. ChangesAndEnters r command)
    (λ _ chain f p reads fits.
    let made = chain.1 f p reads fits.meets in
    let came = chain.2 f (changed_by command p) made.0 (still_new r command p fits.receipt) in
    (came.0, still_kept command old.now chain.0 new.now made.1 came.1 came.2))
    (steps_then first next)

-- ---- the moment

-- and then its moment comes, which the contents say
pub moment_said : {E F : Type 0} (r : Receipt) (command : Command) {old mid new : State} {x : Unit {0}}
    {q : Result (Unit {0}) F} → Steps {E = E} (λ _. ChangesAndEnters r command) old mid (Ok x)
    → Steps (λ _. Dates r.at) mid new q
    → Steps (λ _. SaysMoment r command) old new q
moment_said r command first next =
    steps_weaker (λ _. SaysMoment r command)
    (λ _ chain f p reads fits. (chain.2 fits.receipt.moment f (after_command r command p)
    (chain.1 f p reads fits).0).1)
    (steps_then first next)

-- which no package shows
pub moment_then : {E F : Type 0} (r : Receipt) (command : Command) {old mid new : State} {x : Unit {0}}
    {q : Result (Unit {0}) F} → Steps {E = E} (λ _. ChangesAndEnters r command) old mid (Ok x)
    → Steps (λ _. Dates r.at) mid new q
    → Steps (λ _. Becomes (Fits r command) (after_command r command)) old new q
moment_then r command first next =
    steps_weaker (λ _. Becomes (Fits r command) (after_command r command))
    (λ _ chain f p reads fits. (chain.2 fits.receipt.moment f (after_command r command p)
    (chain.1 f p reads fits).0).0)
    (steps_then first next)

-- and which changes no number
pub moment_kept : {E F : Type 0} (r : Receipt) (command : Command) {old mid new : State} {x : Unit {0}}
    {q : Result (Unit {0}) F} → Steps {E = E} (λ _. ChangesAndEnters r command) old mid (Ok x)
    → Steps (λ _. Dates r.at) mid new q
    → Steps (λ _. KeepsNumbersBy r command) old new q
moment_kept r command {old} {mid} {new} first next =
    steps_weaker (λ _. KeepsNumbersBy r command)
    (λ _ chain f p reads fits.
    let made = chain.1 f p reads fits in
    let dated = chain.2 fits.receipt.moment f (after_command r command p) made.0 in
    let same = dated_rows chain.0 new.now dated.2 in
    still_kept command old.now chain.0 new.now made.1 same.0 same.1)
    (steps_then first next)
