-- What a command that changes one package makes of it, with its receipt, and what has to hold of the package before.
-- Profile.
use Rattle.sqlite.specs.Effect.{Database}
use Rattle.sheet_types.specs.World.{Package, with_receipt}
use Rattle.sheet_types.specs.Step.{relation, added_item}
use Rattle.sheet_types.specs.declared.command.Command.{Command}
use Rattle.sheet_types.specs.declared.command.Command.TheVariants.{Add, Delete, Link, Unlink, Split, Merge}
use Rattle.sheet_types.specs.declared.frame.Frame.{Frame}
use Rattle.sheet_types.specs.declared.receipt.Receipt.{Receipt}
use Rattle.identity_register.specs.Calls.{HasLastChange}
use Rattle.identity_register.specs.LocalNumbers.{KeepsNumbers}
use Rattle.identity_register.specs.Reads.{Reads}
use Rattle.identity_register.specs.Changes.{IsNewItem, item_added, IsLooseItem, item_deleted, IsNewLink, link_added}
use Rattle.identity_register.specs.Changes.{IsLink, link_removed}
use Rattle.custody.specs.Receipts.{IsNewReceipt}

-- The package is as the command's change needs it. A split and a merge change more than one package, so nothing is
-- promised of them.
abbrev pub Meets : Command → Package → Type 0
Meets (Add uuid identity content) p = IsNewItem identity p
Meets (Delete uuid identity) p = IsLooseItem identity p
Meets (Link uuid mapping base other) p = IsNewLink (relation mapping base other) p
Meets (Unlink uuid mapping base other) p = IsLink (relation mapping base other) p
Meets (Split uuid child mode rect) p = ⊥
Meets (Merge child into ticket) p = ⊥

-- the package after the command's change, without the receipt
abbrev pub changed_by : Command → Package → Package
changed_by (Add uuid identity content) p = item_added (added_item identity content) p
changed_by (Delete uuid identity) p = item_deleted identity p
changed_by (Link uuid mapping base other) p = link_added (relation mapping base other) p
changed_by (Unlink uuid mapping base other) p = link_removed (relation mapping base other) p
changed_by (Split uuid child mode rect) p = p
changed_by (Merge child into ticket) p = p

-- Where a command adds an item or a link, what stood keeps its number. Where it takes one out, what stays keeps it.
abbrev pub KeepsNumbersIn : Command → Database → Database → Type 0
KeepsNumbersIn (Add uuid identity content) old new = KeepsNumbers old new
KeepsNumbersIn (Delete uuid identity) old new = KeepsNumbers new old
KeepsNumbersIn (Link uuid mapping base other) old new = KeepsNumbers old new
KeepsNumbersIn (Unlink uuid mapping base other) old new = KeepsNumbers new old
KeepsNumbersIn (Split uuid child mode rect) old new = Unit {0}
KeepsNumbersIn (Merge child into ticket) old new = Unit {0}

-- A store that reads as a package which is as the change needs it reads as the changed one afterwards, and the numbers
-- are kept.
abbrev pub MakesChange : Command → Database → Database → Type 0
MakesChange command old new = (f : Frame) (p : Package) → Reads f p old → Meets command p
    → Reads f (changed_by command p) new × KeepsNumbersIn command old new

-- and the receipt is new to it
pub record Fits (r : Receipt) (command : Command) (p : Package) : Type 0 where
  pub meets : Meets command p
  pub receipt : IsNewReceipt r p

-- the package after the command, with the receipt
abbrev pub after_command : Receipt → Command → Package → Package
after_command r command p = with_receipt r (changed_by command p)

-- and of a store that read as the package, the receipt's moment is that of the last change
abbrev pub SaysMoment : Receipt → Command → Database → Database → Type 0
SaysMoment r command old new = (f : Frame) (p : Package) → Reads f p old → Fits r command p
    → HasLastChange f r.at new

-- and the numbers are kept
abbrev pub KeepsNumbersBy : Receipt → Command → Database → Database → Type 0
KeepsNumbersBy r command old new = (f : Frame) (p : Package) → Reads f p old → Fits r command p
    → KeepsNumbersIn command old new
