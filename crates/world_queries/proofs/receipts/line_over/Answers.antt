-- The line of an addition says of the item what a receipt says of it.
use Rattle.std.proofs.Common.{◌≡◌, sym, subst, refl, ℕ, List, Some, Result, Ok, Err, IfOk, string_bytes}
use Rattle.sheet_types.specs.Step.{added_item}
use Rattle.sheet_types.specs.Texts.{Adds, entry_line, line}
use Rattle.sheet_types.specs.World.{item_moved}
use Rattle.sheet_types.specs.declared.command.Command.{Command}
use Rattle.sheet_types.specs.declared.command.Command.TheVariants.{Add}
use Rattle.sheet_types.specs.declared.command.Content.{Content}
use Rattle.sheet_types.specs.declared.receipt.Moved.{Moved}
use Rattle.world_members.specs.Steps.{IsAddedBy}
use Rattle.world_queries.proofs.receipts.line_over.Goals as goal

-- what is told of the item is its line
told : (command : Command) (thing : Moved) (p identity : List ℕ) (content : Content) (text : List ℕ)
    → command ≡ Add p identity content
    → ((digest : List ℕ) → thing.fingerprint ≡ Some digest → text
    ≡ entry_line (Adds p thing.base thing.kind thing.size digest)) → IsAddedBy command thing
    → text ≡ line command
told command thing p identity content text is says adds =
    let same : thing ≡ item_moved (added_item identity content) = subst (λ x. IsAddedBy x thing) is adds in
    rw is (subst (λ m. ((digest : List ℕ) → m.fingerprint ≡ Some digest
    → text ≡ entry_line (Adds p m.base m.kind m.size digest)) → text ≡ line (Add p identity content)) (sym same)
    (λ says. says _ refl) says)

-- of each text that may come
all_told : {X E : Type 0} (bytes : X → List ℕ) (command : Command) (thing : Moved) (p identity : List ℕ)
    (content : Content) (r : Result X E) → command ≡ Add p identity content
    → IfOk r (λ text. (digest : List ℕ) → thing.fingerprint ≡ Some digest
    → bytes text ≡ entry_line (Adds p thing.base thing.kind thing.size digest))
    → IfOk r (λ text. IsAddedBy command thing → bytes text ≡ line command)
all_told bytes command thing p identity content (Ok text) is says =
    told command thing p identity content (bytes text) is says
all_told bytes command thing p identity content (Err e) is says = tt

pub returns-in-Add : goal.returns-in-Add
returns-in-Add c = all_told string_bytes c.args.command.now c.args.thing.now c.in-Add.«package» c.in-Add.identity
    c.in-Add.content c.add_line.result c.in-Add.is c.add_line.ensures
