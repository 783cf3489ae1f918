-- What a request makes of a world, by what is kept of it: the outcome, what each package holds, the limits and the
-- tickets. Profile.
use Rattle.std.specs.Prelude.{◌≡◌, ◌≤◌, ℕ, ◌+◌, ◌-◌, ◌*◌, Bool, true, false, ◌||◌}
use Rattle.std.specs.Prelude.{nat_lt, ⊤, List, map, length}
use Rattle.std.specs.Prelude.{if◌then◌else◌, Some, None, Ok, Err, bytes_eq}
use Rattle.std.specs.Bool.{then_some}
use Rattle.std.specs.List.{list_any}
use Rattle.std.specs.Option.{option_or}
use Rattle.sheet_types.specs.Answers.{sums_held}
use Rattle.sheet_types.specs.Custody.{kept, ticket}
use Rattle.sheet_types.specs.Lines.{IsUuid, HasTypes}
use Rattle.sheet_types.specs.Matrix.{first_row}
use Rattle.sheet_types.specs.Refuse.{greatest_items, greatest_links, greatest_packages, greatest_receipts, refusal}
use Rattle.sheet_types.specs.Refuse.{identity_used, too_many}
use Rattle.sheet_types.specs.Register.{IsRegister}
use Rattle.sheet_types.specs.Step.{accepted, added_item, outcome, receipt_of}
use Rattle.sheet_types.specs.Texts.{line, is_moment}
use Rattle.sheet_types.specs.World.{World, is_live, holdings, item_moved, receipts_of, changed}
use Rattle.sheet_types.specs.declared.command.Command.{Command}
use Rattle.sheet_types.specs.declared.command.Command.TheVariants.{Add, Delete, Link, Unlink, Split, Merge}
use Rattle.sheet_types.specs.declared.command.Request.{Request}
use Rattle.sheet_types.specs.declared.receipt.Moved.{Moved}
use Rattle.sheet_types.specs.declared.receipt.Receipt.{Receipt}
use Rattle.sheet_types.specs.declared.receipt.Sums.{Sums}
use Rattle.sheet_types.specs.declared.refusal.Refusal.{Refusal}
use Rattle.sheet_types.specs.declared.refusal.Refusal.TheVariants.{IdReused, UnknownPackage, IdentityUsed, TooMany}
use Rattle.world_members.specs.Carrying.{Fits, after_command}
use Rattle.world_members.specs.Laws.{ChangesOnePackage, package_of}
use Rattle.world_members.specs.Reasons.{text_reasons, package_reasons}

-- ---- what an addition moves

-- This is what a receipt says of the item that an addition brings in. Of another command nothing is asked.
abbrev pub IsAddedBy : Command → Moved → Type 0
IsAddedBy (Add p identity content) thing = thing ≡ item_moved (added_item identity content)
IsAddedBy (Delete p identity) thing = ⊤
IsAddedBy (Link p mapping base other) thing = ⊤
IsAddedBy (Unlink p mapping base other) thing = ⊤
IsAddedBy (Split p child mode rect) thing = ⊤
IsAddedBy (Merge child into number) thing = ⊤

-- ---- what may be carried out

-- Nothing that is kept speaks against a request: its package is live, it did not come before, it says a moment, its
-- identity is not used, and its package gives no reason. Its other texts and the limits are not looked at.
pub record NothingAgainst (w : World) (q : Request) : Type 0 where
  pub live : is_live w (package_of q.command) ≡ true
  pub new : kept w q.id ≡ None
  pub moment : is_moment q.at ≡ true
  pub unused : identity_used w q.command ≡ false
  pub no_reason : first_row (package_reasons w.frame (holdings w (package_of q.command)) q.command) ≡ None

-- The receipt of such a request is new to its package, which is as the command's change needs it. The identity of the
-- request and the values of its command are those of their types.
abbrev pub FitsWhereAccepted : Type 0
FitsWhereAccepted = (w : World) (q : Request) → IsRegister w → IsUuid q.id → HasTypes q.command
    → ChangesOnePackage q.command → NothingAgainst w q
    → Fits (receipt_of w q) q.command (holdings w (package_of q.command))

-- A request to change one package that is new and not refused is such a request.
abbrev pub NothingAgainstAccepted : Type 0
NothingAgainstAccepted = (w next : World) (q : Request) → ChangesOnePackage q.command → kept w q.id ≡ None
    → refusal w next q ≡ None → NothingAgainst w q

-- ---- why it is not

-- A new request to change one package that package is live is refused for its text, else for a used identity, else by
-- its package, else for what would be too many.
abbrev pub RefusedInTurn : Type 0
RefusedInTurn = (w next : World) (q : Request) → ChangesOnePackage q.command → kept w q.id ≡ None
    → is_live w (package_of q.command) ≡ true →
    refusal w next q ≡ option_or (first_row (text_reasons q))
    (option_or (then_some (identity_used w q.command) IdentityUsed)
    (option_or (first_row (package_reasons w.frame (holdings w (package_of q.command)) q.command))
    (then_some (too_many next) TooMany)))

-- One whose package is not live is refused for that.
abbrev pub RefusedAsUnknown : Type 0
RefusedAsUnknown = (w next : World) (q : Request) → ChangesOnePackage q.command → kept w q.id ≡ None
    → is_live w (package_of q.command) ≡ false → refusal w next q ≡ Some UnknownPackage

-- ---- what a package holds

-- how much a receipt moved
abbrev pub sums_moved : Receipt → Sums
sums_moved r = record { tiles = r.tiles; media = r.media; rows = r.rows; links = r.links; bytes = r.bytes }

-- so much more, and so much less
abbrev pub sums_more : Sums → Sums → Sums
sums_more some held = record {
  tiles = held.tiles + some.tiles;
  media = held.media + some.media;
  rows = held.rows + some.rows;
  links = held.links + some.links;
  bytes = held.bytes + some.bytes;
}

abbrev pub sums_less : Sums → Sums → Sums
sums_less some held = record {
  tiles = held.tiles - some.tiles;
  media = held.media - some.media;
  rows = held.rows - some.rows;
  links = held.links - some.links;
  bytes = held.bytes - some.bytes;
}

-- so much is there
pub record IsWithin (some held : Sums) : Type 0 where
  pub tiles : some.tiles ≤ held.tiles
  pub media : some.media ≤ held.media
  pub rows : some.rows ≤ held.rows
  pub links : some.links ≤ held.links
  pub bytes : some.bytes ≤ held.bytes

-- what a package holds after a command that moved so much in or out of it. A split and a merge change more than one
-- package, and are not meant
abbrev pub sums_after : Command → Sums → Sums → Sums
sums_after (Add uuid identity content) some held = sums_more some held
sums_after (Delete uuid identity) some held = sums_less some held
sums_after (Link uuid mapping base other) some held = sums_more some held
sums_after (Unlink uuid mapping base other) some held = sums_less some held
sums_after (Split uuid child mode rect) some held = held
sums_after (Merge child into ticket) some held = held

-- what goes out was there
abbrev pub HasWhatGoes : Command → Sums → Sums → Type 0
HasWhatGoes (Add uuid identity content) some held = Unit {0}
HasWhatGoes (Delete uuid identity) some held = IsWithin some held
HasWhatGoes (Link uuid mapping base other) some held = Unit {0}
HasWhatGoes (Unlink uuid mapping base other) some held = IsWithin some held
HasWhatGoes (Split uuid child mode rect) some held = Unit {0}
HasWhatGoes (Merge child into ticket) some held = Unit {0}

-- The package of a command that fits holds what it held, with what the receipt moved in or without what it moved out,
-- which was there.
abbrev pub SumsAfter : Type 0
SumsAfter = (w : World) (q : Request) → IsRegister w → is_live w (package_of q.command) ≡ true
    → Fits (receipt_of w q) q.command (holdings w (package_of q.command)) →
    HasWhatGoes q.command (sums_moved (receipt_of w q)) (sums_held (holdings w (package_of q.command)))
    × (sums_held (after_command (receipt_of w q) q.command (holdings w (package_of q.command)))
    ≡ sums_after q.command (sums_moved (receipt_of w q)) (sums_held (holdings w (package_of q.command))))

-- The bytes of a package are no more than so many items can have, so that within the limits their number is a small
-- one.
abbrev pub BytesWithin : Type 0
BytesWithin = (w : World) (p : List ℕ) → IsRegister w → is_live w p ≡ true
    → (sums_held (holdings w p)).bytes ≤ 1048576
    * ((sums_held (holdings w p)).tiles + (sums_held (holdings w p)).media + (sums_held (holdings w p)).rows)

-- ---- the limits

-- so much is past a limit of a package
abbrev pub is_past_limits : Sums → Bool
is_past_limits held = nat_lt greatest_items held.tiles || nat_lt greatest_items held.media
    || nat_lt greatest_items held.rows || nat_lt greatest_links held.links

-- what each package holds after a request
abbrev pub sums_next : World → Request → List Sums
sums_next w q = map (λ x. if bytes_eq x.uuid (package_of q.command) then sums_after q.command
    (sums_moved (receipt_of w q)) (sums_held x) else sums_held x) w.packages

-- Whether a request would leave too many is told by what each package holds, the number of packages and that of the
-- receipts.
abbrev pub TooManyBySums : Type 0
TooManyBySums = (w : World) (q : Request) → IsRegister w → is_live w (package_of q.command) ≡ true
    → Fits (receipt_of w q) q.command (holdings w (package_of q.command)) →
    too_many (accepted w q) ≡ (list_any is_past_limits (sums_next w q) || nat_lt greatest_packages (length w.packages)
    || nat_lt greatest_receipts (length (receipts_of w) + 1))

-- ---- the tickets

-- The ticket of the package that such a command names is the new number, and that of every other is as it was.
abbrev pub TicketAfter : Type 0
TicketAfter = (w : World) (q : Request) (id : List ℕ) → IsRegister w → ChangesOnePackage q.command
    → is_live w (package_of q.command) ≡ true →
    ticket (accepted w q) id ≡ (if bytes_eq id (package_of q.command) then length (receipts_of w) + 1 else ticket w
    id)

-- ---- the outcome

-- A request that comes again gets the receipt that is kept, and nothing is changed.
abbrev pub KeptOutcome : Type 0
KeptOutcome = (w : World) (q : Request) (r : Receipt) → kept w q.id ≡ Some r
    → bytes_eq r.line (line q.command) ≡ true
    → outcome w q ≡ (Ok r, w)

-- One whose identity is kept for another line is told so.
abbrev pub ReusedOutcome : Type 0
ReusedOutcome = (w : World) (q : Request) (r : Receipt) → kept w q.id ≡ Some r
    → bytes_eq r.line (line q.command) ≡ false → outcome w q ≡ (Err IdReused, w)

-- One that is refused is told why.
abbrev pub RefusedOutcome : Type 0
RefusedOutcome = (w : World) (q : Request) (why : Refusal) → kept w q.id ≡ None
    → refusal w (accepted w q) q ≡ Some why → outcome w q ≡ (Err why, w)

-- One to change one package that is not refused gets its receipt, and the one package that it names is changed, with
-- the receipt in it.
abbrev pub AcceptedOutcome : Type 0
AcceptedOutcome = (w : World) (q : Request) → ChangesOnePackage q.command → kept w q.id ≡ None
    → refusal w (accepted w q) q ≡ None →
    outcome w q ≡ (Ok (receipt_of w q), changed (after_command (receipt_of w q) q.command) (package_of q.command) w)
