-- What is made of a world by a loan of what covers a box, what is printed, and how the program ends. Profile.
use Rattle.std.specs.Prelude.{◌≡◌, ◌⊎◌, ℕ, true, false, List, [], Option, Some, None}
use Rattle.std.specs.Borrow.{Bor}
use Rattle.sqlite.specs.Held.{Held}
use Rattle.sqlite.specs.Store.{Ghosts}
use Rattle.package_tables.specs.declared.fault.Fault.{Fault}
use Rattle.sheet_types.specs.World.{World}
use Rattle.sheet_types.specs.declared.frame.Rect.{Rect}
use Rattle.world.specs.Worlds.{Seen, StandsFor, held}
use Rattle.command_boxes.specs.Covering.{IsLeastCover, can_cover}
use Rattle.command_folder.specs.declared.endings.Ending.{Ending}
use Rattle.command_folder.specs.declared.endings.Ending.TheVariants.{NoRequest}
use Rattle.command_names.specs.declared.hints.Hint.{Hint}
use Rattle.command_names.specs.declared.hints.Whose.TheVariants.{Package}
use Rattle.command_replies.specs.Receipts.{area_text}
use Rattle.command_requests.specs.declared.orders.Order.{Order}
use Rattle.command_searches.specs.Hints.{IsHintOf}
use Rattle.command_verbs.specs.Faults.{verb_line}
use Rattle.command_verbs.specs.declared.verbs.Verb.TheVariants.{Lend}
use Rattle.command_verbs.specs.declared.verbs.VerbFault.TheVariants.{BadArea}
use Rattle.command_ordering.specs.Orders.{Orders, PrintsLine}
use Rattle.command_ordering.specs.declared.orders.Purpose.{Purpose}
use Rattle.command_ordering.specs.Folders.{OpensHinting}
use Rattle.command_ordering.specs.Telling.{stopped}
use Rattle.command_ordering.specs.declared.boxes.BoxedLoan.{BoxedLoan}

-- the loan of an area, under the identity and at the moment that are asked for
abbrev pub order_of : BoxedLoan → Bor (List ℕ) → Order
order_of b area = record { id = b.id; at = b.at; verb = Lend b.from area b.mode b.loan }

-- what comes nearest to the word for the package that lends, where there is one, or nothing
abbrev pub IsGiverHint : World → Option (Bor (List ℕ)) → Option Hint → Type 0
IsGiverHint w None hint = hint ≡ None
IsGiverHint w (Some word) hint = (hint ≡ None) ⊎ IsHintOf Package w word hint

module _ {S : Type 0} (g : Ghosts S) (b : BoxedLoan) (purpose : Purpose) where
  -- The least rectangle of the frame that covers the box was asked for, by its zoom, columns and rows.
  pub record LendsArea {W : Type 0} (old new : Seen S) (writer writer' : W) (before after : Option (List ℕ))
      (ending : Ending) (hint : Option Hint) : Type 0 where
    pub rect : Rect
    pub covered : can_cover old.frame b.zoom b.ground ≡ true
    pub least : IsLeastCover old.frame b.zoom b.ground rect
    pub area : Bor (List ℕ)
    pub says : area.now ≡ area_text rect
    pub ordered : Orders g writer writer' before after (Some []) (order_of b area) purpose old new ending
    pub hinted : (w : World) → StandsFor g new w → IsGiverHint w b.from hint

  -- The box cannot be covered, and that was written.
  pub record HasNoCover {W : Type 0} (old new : Seen S) (writer writer' : W) (before after : Option (List ℕ))
      (ending : Ending) (hint : Option Hint) : Type 0 where
    pub none : can_cover old.frame b.zoom b.ground ≡ false
    pub same : new ≡ old
    pub told : PrintsLine writer writer' before after (verb_line BadArea) NoRequest ending
    pub unhinted : hint ≡ None

  -- Memory or a store gave out before, and nothing was done or written.
  abbrev pub GaveOut : {W : Type 0} → Seen S → Seen S → W → W → Ending → Option Hint → Type 0
  GaveOut old new writer writer' ending hint =
      (fault : Fault) × (ending ≡ stopped fault) × (new ≡ old) × (writer' ≡ writer) × (hint ≡ None)

  abbrev pub LendsBox : {W : Type 0} → Seen S → Seen S → W → W → Option (List ℕ) → Option (List ℕ)
      → Ending → Option Hint → Type 0
  LendsBox old new writer writer' before after ending hint =
      LendsArea old new writer writer' before after ending hint
      ⊎ (HasNoCover old new writer writer' before after ending hint ⊎ GaveOut old new writer writer' ending hint)

  -- The same of a world that ended with it, and of which these stores are left.
  abbrev pub EndsBoxed : {W : Type 0} → Seen S → List (Held S) → W → W → Option (List ℕ)
      → Option (List ℕ)
      → Ending → Option Hint → Type 0
  EndsBoxed old stores writer writer' before after ending hint =
      (new : Seen S) × (stores ≡ held g new) × LendsBox old new writer writer' before after ending hint

  abbrev pub LendsBoxed : {W : Type 0} → W → W → Option (List ℕ) → Option (List ℕ) → Ending
      → Option Hint → Type 0
  LendsBoxed writer writer' before after ending hint =
      OpensHinting g (λ old new. LendsBox old new writer writer' before after ending hint) writer writer' ending hint
