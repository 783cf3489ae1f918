-- What is made of a world by the words of a verb, what is printed, and how the program ends. Profile.
use Rattle.std.specs.Prelude.{◌≡◌, ◌⊎◌, ℕ, List, Option, Result, Ok, Err, IfSome}
use Rattle.sqlite.specs.Store.{Ghosts}
use Rattle.sheet_types.specs.World.{World}
use Rattle.sheet_types.specs.declared.command.Command.{Command}
use Rattle.sheet_types.specs.declared.command.Request.{Request}
use Rattle.sheet_types.specs.declared.receipt.Receipt.{Receipt}
use Rattle.sheet_types.specs.declared.refusal.Refusal.{Refusal}
use Rattle.world_members.specs.Members.{AllClean}
use Rattle.world.specs.Worlds.{IsStep, LeavesNoTrace, Seen, StandsFor, StandsStill}
use Rattle.command_verbs.specs.Faults.{verb_line}
use Rattle.command_verbs.specs.declared.verbs.VerbFault.{VerbFault}
use Rattle.command_verbs.specs.declared.verbs.VerbFault.TheVariants.{OutOfMemory}
use Rattle.command_requests.specs.Listing.{IsUntouched}
use Rattle.command_requests.specs.Orders.{Asks, IsWhyUnasked}
use Rattle.command_requests.specs.declared.orders.Order.{Order}
use Rattle.command_requests.specs.declared.orders.OrderFault.{OrderFault}
use Rattle.command_requests.specs.declared.orders.OrderFault.TheVariants.{Unsaid, Failed}
use Rattle.command_replies.specs.Receipts.{reply_text}
use Rattle.command_replies.specs.Requests.{request_text}
use Rattle.command_words.specs.Failures.{of_fault}
use Rattle.command_words.specs.declared.statuses.Outcome.TheVariants.{Stopped}
use Rattle.command_folder.specs.Endings.{done, no_memory}
use Rattle.command_folder.specs.Printing.{Prints, with_end}
use Rattle.command_folder.specs.declared.endings.Ending.{Ending}
use Rattle.command_folder.specs.declared.endings.Ending.TheVariants.{NoRequest, Usual}
use Rattle.command_folder.specs.Bodies.{IsUnread}
use Rattle.command_folder.specs.Replies.{PrintsReply, ask_again}
use Rattle.command_ordering.specs.declared.orders.Purpose.{Purpose}
use Rattle.command_ordering.specs.declared.orders.Purpose.TheVariants.{Show, CarryOut}

-- ---- what is printed

-- What came of a command that got a receipt. Memory may be wanting for the text: the receipt stands, and that is said.
abbrev pub PrintsDeed : Command → Receipt → Option (List ℕ) → Option (List ℕ) → Ending → Type 0
PrintsDeed command receipt before after ending =
    Prints (with_end (reply_text command receipt)) done before after ending
    ⊎ Prints (with_end ask_again) no_memory before after ending

-- the same, or the refusal as it is printed for a request that comes as JSON
abbrev pub PrintsOutcome : Command → Result Receipt Refusal → Option (List ℕ) → Option (List ℕ) → Ending
    → Type 0
PrintsOutcome command (Ok receipt) before after ending = PrintsDeed command receipt before after ending
PrintsOutcome command (Err why) before after ending = PrintsReply (Err why) before after ending

module _ {W : Type 0} (writer writer' : W) (before after : Option (List ℕ)) where
  -- a line is printed; or memory is wanting for it, and nothing is written
  abbrev pub PrintsLine : List ℕ → Ending → Ending → Type 0
  PrintsLine line due ending =
      Prints line due before after ending ⊎ ((ending ≡ no_memory) × (writer' ≡ writer))

  -- why a verb says no command
  abbrev pub TellsUnsaid : VerbFault → Ending → Type 0
  TellsUnsaid OutOfMemory ending = (ending ≡ no_memory) × (writer' ≡ writer)
  TellsUnsaid fault ending = PrintsLine (verb_line fault) NoRequest ending

  -- why there is no request
  abbrev pub TellsUnasked : OrderFault → Ending → Type 0
  TellsUnasked (Unsaid fault) ending = TellsUnsaid fault ending
  TellsUnasked (Failed fault) ending =
      (ending ≡ Usual (Stopped (of_fault fault))) × (writer' ≡ writer)

-- ---- what is made of a world

module _ {S : Type 0} (g : Ghosts S) where
  -- A request that was carried out, and what came of it in plain words.
  pub record IsCarriedOut (q : Request) (old new : Seen S) (before after : Option (List ℕ))
      (ending : Ending) : Type 0 where
    pub reply : Result Receipt Refusal
    pub step : IsStep g q old reply new
    pub still : StandsStill g old reply new
    pub unharmed : LeavesNoTrace g old reply new
    pub printed : PrintsOutcome q.command reply before after ending

  module _ {W : Type 0} (writer writer' : W) (before after : Option (List ℕ)) where
    -- a request is shown, and the world stays; or it is carried out
    abbrev pub Answers : Purpose → Request → Seen S → Seen S → Ending → Type 0
    Answers Show q old new ending =
        (new ≡ old) × PrintsLine writer writer' before after (with_end (request_text q)) done ending
    Answers CarryOut q old new ending = IsCarriedOut q old new before after ending

    -- The words say no request, and the world is only read; or they say one, of each world that
    -- the value stands for, and it is shown or carried out.
    abbrev pub OrdersOver : Order → Purpose → List ℕ → Seen S → Seen S → Ending → Type 0
    OrdersOver o purpose bytes old new ending =
        ((why : OrderFault) × IsUntouched g old new
        × (AllClean g new.members → (w : World) → StandsFor g old w → IsWhyUnasked w o bytes why)
        × TellsUnasked writer writer' before after why ending)
        ⊎ ((q : Request) × (read : Seen S) × IsUntouched g old read
        × (AllClean g read.members → (w : World) → StandsFor g old w → Asks w o bytes q)
        × Answers purpose q read new ending)

    -- The same over all bytes of a reader; or they could not be read, and nothing was done or written.
    abbrev pub Orders : Option (List ℕ) → Order → Purpose → Seen S → Seen S → Ending → Type 0
    Orders text o purpose old new ending =
        (IsUnread ending × (new ≡ old) × (writer' ≡ writer))
        ⊎ ((bytes : List ℕ) × IfSome text (λ t. bytes ≡ t) × OrdersOver o purpose bytes old new ending)
