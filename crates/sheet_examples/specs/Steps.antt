-- A step of the register, and a run of steps.
use Rattle.std.specs.Prelude.{◌≡◌, [], ◌∷◌, Result, Some, Ok, Err}
use Rattle.sheet_types.specs.World.{World}
use Rattle.sheet_types.specs.Step.{outcome, kept_reply, Step, Run}
use Rattle.sheet_types.specs.declared.command.Command.TheVariants.{Add, Split}
use Rattle.sheet_types.specs.declared.command.Mode.TheVariants.{Strict}
use Rattle.sheet_types.specs.declared.command.Request.{Request}
use Rattle.sheet_types.specs.declared.receipt.Receipt.{Receipt}
use Rattle.sheet_types.specs.declared.refusal.Refusal.{Refusal}
use Rattle.sheet_types.specs.declared.refusal.Refusal.TheVariants.{NothingToLend, OutOfMemory, StoreFault}
use Rattle.sheet_examples.specs.Sheets.{ask, archive, second_crew, item, block}
use Rattle.sheet_examples.specs.Story.{gate, receipt_1, world_0, world_1}

-- whatever is refused, the world stays
abbrev pub RefusedChangesNothing : Type 0
RefusedChangesNothing = (w : World) (q : Request) (why : Refusal) (next : World) → Step w q (Err why) next
    → next ≡ w

-- whatever was kept is answered as it is kept, and the world stays
abbrev pub KeptChangesNothing : Type 0
KeptChangesNothing = (w : World) (q : Request) (r : Receipt) → kept_reply w q ≡ Some r → outcome w q ≡ (Ok r, w)

-- want of memory and of the store may come in place of any reply
abbrev pub FaultAnywhere : Type 0
FaultAnywhere = (w : World) (q : Request) → Step w q (Err OutOfMemory) w × Step w q (Err StoreFault) w

abbrev first_of_story : Request
first_of_story = ask 1 (Add archive (item 2) gate)

abbrev nothing_there : Request
nothing_there = ask 2 (Split archive second_crew Strict (block 2 0 0 0 0))

-- a run over a request that fails for want of memory, the same again, one that is refused, and the first once more
abbrev pub SmallRun : Type 0
SmallRun = Run world_0 (first_of_story ∷ first_of_story ∷ nothing_there ∷ first_of_story ∷ [])
    (Err OutOfMemory ∷ Ok receipt_1 ∷ Err NothingToLend ∷ Ok receipt_1 ∷ []) world_1

-- one reply for each request
abbrev pub OneReplyEach : Type 0
OneReplyEach = (w next : World) (q : Request) (reply : Result Receipt Refusal) → (Run w (q ∷ []) [] next → ⊥)
    × (Run w [] (reply ∷ []) next → ⊥)
