-- One request is carried out, and its reply told as a part of something: what is made of a world, what is printed, and
-- how it ends. Profile.
use Rattle.std.specs.Prelude.{◌≡◌, ◌⊎◌, ℕ, List, [], ◌∷◌, Option, Result, Ok, Err}
use Rattle.sqlite.specs.Store.{Ghosts}
use Rattle.package_tables.specs.declared.fault.Fault.TheVariants.{OutOfMemory, StoreFault}
use Rattle.sheet_types.specs.declared.command.Request.{Request}
use Rattle.sheet_types.specs.declared.receipt.Receipt.{Receipt}
use Rattle.sheet_types.specs.declared.refusal.Refusal.{Refusal}
use Rattle.sheet_types.specs.declared.refusal.Refusal.TheVariants as refusal
use Rattle.request_json.specs.Requests.{IsRequestText}
use Rattle.world.specs.Worlds.{IsStep, LeavesNoTrace, Seen, StandsStill}
use Rattle.manifest_csv.specs.Reports.{report_line}
use Rattle.command_folder.specs.Endings.{done, no_memory}
use Rattle.command_folder.specs.Printing.{Prints}
use Rattle.command_folder.specs.declared.endings.Ending.{Ending}
use Rattle.command_folder.specs.declared.endings.Ending.TheVariants.{RecordDeclined}
use Rattle.command_lines.specs.Drops.{outcomes_text}
use Rattle.command_ordering.specs.Orders.{PrintsLine}
use Rattle.commands.specs.Subcommands.{IsWhyUnasked}
use Rattle.command_ordering.specs.Telling.{replies_ending, stopped}
use Rattle.command_desk.specs.declared.carrying.Report.{Report}
use Rattle.command_desk.specs.declared.carrying.Report.TheVariants.{Row, Outcome}

-- After the row of this number an import goes on, and standard error is told of a refusal; or it stops by what gave
-- out.
abbrev pub row_ending : ℕ → Result Receipt Refusal → Ending
row_ending n (Ok receipt) = done
row_ending n (Err refusal.OutOfMemory) = stopped OutOfMemory
row_ending n (Err refusal.StoreFault) = stopped StoreFault
row_ending n (Err why) = RecordDeclined n why

module _ {W : Type 0} (writer writer' : W) (before after : Option (List ℕ)) where
  -- The row of an import's report; or what came of the request, as of one of several. For that memory may be wanting.
  abbrev pub TellsReply : Report → Request → Result Receipt Refusal → Ending → Type 0
  TellsReply (Row n) q reply ending = Prints (report_line n q.id reply) (row_ending n reply) before after ending
  TellsReply Outcome q reply ending =
      PrintsLine writer writer' before after (outcomes_text (q ∷ []) (reply ∷ [])) (replies_ending (reply ∷ []))
      ending

module _ {S : Type 0} (g : Ghosts S) {W : Type 0} where
  -- A request was carried out, and its reply told.
  pub record IsCarriedFor (report : Report) (q : Request) (old new : Seen S) (writer writer' : W)
      (before after : Option (List ℕ)) (ending : Ending) : Type 0 where
    pub reply : Result Receipt Refusal
    pub step : IsStep g q old reply new
    pub still : StandsStill g old reply new
    pub unharmed : LeavesNoTrace g old reply new
    pub told : TellsReply writer writer' before after report q reply ending

  -- The same of a row, for which memory may be wanting: nothing was done then.
  abbrev pub CarriesRow : ℕ → Request → Seen S → Seen S → W → W → Option (List ℕ)
      → Option (List ℕ) → Ending → Type 0
  CarriesRow n q old new writer writer' before after ending =
      ((ending ≡ no_memory) × (new ≡ old) × (writer' ≡ writer))
      ⊎ IsCarriedFor (Row n) q old new writer writer' before after ending

  -- The same of the request that a text is. Of a text that is none, and where memory was wanting before, nothing was
  -- done or written.
  abbrev pub Carries : Report → List ℕ → Seen S → Seen S → W → W → Option (List ℕ)
      → Option (List ℕ) → Ending
      → Type 0
  Carries report text old new writer writer' before after ending =
      (IsWhyUnasked text ending × (new ≡ old) × (writer' ≡ writer))
      ⊎ ((q : Request) × IsRequestText text q × IsCarriedFor report q old new writer writer' before after ending)
