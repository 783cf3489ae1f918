-- Requests as JSON, a line each, that are carried out as they come, and their replies. Profile.
use Rattle.std.specs.Prelude.{◌≡◌, ◌⊎◌, ◌∷◌, [], ℕ, List, Option, Some, None, IfSome}
use Rattle.std.specs.Prelude.{Bool, true, false, if◌then◌else◌, ◌||◌}
use Rattle.std.specs.Io.BufRead.{take_through}
use Rattle.std.specs.Io.KnownBytes.{Consumes, IsAtEnd}
use Rattle.sqlite.specs.Store.{Ghosts}
use Rattle.sheet_types.specs.declared.command.Request.{Request}
use Rattle.request_json.specs.Requests.{IsRequestText}
use Rattle.world.specs.Worlds.{Seen}
use Rattle.command_words.specs.declared.statuses.Outcome.TheVariants.{Done, Stopped}
use Rattle.command_folder.specs.Endings.{done, no_memory, output_text}
use Rattle.command_folder.specs.Printing.{Prints}
use Rattle.command_folder.specs.declared.endings.Ending.{Ending}
use Rattle.command_folder.specs.declared.endings.Ending.TheVariants.{BadBody, NoRequest, Usual}
use Rattle.commands.specs.Subcommands.{Applies, IsApplied}

-- ---- lines

-- a byte that a reader gave, or its end
abbrev pub GivesByte : Option (List ℕ) → Option (List ℕ) → Option ℕ → Type 0
GivesByte left left' (Some byte) = Consumes left left' (byte ∷ [])
GivesByte left left' None = Consumes left left' [] × IsAtEnd left'

-- The first line of what a reader has, with its end; the last one may have none.
abbrev pub GivesLine : Option (List ℕ) → Option (List ℕ) → List ℕ → Type 0
GivesLine left left' line = Consumes left left' line × IfSome left (λ text. line ≡ take_through 10 text)

-- a line of nothing but its end
abbrev pub IsEmptyLine : List ℕ → Type 0
IsEmptyLine line = (line ≡ 10 ∷ []) ⊎ (line ≡ 13 ∷ 10 ∷ [])

-- ---- endings

-- memory, a store or a stream gave out: no further line is read
abbrev pub stops : Ending → Bool
stops (Usual (Stopped failure)) = true
stops ending = false

abbrev pub is_done : Ending → Bool
is_done (Usual Done) = true
is_done ending = false

-- Of one line after others: what stops is told, and before that the first that was not done.
abbrev pub ending_then : Ending → Ending → Ending
ending_then first next = if stops next || is_done first then next else first

-- ---- one after the other

-- steps, each from where the one before led
abbrev pub AreSteps : {X T : Type 0} → (X → T → T → Type 0) → List X → T → T → Type 0
AreSteps Step [] old new = new ≡ old
AreSteps {T = T} Step (x ∷ xs) old new = (mid : T) × Step x old mid × AreSteps Step xs mid new

-- What the reader has yet, the world, what the writer holds, and how the program is to end.
pub record Stage (S : Type 0) : Type 0 where
  pub left : Option (List ℕ)
  pub world : Seen S
  pub written : Option (List ℕ)
  pub ending : Ending

abbrev pub stage : {S : Type 0} → Option (List ℕ) → Seen S → Option (List ℕ) → Ending → Stage S
stage left world written ending = record { left = left; world = world; written = written; ending = ending }

-- that the next line could not be read whole: the reader failed, it is too long, or memory was wanting
abbrev pub TellsUnread : Option (List ℕ) → Option (List ℕ) → Ending → Type 0
TellsUnread before after ending =
    Prints (output_text BadBody) NoRequest before after ending
    ⊎ ((stops ending ≡ true) × (after ≡ before))

module _ {S : Type 0} (g : Ghosts S) where
  -- A line that is empty, or for which memory was wanting, changes nothing. One that is no request is told in its
  -- place. Any other is carried out, and its reply printed.
  abbrev pub TakesLine : List ℕ → Seen S → Seen S → Option (List ℕ) → Option (List ℕ) → Ending
      → Type 0
  TakesLine line old new before after ending =
      (((IsEmptyLine line × (ending ≡ done)) ⊎ (ending ≡ no_memory)) × (new ≡ old) × (after ≡ before))
      ⊎ (((q : Request) → ¬ IsRequestText line q) × (new ≡ old)
      × Prints (output_text BadBody) NoRequest before after ending)
      ⊎ ((q : Request) × IsRequestText line q × IsApplied g q old new before after ending)

  -- The next line is taken, where nothing has stopped.
  pub record TakesNext (line : List ℕ) (old new : Stage S) : Type 0 where
    pub goes_on : stops old.ending ≡ false
    pub read : GivesLine old.left new.left line
    pub ending : Ending
    pub taken : TakesLine line old.world new.world old.written new.written ending
    pub next_ending : new.ending ≡ ending_then old.ending ending

  -- The reader is at its end or something has stopped, and no more is done; or, where nothing has stopped, that the
  -- next line is not read is told.
  abbrev pub EndsAt : Stage S → Option (List ℕ) → Ending → Type 0
  EndsAt last after ending =
      (((stops last.ending ≡ true) ⊎ IsAtEnd last.left) × (ending ≡ last.ending) × (after ≡ last.written))
      ⊎ ((stops last.ending ≡ false)
      × ((why : Ending) × TellsUnread last.written after why × (ending ≡ ending_then last.ending why)))

  -- From a stage on lines were taken one after the other, each once, until the reader was at its end or it was stopped.
  pub record TakesLines (first : Stage S) (new : Seen S) (after : Option (List ℕ)) (ending : Ending) : Type 0 where
    pub lines : List (List ℕ)
    pub last : Stage S
    pub taken : AreSteps TakesNext lines first last
    pub world : new ≡ last.world
    pub ended : EndsAt last after ending

  -- The first line is a request by itself, and all lines were taken.
  abbrev pub AppliesLines : Option (List ℕ) → Seen S → Seen S → Option (List ℕ) → Option (List ℕ)
      → Ending → Type 0
  AppliesLines text old new before after ending =
      IfSome text (λ t. (q : Request) × IsRequestText (take_through 10 t) q)
      × TakesLines (stage text old before done) new after ending

  -- All bytes together were taken as one request, as by a single application; or line by line.
  abbrev pub AppliesEach : {W : Type 0} → Option (List ℕ) → Seen S → Seen S → W → W
      → Option (List ℕ) → Option (List ℕ) → Ending → Type 0
  AppliesEach text old new writer writer' before after ending =
      Applies g text old new writer writer' before after ending ⊎ AppliesLines text old new before after ending
