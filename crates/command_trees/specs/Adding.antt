-- What is made of a world by adding the tiles of a tree of files, and that each tile has the bytes of its own file.
-- Profile.
use Rattle.std.specs.Prelude.{◌≡◌, ◌⊎◌, ◌++◌, ◌∷◌, [], ℕ, Bool, true, false, not, count_by}
use Rattle.std.specs.Prelude.{List, Option, Some, None, Result, Ok, Err}
use Rattle.std.specs.List.{list_any}
use Rattle.sqlite.specs.Store.{Ghosts}
use Rattle.sheet_types.specs.declared.command.Command.TheVariants.{Add}
use Rattle.sheet_types.specs.declared.command.Content.TheVariants.{Tile}
use Rattle.sheet_types.specs.declared.command.Item.{Item}
use Rattle.sheet_types.specs.declared.command.Request.{Request}
use Rattle.sheet_types.specs.declared.receipt.Receipt.{Receipt}
use Rattle.sheet_types.specs.declared.refusal.Refusal.{Refusal}
use Rattle.world.specs.Worlds.{IsStep, LeavesNoTrace, Seen, StandsStill}
use Rattle.command_plans.specs.Places.{IsPlaceOf, has_row, is_tile_item}
use Rattle.command_plans.specs.Requests.{GivesEach, command_of, id_of}
use Rattle.command_verbs.specs.declared.areas.Place.{Place}
use Rattle.command_trees.specs.declared.adding.AddFault.{AddFault}
use Rattle.command_trees.specs.declared.adding.AddFault.TheVariants.{BadPlace, Failed, Refused, Unread}
use Rattle.command_trees.specs.declared.adding.Counts.{Counts}
use Rattle.command_trees.specs.declared.adding.Target.{Target}

-- A request that adds a tile of these bytes at a place, at the moment of the target. One call gave the identity of the
-- tile, and the next one that of the request.
pub record IsAddition {N : Type 0} (Gives : Option (List ℕ) → N → N → Type 0) (t : Target) (place : Place)
    (bytes : List ℕ) (ids ids' : N) (q : Request) : Type 0 where
  pub identity : List ℕ
  pub command : command_of q ≡ Add t.«package» identity (Tile place.zoom place.column place.row bytes)
  pub moment : q.at ≡ t.at.now
  pub given : GivesEach Gives (identity ∷ id_of q ∷ []) ids ids'

-- a tile of these bytes stands at a place already
abbrev pub is_there : List Item → Place → List ℕ → Bool
is_there items place bytes = list_any (is_tile_item place bytes) items

-- of files of which it is told whether they were added: so many were, and so many were passed over
abbrev pub AreCounted : List Bool → Counts → Type 0
AreCounted told counts = (counts.added ≡ count_by (λ b. b) told) × (counts.passed ≡ count_by not told)

-- what adding works on: a world, where new identities come from, and where the bytes of files come from
pub record Work (S N F : Type 0) : Type 0 where
  pub world : Seen S
  pub ids : N
  pub sheets : F

module _ {S : Type 0} (g : Ghosts S) {N : Type 0} (Gives : Option (List ℕ) → N → N → Type 0) where
  -- It was asked for, under new identities, and this came of it.
  abbrev pub IsAsked : Target → Place → List ℕ → Seen S → Seen S → N → N → Result Receipt Refusal → Type 0
  IsAsked t place bytes old new ids ids' reply =
      (q : Request) × IsAddition Gives t place bytes ids ids' q × IsStep g q old reply new
      × StandsStill g old reply new × LeavesNoTrace g old reply new

  -- a tile is asked for: it is added, or refused; or it was not asked for, and nothing was done
  abbrev pub AddsTile : Target → Place → List ℕ → Seen S → Seen S → N → N → Result Unit AddFault → Type 0
  AddsTile t place bytes old new ids ids' (Ok done) = (r : Receipt) × IsAsked t place bytes old new ids ids' (Ok r)
  AddsTile t place bytes old new ids ids' (Err (Refused why)) = IsAsked t place bytes old new ids ids' (Err why)
  AddsTile t place bytes old new ids ids' (Err (Failed fault)) = new ≡ old
  AddsTile t place bytes old new ids ids' (Err BadPlace) = ⊥
  AddsTile t place bytes old new ids ids' (Err Unread) = ⊥

  -- The tile of a file lies where its name says. It is there with these bytes, and nothing is done; or it is added,
  -- or refused.
  abbrev pub AddsBytes : Target → List Item → Place → List ℕ → Seen S → Seen S → N → N → Result Bool AddFault
      → Type 0
  AddsBytes t items file bytes old new ids ids' (Ok false) =
      (place : Place) × IsPlaceOf old.frame t.is_upward file place × (is_there items place bytes ≡ true)
      × (new ≡ old) × (ids' ≡ ids)
  AddsBytes t items file bytes old new ids ids' (Ok true) =
      (place : Place) × IsPlaceOf old.frame t.is_upward file place × (is_there items place bytes ≡ false)
      × AddsTile t place bytes old new ids ids' (Ok tt)
  AddsBytes t items file bytes old new ids ids' (Err (Refused why)) =
      (place : Place) × IsPlaceOf old.frame t.is_upward file place × (is_there items place bytes ≡ false)
      × AddsTile t place bytes old new ids ids' (Err (Refused why))
  AddsBytes t items file bytes old new ids ids' (Err BadPlace) =
      (t.is_upward ≡ true) × (has_row old.frame file ≡ false) × (new ≡ old)
  AddsBytes t items file bytes old new ids ids' (Err (Failed fault)) = new ≡ old
  AddsBytes t items file bytes old new ids ids' (Err Unread) = ⊥

  module _ {F : Type 0} (Reads : Place → Option (List ℕ) → F → F → Type 0) where
    -- The file of this very place was read once. It had these bytes, and the same came of them; or it could not be
    -- read, and nothing was done.
    pub record AddsFile (t : Target) (items : List Item) (file : Place) (old new : Work S N F)
        (result : Result Bool AddFault) : Type 0 where
      pub came : ((result ≡ Err Unread) × Reads file None old.sheets new.sheets × (new.world ≡ old.world))
          ⊎ ((bytes : List ℕ) × Reads file (Some bytes) old.sheets new.sheets
          × AddsBytes t items file bytes old.world new.world old.ids new.ids result)

    -- Files one after the other, each on what the one before left; of each it is told whether its tile was added.
    abbrev pub AreAdded : Target → List Item → List Place → List Bool → Work S N F → Work S N F → Type 0
    AreAdded t items [] [] old new = new ≡ old
    AreAdded t items (file ∷ files) (told ∷ rest) old new =
        (mid : Work S N F) × AddsFile t items file old mid (Ok told) × AreAdded t items files rest mid new
    AreAdded t items [] (told ∷ rest) old new = ⊥
    AreAdded t items (file ∷ files) [] old new = ⊥

    -- All of them were; or those before the first fault, which ended it.
    abbrev pub AddsFiles : Target → List Item → List Place → Work S N F → Work S N F → Counts
        → Result Unit AddFault → Type 0
    AddsFiles t items files old new counts (Ok done) =
        (told : List Bool) × AreAdded t items files told old new × AreCounted told counts
    AddsFiles t items files old new counts (Err fault) =
        (told : List Bool) × (front rest : List Place) × (at : Place) × (mid : Work S N F)
        × (files ≡ front ++ (at ∷ rest))
        × AreAdded t items front told old mid × AreCounted told counts × AddsFile t items at mid new (Err fault)
