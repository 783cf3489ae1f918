-- The one premise on stores: they gave back what was written to them. Profile.
use Rattle.std.specs.Prelude.{◌≡◌, ◌⊎◌, ℕ, ⊤, List, [], ◌∷◌, ◌++◌, None, Some}
use Rattle.std.specs.List.{AllByRecursion}
use Rattle.sqlite.specs.Store.{Ghosts}
use Rattle.sqlite_trees.specs.View.{IsClean}
use Rattle.sheet_types.specs.declared.command.Request.{Request}
use Rattle.world_decisions.specs.Deciding.{child_asked}
use Rattle.world_members.specs.Members.{AllClean}
use Rattle.world.specs.Asked.{AsksFor, child_returned}
use Rattle.world.specs.Worlds.{Seen}

-- These stand in that list, in this order, among others of which this holds.
abbrev pub StandAmong : {S : Type 0} → (S → Type 0) → List S → List S → Type 0
StandAmong Other [] [] = ⊤
StandAmong Other [] (one ∷ all) = Other one × StandAmong Other [] all
StandAmong Other (store ∷ stores) [] = ⊥
StandAmong Other (store ∷ stores) (one ∷ all) = ((store ≡ one) × StandAmong Other stores all)
    ⊎ (Other one × StandAmong Other (store ∷ stores) all)

-- Each shelf says what it is to be asked for a package's store between two states, and to be given one back.
module _ {S : Type 0} {H : Type 0} (Asked : List ℕ → H → H → Type 0)
    (Taken : List ℕ → S → H → H → Type 0) where
  -- These stores a shelf was given that left a world in the turn of a request: none, and it was asked for none but that
  -- of the package which a split asks to be made, and given none but that, as that package's; or one, as that of the
  -- package which a merge takes home, and it was asked for none. No other store leaves a world.
  abbrev pub IsGivenBy : Request → H → H → List S → Type 0
  IsGivenBy q before after [] = AsksFor Asked Taken (child_asked q.command) (λ child. ⊤) before after
  IsGivenBy q before after (store ∷ others) = (others ≡ []) × (uuid : List ℕ)
      × (child_returned q.command ≡ Some uuid) × Taken uuid store before after

  -- Those of each request, in turn; and it was used for nothing else.
  abbrev pub IsGivenByEach : List Request → H → H → List S → Type 0
  IsGivenByEach [] before after stores = (stores ≡ []) × (after ≡ before)
  IsGivenByEach (q ∷ qs) before after stores = (between : H) × (first : List S) × (later : List S)
      × (stores ≡ first ++ later) × IsGivenBy q before between first × IsGivenByEach qs between after later

  -- The same behind a new world, for whose archive it was asked once.
  abbrev pub IsGivenFromNew : List ℕ → List Request → H → H → List S → Type 0
  IsGivenFromNew archive qs before after stores = (made : H) × Asked archive before made
      × IsGivenByEach qs made after stores

  -- It was given back as the store of the child that one of these requests asks for.
  abbrev pub IsReturned : List Request → S → Type 0
  IsReturned [] store = ⊥
  IsReturned (q ∷ qs) store = ((child : List ℕ) × (child_asked q.command ≡ Some child) × (before : H)
      × (after : H)
      × Taken child store before after) ⊎ IsReturned qs store

  -- The stores that it was given stand in whatever record it keeps of them, and all others there were given back as
  -- those of children that splits ask for. So where no request is a split there are no others.
  abbrev pub IsRecorded : Type 0
  IsRecorded = (record_of : H → List S)
      → ((uuid : List ℕ) (before after : H) → Asked uuid before after → record_of after ≡ record_of before)
      → ((uuid : List ℕ) (store : S) (before after : H) → Taken uuid store before after
      → record_of after ≡ record_of before ++ store ∷ [])
      → (qs : List Request) (before after : H) (stores : List S) → IsGivenByEach qs before after stores
      → (all : List S) × (record_of after ≡ record_of before ++ all) × StandAmong (IsReturned qs) stores all
      × (AllByRecursion (λ q. child_asked q.command ≡ None) qs → all ≡ stores)

  -- Where no request takes a package home none left a world.
  abbrev pub IsGivenNone : Type 0
  IsGivenNone = (qs : List Request) (before after : H) (stores : List S)
      → AllByRecursion (λ q. child_returned q.command ≡ None) qs → IsGivenByEach qs before after stores
      → stores ≡ []

module _ {S : Type 0} (g : Ghosts S) where
  -- the disk of each has given back what was written
  abbrev pub HaveCleanDisks : List S → Type 0
  HaveCleanDisks stores = AllByRecursion (λ store. IsClean (g.view store)) stores

  -- So it is where the stores gave back what was written to them: those of the world's packages, which the caller
  -- has in hand, and those that its shelf was given. Which these are the shelf's own relation says.
  pub record WhereClean (IsGiven : List S → Type 0) (seen : Seen S) (Fact : Type 0) : Type 0 where
    pub stores : List S
    pub given : IsGiven stores
    pub so : AllClean g seen.members → HaveCleanDisks stores → Fact
