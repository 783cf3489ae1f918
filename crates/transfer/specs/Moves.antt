-- What a transfer makes of the package that it goes to, and what it looks at in the one that it comes from.
use Rattle.std.specs.Prelude.{◌≡◌, Bool, true, false, List, [], ◌∷◌, IsTrue, ◌⊎◌}
use Rattle.sqlite.specs.Effect.{Database}
use Rattle.sqlite.specs.State.{State}
use Rattle.store_sql.specs.Writing.{Chained, EachChained}
use Rattle.sheet_types.specs.Ordered.{has}
use Rattle.sheet_types.specs.Cut.{Cut}
use Rattle.sheet_types.specs.Refuse.{is_overfull}
use Rattle.sheet_types.specs.Register.{HasEnds}
use Rattle.sheet_types.specs.Texts.{kind_of}
use Rattle.sheet_types.specs.World.{Package, has_item, link_key}
use Rattle.sheet_types.specs.declared.command.Item.{Item}
use Rattle.sheet_types.specs.declared.command.Relation.{Relation}
use Rattle.sheet_types.specs.declared.frame.Frame.{Frame}
use Rattle.identity_register.specs.Changes.{item_added, link_added}
use Rattle.identity_register.specs.LocalNumbers.{Grows}
use Rattle.identity_register.specs.Reads.{Reads}
use Rattle.identity_register.specs.Room.{IsFull}
use Rattle.transfer.specs.Parcels.{IsNewCut, with_cut, Names, selected}

-- ---- one by one

abbrev pub PutsItem : Item → Database → Database → Type 0
PutsItem i = Grows (λ p. has_item p i.identity ≡ false) (item_added i)

-- the package has not this link, and has both its ends
pub record IsAbsent (l : Relation) (p : Package) : Type 0 where
  pub new : has link_key (link_key l) p.links ≡ false
  pub ends : HasEnds p l

abbrev pub PutsLink : Relation → Database → Database → Type 0
PutsLink l = Grows (IsAbsent l) (link_added l)

-- an item comes in, or there is no room for it
abbrev pub TriesItem : Item → Bool → Database → Database → Type 0
TriesItem i true old new = PutsItem i old new
TriesItem i false old new = IsFull (kind_of i.content) old

-- some of the items come in, and for the next there is no room
abbrev pub Overfills : List Item → Database → Type 0
Overfills [] old = ⊥
Overfills (i ∷ items) old = IsFull (kind_of i.content) old ⊎
    ((mid : Database) × PutsItem i old mid × Overfills items mid)

abbrev pub TriesItems : List Item → Bool → Database → Database → Type 0
TriesItems items true old new = EachChained PutsItem items old new
TriesItems items false old new = Overfills items old

-- items come in, and then links
abbrev pub PutsEach : Cut → Database → Database → Type 0
PutsEach c = Chained (EachChained PutsItem c.items) (EachChained PutsLink c.links)

abbrev pub TriesEach : Cut → Bool → Database → Database → Type 0
TriesEach c true old new = PutsEach c old new
TriesEach c false old new = Overfills c.items old

-- ---- all at once

-- A store that reads as a package without these items and links reads as the package with them, and what stood keeps
-- its number.
abbrev pub Takes : Cut → Database → Database → Type 0
Takes c = Grows (IsNewCut c) (with_cut c)

-- with them it would hold too much
abbrev pub IsTooMuch : Cut → Database → Type 0
IsTooMuch c old = (f : Frame) (p : Package) → Reads f p old → IsNewCut c p → is_overfull (with_cut c p) ≡ true

-- ---- from another package

-- Whatever package the store reads as, where it is open, has this.
abbrev pub OfSource : State → (Package → Type 0) → Type 0
OfSource source Has = (f : Frame) (p : Package) → (IsTrue source.is_open → Reads f p source.now) → Has p
