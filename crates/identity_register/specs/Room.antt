-- An item that comes in where its kind has room.
use Rattle.std.specs.Prelude.{◌≡◌, ◌≤◌, Bool, true, false, count_by}
use Rattle.sqlite.specs.Effect.{Database}
use Rattle.sheet_types.specs.Refuse.{greatest_items}
use Rattle.sheet_types.specs.Texts.{kind_of}
use Rattle.sheet_types.specs.World.{Package, kind_is}
use Rattle.sheet_types.specs.declared.command.Item.{Item}
use Rattle.sheet_types.specs.declared.frame.Frame.{Frame}
use Rattle.sheet_types.specs.declared.receipt.MovedKind.{MovedKind}
use Rattle.identity_register.specs.Changes.{IsNewItem, item_added}
use Rattle.identity_register.specs.Reads.{Reads}
use Rattle.identity_register.specs.LocalNumbers.{Grows}

-- the package of a store has as many items of this kind as may be
abbrev pub IsFull : MovedKind → Database → Type 0
IsFull kind db = (f : Frame) (p : Package) → Reads f p db → greatest_items ≤ count_by
    (λ i. kind_is kind (kind_of i.content)) p.items

-- the item comes in, or there is no room for it and nothing is changed
abbrev pub ComesIn : Item → Bool → Database → Database → Type 0
ComesIn i true old new = Grows (IsNewItem i.identity) (item_added i) old new
ComesIn i false old new = (new ≡ old) × IsFull (kind_of i.content) old
