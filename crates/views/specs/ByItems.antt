-- What is written of a package whose contents are read one at a time. Profile.
use Rattle.std.specs.Prelude.{◌≡◌}
use Rattle.sheet_types.specs.Texts.{kind_of}
use Rattle.sheet_types.specs.World.{item_moved}
use Rattle.sheet_types.specs.declared.command.Item.{Item}
use Rattle.sheet_types.specs.declared.receipt.Moved.{Moved}

-- it has the identity and the kind of the item that is told of
abbrev pub IsBareOf : Moved → Item → Type 0
IsBareOf told bare = (i : Item) → told ≡ item_moved i
    → (bare.identity ≡ i.identity) × (kind_of bare.content ≡ kind_of i.content)
