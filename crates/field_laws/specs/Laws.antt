-- Laws of what an edited file comes home as, over every package and every file. Profile.
use Rattle.std.specs.Prelude.{◌≡◌, ℕ, Bool, true, false, ◌&&◌, List, bytes_eq}
use Rattle.std.specs.List.{list_any, AllZip}
use Rattle.sheet_types.specs.declared.command.Content.{Content}
use Rattle.sheet_types.specs.declared.command.Item.{Item}
use Rattle.field_changes.specs.Keys.{content_key, same_content}
use Rattle.field_changes.specs.Naming.{names_of}
use Rattle.field_changes.specs.declared.held.HeldItem.{HeldItem}
use Rattle.field_changes.specs.declared.naming.Named.{Named}

-- contents whose keys are one are one, byte by byte
abbrev pub SameKeyIsSameContent : Type 0
SameKeyIsSameContent = (one other : Content) → content_key one ≡ content_key other → one ≡ other

-- the item of the package has this identity and this content
abbrev pub is_item : List ℕ → Content → Item → Bool
is_item identity content i = bytes_eq i.identity identity && same_content i.content content

-- an item of the file under a name that is not new is an item of the package of that identity, with its content
abbrev pub HoldsUnder : List Item → HeldItem → Named → Type 0
HoldsUnder items h name = name.is_new ≡ false → list_any (is_item name.identity h.content) items ≡ true

-- so it is with each item of the file, whatever identities stand beside its items
abbrev pub OldNamesHold : Type 0
OldNamesHold = (p : List ℕ) (ticket : ℕ) (items : List Item) (file : List HeldItem) →
    AllZip (HoldsUnder items) file (names_of p ticket items file)
