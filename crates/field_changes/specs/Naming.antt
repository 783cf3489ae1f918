-- What the items of a file are called. Content decides, and an identity only chooses among equal contents. Profile.
-- 1 the identity that stands beside it, where the package has this content under it, and no item before it has that
-- name
--     2  else the least identity of this content that nothing in the file is marked as, and that no item before it has
--     3  else a new one
use Rattle.std.specs.Prelude.{ℕ, ◌-◌, Bool, true, false, not, ◌&&◌, List, [], ◌∷◌, ◌++◌, filter}
use Rattle.std.specs.Prelude.{Option, unwrap_or}
use Rattle.std.specs.Prelude.{option_map, if◌then◌else◌, bytes_eq, count_by, slice_get}
use Rattle.std.specs.List.{list_any}
use Rattle.std.specs.Option.{option_map_or}
use Rattle.sheet_types.specs.Ordered.{has}
use Rattle.sheet_types.specs.Cut.{identities}
use Rattle.sheet_types.specs.Texts.{kind_of}
use Rattle.sheet_types.specs.declared.command.Content.{Content}
use Rattle.sheet_types.specs.declared.command.Item.{Item}
use Rattle.field_changes.specs.Keys.{same_content, key_of, item_mark}
use Rattle.field_changes.specs.Ids.{derived, item_text}
use Rattle.field_changes.specs.declared.held.HeldItem.{HeldItem}
use Rattle.field_changes.specs.declared.naming.Named.{Named}
use Rattle.field_changes.specs.declared.naming.Name.{Name}
use Rattle.field_changes.specs.declared.naming.Name.TheVariants.{Old, New}

-- the identity that an item of the file names, and its content
abbrev pub held_mark : HeldItem → Option (List ℕ)
held_mark h = option_map (λ id. key_of 0 id h.content) h.identity

-- an item of the file names this identity, and has this content
abbrev pub is_marked : List ℕ → HeldItem → Bool
is_marked mark h = option_map_or (λ m. bytes_eq m mark) (held_mark h) false

-- it is the item that it names: the package has it, and no item before it is marked so
abbrev pub is_own : List Item → List HeldItem → HeldItem → Bool
is_own items before h = option_map_or (λ m. has item_mark m items && not (list_any (is_marked m) before))
    (held_mark h) false

-- the items of the package that nothing in the file is marked as
abbrev pub unmarked : List Item → List HeldItem → List Item
unmarked items file = filter (λ i. not (list_any (is_marked (item_mark i)) file)) items

-- the identities of those of this content, in their order
abbrev pub alike : Content → List Item → List (List ℕ)
alike content items = identities (filter (λ i. same_content content i.content) items)

-- how many of them have this content
abbrev pub copies : {X : Type 0} → (X → Content) → Content → List X → ℕ
copies of content xs = count_by (λ x. same_content content (of x)) xs

-- the contents of the items that are not their own, where these stand before them
abbrev pub others : List Item → List HeldItem → List HeldItem → List Content
others items before [] = []
others items before (h ∷ hs) = if is_own items before h then others items (before ++ h ∷ []) hs else h.content
    ∷ others items (before ++ h ∷ []) hs

-- of one that so many like it stand before: the item of that place among those that are left of its content, or a new
-- one, counted from 0
abbrev pub shared_name : List Item → Content → ℕ → Name
shared_name left content place = option_map_or Old (slice_get (alike content left) place)
    (New (place - copies (λ i. i.content) content left))

-- the name of an item of the file
abbrev pub name_of : List Item → List HeldItem → List HeldItem → HeldItem → Name
name_of items file before h = if is_own items before h then Old (unwrap_or h.identity [])
    else shared_name (unmarked items file) h.content (copies (λ c. c) h.content (others items [] before))

-- an item of the file under its name
abbrev pub known_as : List ℕ → ℕ → HeldItem → Name → Named
known_as p ticket h (Old id) = record { kind = kind_of h.content; number = h.number; identity = id; is_new = false }
known_as p ticket h (New copy) = record {
  kind = kind_of h.content;
  number = h.number;
  identity = derived (item_text p ticket copy h.content);
  is_new = true;
}

abbrev pub names_behind : List ℕ → ℕ → List Item → List HeldItem → List HeldItem → List HeldItem
    → List Named
names_behind p ticket items file before [] = []
names_behind p ticket items file before (h ∷ hs) = known_as p ticket h (name_of items file before h)
    ∷ names_behind p ticket items file (before ++ h ∷ []) hs

-- the items of a file under their names, in their order: of this package at this ticket, which holds these items
abbrev pub names_of : List ℕ → ℕ → List Item → List HeldItem → List Named
names_of p ticket items file = names_behind p ticket items file [] file
