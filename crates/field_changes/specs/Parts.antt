-- What the file has beyond the package, and the package beyond the file. Profile.
use Rattle.std.specs.Prelude.{◌≡◌, ℕ, ℤ, not, List, [], ◌∷◌, ◌++◌, filter, Option, Some}
use Rattle.std.specs.Prelude.{option_map, if◌then◌else◌}
use Rattle.std.specs.Prelude.{bytes_eq}
use Rattle.std.specs.Option.{option_and_then}
use Rattle.sheet_types.specs.Ordered.{has, last_where}
use Rattle.sheet_types.specs.Step.{relation}
use Rattle.sheet_types.specs.World.{link_key, base_kind, other_kind}
use Rattle.sheet_types.specs.declared.command.Item.{Item}
use Rattle.sheet_types.specs.declared.command.Relation.{Relation}
use Rattle.sheet_types.specs.declared.receipt.MovedKind.{MovedKind}
use Rattle.field_changes.specs.Keys.{number_key}
use Rattle.field_changes.specs.declared.held.HeldItem.{HeldItem}
use Rattle.field_changes.specs.declared.held.HeldLink.{HeldLink}
use Rattle.field_changes.specs.declared.naming.Named.{Named}

-- the items of the package by which nothing in the file is called
abbrev pub gone : List Named → List Item → List Item
gone names items = filter (λ i. not (has (λ n. n.identity) i.identity names)) items

-- an item of the file, where its name is new
abbrev pub new_item : Named → HeldItem → List Item
new_item n h = if n.is_new then record { identity = n.identity; content = h.content } ∷ [] else []

-- the items of the file whose names are new, in their order
abbrev pub new_items : List Named → List HeldItem → List Item
new_items [] hs = []
new_items (n ∷ ns) [] = []
new_items (n ∷ ns) (h ∷ hs) = new_item n h ++ new_items ns hs

-- the identity of the item of this kind and number
abbrev pub end_of : List Named → MovedKind → ℤ → Option (List ℕ)
end_of names kind number = option_map (λ n. n.identity) (last_where
    (λ n. bytes_eq (number_key n.kind n.number) (number_key kind number)) names)

-- a link of the file with its ends under their names, where both are there
abbrev pub link_of : List Named → HeldLink → Option Relation
link_of names l = option_and_then (λ base. option_map (λ other. relation l.mapping base other)
    (end_of names (other_kind l.mapping) l.other)) (end_of names (base_kind l.mapping) l.base)

abbrev pub IsLinkOf : List Named → HeldLink → Relation → Type 0
IsLinkOf names l r = link_of names l ≡ Some r

-- the links that are not among others
abbrev pub beyond : List Relation → List Relation → List Relation
beyond others links = filter (λ l. not (has link_key (link_key l) others)) links
