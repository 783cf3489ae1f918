-- What a package holds once the changes for a file are carried out. Profile.
use Rattle.std.specs.Prelude.{Bool, List, [], ◌∷◌, ◌++◌, map, if◌then◌else◌}
use Rattle.sheet_types.specs.Ordered.{has, without, arranged}
use Rattle.sheet_types.specs.World.{Package, item_key, link_key}
use Rattle.sheet_types.specs.declared.command.Item.{Item}
use Rattle.sheet_types.specs.declared.command.Relation.{Relation}
use Rattle.field_changes.specs.Parts.{new_items, beyond}
use Rattle.field_changes.specs.declared.asking.Parts.{Parts}
use Rattle.field_changes.specs.declared.held.HeldItem.{HeldItem}
use Rattle.field_changes.specs.declared.naming.Named.{Named}

-- the items of a file, each under its name
abbrev pub named_items : List Named → List HeldItem → List Item
named_items [] hs = []
named_items (n ∷ ns) [] = []
named_items (n ∷ ns) (h ∷ hs) = record { identity = n.identity; content = h.content } ∷ named_items ns hs

-- each link once
abbrev pub each_once : List Relation → List Relation
each_once [] = []
each_once (l ∷ ls) = if has link_key (link_key l) ls then each_once ls else l ∷ each_once ls

-- what a package holds after the four parts, in no order
abbrev pub items_left : Parts → List Item → List Item
items_left parts items = without (λ i. i.identity) parts.deletes.items items

abbrev pub links_left : Parts → List Relation → List Relation
links_left parts links = without link_key (map link_key parts.unlinks.items) links

abbrev pub after_parts : Parts → Package → Package
after_parts parts x = record x {
  items = parts.adds.items ++ items_left parts x.items;
  links = parts.links.items ++ links_left parts x.links;
}

-- ---- in the register's order

-- with `more` what was held and what is new, else what the file has
abbrev pub items_home : Bool → List Named → List HeldItem → List Item → List Item
items_home more names file items =
    arranged item_key (if more then new_items names file ++ items else named_items names file)

abbrev pub links_home : Bool → List Relation → List Relation → List Relation
links_home more linked file_links =
    arranged link_key (if more then beyond linked file_links ++ linked else each_once file_links)
