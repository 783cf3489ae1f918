-- What a selection names, and what a package is with a cut more or a selection less. Profile.
use Rattle.std.specs.Prelude.{◌≡◌, ℕ, ◌+◌, ◌-◌, true, false, List, ◌++◌, map, length, bytes_eq}
use Rattle.std.specs.Prelude.{min, slice_range}
use Rattle.std.specs.List.{AllByRecursion, IsDistinct, filter_map}
use Rattle.sheet_types.specs.Ordered.{arranged, without, has, is_among}
use Rattle.sheet_types.specs.World.{Package, item_key, link_key, has_item, item_of}
use Rattle.sheet_types.specs.Cut.{Cut, identities, touches}
use Rattle.sheet_types.specs.Register.{HasEnds}
use Rattle.sheet_types.specs.declared.command.Relation.{Relation}
use Rattle.identity_register.specs.declared.selection.Selection.{Selection}

-- ---- selections

-- identities of items, and links
pub record Names : Type 0 where
  pub identities : List (List ℕ)
  pub links : List Relation

abbrev pub names_of : Selection → Names
names_of s = record { identities = s.identities.items; links = s.links.items }

-- The items and links stand in the package, each once, with all links of these items.
pub record IsSelection (n : Names) (p : Package) : Type 0 where
  pub distinct_items : IsDistinct bytes_eq n.identities
  pub items : AllByRecursion (λ id. has_item p id ≡ true) n.identities
  pub distinct_links : IsDistinct bytes_eq (map link_key n.links)
  pub links : AllByRecursion (λ l. has link_key (link_key l) p.links ≡ true) n.links
  pub whole : AllByRecursion (λ l. touches (is_among n.identities) l ≡ true
      → is_among (map link_key n.links) (link_key l) ≡ true) p.links

-- the items with their contents, in the order of their names, and the links
abbrev pub selected : Names → Package → Cut
selected n p = record { items = filter_map (item_of p) n.identities; links = n.links }

-- a package without these items and links
abbrev pub without_names : Names → Package → Package
without_names n p = record p {
  items = without (λ i. i.identity) n.identities p.items;
  links = without link_key (map link_key n.links) p.links;
}

-- ---- cuts

-- a package with items and links more
abbrev pub with_cut : Cut → Package → Package
with_cut c p = record p {
  items = arranged item_key (c.items ++ p.items);
  links = arranged link_key (c.links ++ p.links);
}

-- The package has none of these items and links, each is there once, and with them it has both ends of each of the
-- links.
pub record IsNewCut (c : Cut) (p : Package) : Type 0 where
  pub distinct_items : IsDistinct bytes_eq (identities c.items)
  pub items : AllByRecursion (λ i. has_item p i.identity ≡ false) c.items
  pub distinct_links : IsDistinct bytes_eq (map link_key c.links)
  pub links : AllByRecursion (λ l. has link_key (link_key l) p.links ≡ false) c.links
  pub ends : AllByRecursion (HasEnds (with_cut c p)) c.links

-- ---- pages

-- how many items and links move at a time
abbrev pub page_size : ℕ
page_size = 256

-- how many items and links there are
abbrev pub things : Names → ℕ
things n = length n.identities + length n.links

-- what stands from a position up to another, where items stand before links
abbrev pub part : ℕ → ℕ → Names → Names
part from to n = record {
  identities = slice_range n.identities from to;
  links = slice_range n.links (from - length n.identities) (to - length n.identities);
}

-- where the page from a position on ends
abbrev pub page_end : ℕ → Names → ℕ
page_end from n = min (from + page_size) (things n)
