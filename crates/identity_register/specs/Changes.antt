-- The four changes of a package, each by one item or link, and what the caller owes for each.
use Rattle.std.specs.Prelude.{◌≡◌, ℕ, true, false, List, [], ◌∷◌}
use Rattle.std.specs.List.{list_any}
use Rattle.sheet_types.specs.Ordered.{put, without, has}
use Rattle.sheet_types.specs.Cut.{has_end}
use Rattle.sheet_types.specs.World.{Package, item_key, link_key, has_item}
use Rattle.sheet_types.specs.Lines.{IsUuid}
use Rattle.sheet_types.specs.Register.{HasEnds}
use Rattle.sheet_types.specs.declared.command.Item.{Item}
use Rattle.sheet_types.specs.declared.command.Relation.{Relation}

-- a new identity, which is a UUID, as each `Uuid` is
pub record IsNewItem (id : List ℕ) (p : Package) : Type 0 where
  pub uuid : IsUuid id
  pub new : has_item p id ≡ false

abbrev pub item_added : Item → Package → Package
item_added i p = record p { items = put item_key i p.items }

-- the item is there, and no link names it
abbrev pub IsLooseItem : List ℕ → Package → Type 0
IsLooseItem id p = (has_item p id ≡ true) × (list_any (has_end id) p.links ≡ false)

abbrev pub item_deleted : List ℕ → Package → Package
item_deleted id p = record p { items = without (λ i. i.identity) (id ∷ []) p.items }

-- both ends are there, and the link is not; the ends are UUIDs, as those of each `Uuid` are
pub record IsNewLink (l : Relation) (p : Package) : Type 0 where
  pub base : IsUuid l.base
  pub other : IsUuid l.other
  pub new : has link_key (link_key l) p.links ≡ false
  pub ends : HasEnds p l

abbrev pub link_added : Relation → Package → Package
link_added l p = record p { links = put link_key l p.links }

-- the link is there; its ends are UUIDs, as those of each `Uuid` are
pub record IsLink (l : Relation) (p : Package) : Type 0 where
  pub base : IsUuid l.base
  pub other : IsUuid l.other
  pub there : has link_key (link_key l) p.links ≡ true

abbrev pub link_removed : Relation → Package → Package
link_removed l p = record p { links = without link_key (link_key l ∷ []) p.links }
