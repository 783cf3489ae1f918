-- What is gathered on the way to a selection: the words of the private calls.
use Rattle.std.specs.Prelude.{◌≡◌, ℕ, ℤ, int_lt, Bool, true, false, ◌&&◌, ◌||◌, if◌then◌else◌}
use Rattle.std.specs.Prelude.{List, [], ◌∷◌, ◌++◌}
use Rattle.std.specs.Prelude.{map, filter, flat_map, Option, None, Some}
use Rattle.std.specs.List.{list_any, AllByRecursion}
use Rattle.std.specs.Option.{option_to_list}
use Rattle.std.specs.Ordering.{int_eq}
use Rattle.sheet_types.specs.Ordered.{is_among, is_before, IsArranged}
use Rattle.sheet_types.specs.Cut.{identities, holds_all, strict_set, in_each}
use Rattle.sheet_types.specs.Register.{HasEnds}
use Rattle.sheet_types.specs.World.{Package, kind_is, other_kind, link_key}
use Rattle.sheet_types.specs.declared.command.Content.{Content}
use Rattle.sheet_types.specs.declared.command.Content.TheVariants.{Tile, Media, Row}
use Rattle.sheet_types.specs.declared.command.Mode.{Mode}
use Rattle.sheet_types.specs.declared.command.Mode.TheVariants.{Strict, Follow}
use Rattle.sheet_types.specs.declared.command.Relation.{Relation}
use Rattle.sheet_types.specs.declared.frame.Frame.{Frame}
use Rattle.sheet_types.specs.declared.frame.Rect.{Rect}
use Rattle.sheet_types.specs.declared.receipt.MovedKind.TheVariants.{MediaItem}
use Rattle.matrix_rules.specs.Places.{is_inside}
use Rattle.identity_register.specs.Reach.{links_of}
use Rattle.cut.specs.declared.gathering.Gathered.{Gathered}
use Rattle.cut.specs.declared.group.Group.{Group}
use Rattle.identity_register.specs.declared.selection.Selection.{Selection}

-- ---- tiles

-- a tile of this zoom inside the rectangle
abbrev pub is_tile_at : Frame → Rect → ℤ → Content → Bool
is_tile_at f r z (Tile zoom column row bytes) = int_eq zoom z && is_inside f r z column row
is_tile_at f r z (Media content_type bytes) = false
is_tile_at f r z (Row x y code label) = false

-- the tiles of this zoom inside the rectangle
abbrev pub tiles_at : Frame → Rect → Package → ℤ → List (List ℕ)
tiles_at f r p z = identities (filter (λ i. is_tile_at f r z i.content) p.items)

-- a tile inside the rectangle, of a zoom below this
abbrev pub is_tile_below : Frame → Rect → ℤ → Content → Bool
is_tile_below f r z (Tile zoom column row bytes) = int_lt zoom z && is_inside f r zoom column row
is_tile_below f r z (Media content_type bytes) = false
is_tile_below f r z (Row x y code label) = false

-- the tiles inside the rectangle, of zooms below this
abbrev pub tiles_below : Frame → Rect → Package → ℤ → List (List ℕ)
tiles_below f r p z = identities (filter (λ i. is_tile_below f r z i.content) p.items)

-- the same identities, whatever their order and number
abbrev pub AreSame : List (List ℕ) → List (List ℕ) → Type 0
AreSame xs ys = (id : List ℕ) → is_among xs id ≡ is_among ys id

-- ---- groups

-- those known are those that came in
abbrev pub IsGroup : Group → Type 0
IsGroup g = AreSame g.known.keys g.order.items

abbrev pub has_member : Group → List ℕ → Bool
has_member g id = is_among g.order.items id

-- these came in behind those that were there
pub record Enters (ids : List (List ℕ)) (old new : Group) : Type 0 where
  pub same : IsGroup new
  pub more : List (List ℕ)
  pub behind : new.order.items ≡ old.order.items ++ more
  pub members : (id : List ℕ) → has_member new id ≡ (has_member old id || is_among ids id)

-- ---- links

abbrev pub leads_to_media : Relation → Bool
leads_to_media l = kind_is MediaItem (other_kind l.mapping)

abbrev pub ends_of : Relation → List (List ℕ)
ends_of l = l.base ∷ l.other ∷ []

-- the media of the links whose bases are in the set
abbrev pub media_at : (List ℕ → Bool) → List Relation → List (List ℕ)
media_at set links = map (λ l. l.other) (filter (λ l. leads_to_media l && set l.base) links)

-- the one end of a link that is in the set, where the other isn't
abbrev pub torn_end : (List ℕ → Bool) → Relation → Option (List ℕ)
torn_end set l = if set l.base then (if set l.other then None else Some l.base) else
    (if set l.other then Some l.other else None)

abbrev pub torn_ends : (List ℕ → Bool) → List Relation → List (List ℕ)
torn_ends set links = flat_map (λ l. option_to_list (torn_end set l)) links

-- the least of some identities, or none where there are none
abbrev pub IsLeast : List (List ℕ) → Option (List ℕ) → Type 0
IsLeast ids None = ids ≡ []
IsLeast ids (Some id) = (is_among ids id ≡ true) × AllByRecursion (λ other. is_before other id ≡ false) ids

-- the lesser of two, where there are two
abbrev pub lesser : Option (List ℕ) → Option (List ℕ) → Option (List ℕ)
lesser least None = least
lesser None (Some id) = Some id
lesser (Some known) (Some id) = if is_before id known then Some id else Some known

-- the same links, whatever their order and number
abbrev pub AreSameLinks : List Relation → List Relation → Type 0
AreSameLinks xs ys = (test : Relation → Bool) → list_any test xs ≡ list_any test ys

-- ---- what was gathered

-- the items that come along with a start
abbrev pub brought_along : Package → Mode → List (List ℕ) → List ℕ → Bool
brought_along p Strict ids id = strict_set p ids id
brought_along p Follow ids id = in_each p ids id

-- the items of this set, and the links of each
pub record Gathers (p : Package) (set : List ℕ → Bool) (g : Gathered) : Type 0 where
  pub members : (id : List ℕ) → has_member g.items id ≡ set id
  pub links : g.links.items ≡ flat_map (links_of p) g.items.order.items

-- the least end of a link of what was gathered that is torn in this mode
abbrev pub IsTorn : Gathered → Mode → Option (List ℕ) → Type 0
IsTorn g Strict end = IsLeast (torn_ends (has_member g.items) g.links.items) end
IsTorn g Follow end = end ≡ None

-- the links have their ends, and the start is of items
pub record HasStart (p : Package) (ids : List (List ℕ)) : Type 0 where
  pub ends : AllByRecursion (HasEnds p) p.links
  pub items : holds_all ids (identities p.items) ≡ true

-- they are sorted, and they are those of what was gathered
pub record Sorts (g : Gathered) (s : Selection) : Type 0 where
  pub items_order : IsArranged (λ id. id) s.identities.items
  pub items_same : AreSame s.identities.items g.items.order.items
  pub links_order : IsArranged link_key s.links.items
  pub links_same : AreSameLinks s.links.items g.links.items
