-- What the tables of a package answer of rows, and a package of a link.
use Rattle.std.specs.Prelude.{◌≡◌, ℤ, pos, Bool, Contains, not, if◌then◌else◌, ◌||◌, ◌&&◌}
use Rattle.std.specs.List.{list_any}
use Rattle.std.specs.Ordering.{int_eq}
use Rattle.sheet_types.specs.Ordered.{has}
use Rattle.sheet_types.specs.World.{Package, has_item, has_kind, link_key, kind_number, base_kind, other_kind}
use Rattle.sheet_types.specs.World.{all_mappings}
use Rattle.sheet_types.specs.declared.command.Content.{Content}
use Rattle.sheet_types.specs.declared.command.Content.TheVariants.{Tile, Media, Row}
use Rattle.sheet_types.specs.declared.command.Mapping.{Mapping}
use Rattle.sheet_types.specs.declared.command.Relation.{Relation}
use Rattle.package_tables.specs.Package.{Tables}
use Rattle.package_tables.specs.Mappings.{mapping_rows}
use Rattle.identity_register.specs.Numbering.{mapping_is}
use Rattle.identity_register.specs.declared.look_ups.LinkState.{LinkState}
use Rattle.identity_register.specs.declared.look_ups.LinkState.TheVariants.{UnknownEnd, WrongKinds, Absent, There}

-- the table of a mapping names the row of this kind and number, at its base or at its other end
abbrev pub is_named_by : Mapping → ℤ → ℤ → Tables → Bool
is_named_by m kind number t =
    (int_eq (pos (kind_number (base_kind m))) kind && list_any (λ r. int_eq r.base_id number) (mapping_rows m t))
    || (int_eq (pos (kind_number (other_kind m))) kind && list_any (λ r. int_eq r.related_id number)
    (mapping_rows m t))

-- some mapping table does
abbrev pub is_linked_row : ℤ → ℤ → Tables → Bool
is_linked_row kind number t = list_any (λ m. is_named_by m kind number t) all_mappings

-- a mapping relates items of the kind of this number
abbrev pub is_end : Mapping → ℤ → Bool
is_end m kind = int_eq (pos (kind_number (base_kind m))) kind || int_eq (pos (kind_number (other_kind m))) kind

-- these two mappings do, and no others
abbrev pub AreMappingsOf : ℤ → Mapping → Mapping → Type 0
AreMappingsOf kind one another = (m : Mapping) → is_end m kind ≡ (mapping_is m one || mapping_is m another)

-- these numbers tell the kinds that a mapping relates
abbrev pub are_ends : Mapping → ℤ → ℤ → Bool
are_ends m base other = int_eq (pos (kind_number (base_kind m))) base && int_eq (pos (kind_number (other_kind m))) other

-- How a link that is to come in stands in a package: the first of these in the order in which a link is judged, first
-- whether its ends are known, then their kinds, then the link itself. Profile.
abbrev pub link_state : Package → Relation → LinkState
link_state p l =
    if not (has_item p l.base && has_item p l.other) then UnknownEnd
    else if not (has_kind p (base_kind l.mapping) l.base && has_kind p (other_kind l.mapping) l.other) then WrongKinds
    else if has link_key (link_key l) p.links then There
    else Absent

-- the row of this kind and number has this content
abbrev pub IsContentOf : ℤ → ℤ → Tables → Content → Type 0
IsContentOf kind number t (Tile zoom column row bytes) = (kind ≡ pos 1)
    × Contains t.tiles (record {
      id = number;
      zoom_level = zoom;
      tile_column = column;
      tile_row = row;
      tile_data = bytes;
    })
IsContentOf kind number t (Media content_type bytes) = (kind ≡ pos 2)
    × Contains t.media (record { id = number; «data» = bytes; content_type = content_type })
IsContentOf kind number t (Row x y code label) = (kind ≡ pos 3)
    × Contains t.rows (record { id = number; x = x; y = y; code = code; label = label })
