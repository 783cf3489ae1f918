-- What a file holds, of the entries of its list. Profile.
use Rattle.std.specs.Prelude.{◌≡◌, ℕ, ◌-◌, ℤ, Bool, true, false, ◌&&◌, List, [], ◌∷◌, Option}
use Rattle.std.specs.Prelude.{Some, None, map, length}
use Rattle.std.specs.Prelude.{count_by, nat_eq, slice_get, IsPermutation}
use Rattle.std.specs.List.{AllZip, filter_map}
use Rattle.std.specs.Option.{option_map_or}
use Rattle.uuid.specs.Parts.{zero_bytes}
use Rattle.sheet_types.specs.Ordered.{IsArranged}
use Rattle.sheet_types.specs.Texts.{kind_of}
use Rattle.sheet_types.specs.declared.command.Relation.{Relation}
use Rattle.sheet_types.specs.declared.frame.Frame.{Frame}
use Rattle.field_changes.specs.Keys.{number_key}
use Rattle.field_changes.specs.Parts.{IsLinkOf}
use Rattle.field_changes.specs.declared.held.BadRecord.{BadRecord}
use Rattle.field_changes.specs.declared.held.Export.{Export}
use Rattle.field_changes.specs.declared.held.Held.{Held}
use Rattle.field_changes.specs.declared.held.HeldItem.{HeldItem}
use Rattle.field_changes.specs.declared.held.HeldLink.{HeldLink}
use Rattle.field_changes.specs.declared.naming.Named.{Named}
use Rattle.field_lists.specs.declared.entries.Listed.{Listed}
use Rattle.field_lists.specs.declared.entries.Listed.TheVariants.{Exported, System, Framed, Item, Link, Bad, End}
use Rattle.field_faults.specs.Heads.{is_number}

-- ---- entries of one form

abbrev pub export_in : Listed → Option Export
export_in (Exported export) = Some export
export_in entry = None

abbrev pub system_in : Listed → Option ℤ
system_in (System number) = Some number
system_in entry = None

abbrev pub frame_in : Listed → Option Frame
frame_in (Framed frame) = Some frame
frame_in entry = None

abbrev pub item_in : Listed → Option HeldItem
item_in (Item item) = Some item
item_in entry = None

abbrev pub link_in : Listed → Option HeldLink
link_in (Link link) = Some link
link_in entry = None

abbrev pub bad_in : Listed → Option BadRecord
bad_in (Bad bad) = Some bad
bad_in entry = None

-- ---- the list as a whole

abbrev pub is_end : Listed → Bool
is_end (End number) = true
is_end entry = false

-- it is an end that counts so many
abbrev pub ends_after : ℕ → Listed → Bool
ends_after count (End number) = is_number count number
ends_after count entry = false

-- no entry but the last is an end, and that counts those before it
abbrev pub closes : List Listed → Bool
closes entries = option_map_or (λ last. nat_eq (count_by is_end entries) 1 && ends_after (length entries - 1) last)
    (slice_get entries (length entries - 1)) false

-- it is there once at most
abbrev pub IsOnly : {X : Type 0} → List X → Option X → Type 0
IsOnly xs None = xs ≡ []
IsOnly xs (Some x) = xs ≡ x ∷ []

-- a kind and a number
abbrev pub held_key : HeldItem → List ℕ
held_key h = number_key (kind_of h.content) h.number

-- as if each item had a name already
abbrev pub plain : HeldItem → Named
plain h = record { kind = kind_of h.content; number = h.number; identity = zero_bytes; is_new = false }

-- each link leads from an item of the file to another
abbrev pub Lead : List HeldItem → List HeldLink → Type 0
Lead items links = (ends : List Relation) × AllZip (IsLinkOf (map plain items)) links ends

-- the same, where all records could be listed. A record that could not is no item, and a link may lead to it
abbrev pub LeadUnlessBad : List BadRecord → List HeldItem → List HeldLink → Type 0
LeadUnlessBad bad items links = length bad ≡ 0 → Lead items links

-- The entries are a whole list, and this is what the file holds: its items by kind and number, of which each is there
-- once.
pub record IsHeld (entries : List Listed) (h : Held) : Type 0 where
  pub closed : closes entries ≡ true
  pub export : IsOnly (filter_map export_in entries) h.export
  pub system : IsOnly (filter_map system_in entries) h.system
  pub frame : IsOnly (filter_map frame_in entries) h.frame
  pub same_items : IsPermutation (filter_map item_in entries) h.items.items
  pub order : IsArranged held_key h.items.items
  pub links : h.links.items ≡ filter_map link_in entries
  pub bad : h.bad.items ≡ filter_map bad_in entries
  pub lead : LeadUnlessBad (filter_map bad_in entries) (filter_map item_in entries) (filter_map link_in entries)
