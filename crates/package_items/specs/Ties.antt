-- The ties of tables by keys: the kind and number of each identity and of each row.
use Rattle.std.specs.Prelude.{◌≡◌, ℤ, pos, Bool, true, ◌&&◌, List, ◌++◌, map, IsPermutation}
use Rattle.std.specs.List.{AllByRecursion, list_any}
use Rattle.std.specs.Ordering.{ordering_then, int_cmp, eq_by_cmp}
use Rattle.std.specs.declared.cmp.Ordering.{Ordering}
use Rattle.sheet_types.specs.World.{kind_number, base_kind, other_kind}
use Rattle.sheet_types.specs.declared.command.Mapping.{Mapping}
use Rattle.sheet_types.specs.declared.command.Mapping.TheVariants.{TilesMedia, RowsMedia, RowsTiles}
use Rattle.package_tables.specs.Mappings.{mapping_rows}
use Rattle.package_tables.specs.Package.{Tables}
use Rattle.package_tables.specs.declared.rows.IdentityRow.{IdentityRow}
use Rattle.package_tables.specs.declared.rows.MappingRow.{MappingRow}
use Rattle.identity_register.specs.Numbering.{is_taken}
use Rattle.package_items.specs.declared.tied.TieKeys.{TieKeys}

-- the order of a kind and a number
abbrev pub key_cmp : ℤ × ℤ → ℤ × ℤ → Ordering
key_cmp a b = ordering_then (int_cmp a.0 b.0) (int_cmp a.1 b.1)

abbrev pub has_key : List (ℤ × ℤ) → ℤ × ℤ → Bool
has_key keys key = list_any (λ k. eq_by_cmp key_cmp k key) keys

abbrev pub name_key : IdentityRow → ℤ × ℤ
name_key r = (r.kind, r.local_id)

-- the keys of the rows of the three user tables
abbrev pub row_keys : Tables → List (ℤ × ℤ)
row_keys t = map (λ r. (pos 1, r.id)) t.tiles ++ map (λ r. (pos 2, r.id)) t.media ++ map (λ r. (pos 3, r.id)) t.rows

-- each key and each mapping row of the tables as often as it is there, in any order
pub record AreKeysOf (t : Tables) (keys : TieKeys) : Type 0 where
  pub names : IsPermutation (map name_key t.identities) keys.names.items
  pub rows : IsPermutation (row_keys t) keys.rows.items
  pub tiles_media : IsPermutation t.tiles_media keys.tiles_media.items
  pub rows_media : IsPermutation t.rows_media keys.rows_media.items
  pub rows_tiles : IsPermutation t.rows_tiles keys.rows_tiles.items

-- both numbers of a mapping row are among these, each with the kind that the mapping relates
abbrev pub has_names : List (ℤ × ℤ) → Mapping → MappingRow → Bool
has_names names m r = has_key names (pos (kind_number (base_kind m)), r.base_id) && has_key names
    (pos (kind_number (other_kind m)), r.related_id)

-- ---- the same of tables

-- each row of the user tables has an identity
pub record RowsHaveIdentities (t : Tables) : Type 0 where
  pub tiles : AllByRecursion (λ r. is_taken (pos 1) r.id t ≡ true) t.tiles
  pub media : AllByRecursion (λ r. is_taken (pos 2) r.id t ≡ true) t.media
  pub rows : AllByRecursion (λ r. is_taken (pos 3) r.id t ≡ true) t.rows

-- both numbers of a mapping row have identities, each of the kind that the mapping relates
abbrev pub has_identities : Mapping → Tables → MappingRow → Bool
has_identities m t r = is_taken (pos (kind_number (base_kind m))) r.base_id t && is_taken
    (pos (kind_number (other_kind m))) r.related_id t

abbrev pub PairsHaveIdentities : Mapping → Tables → Type 0
PairsHaveIdentities m t = AllByRecursion (λ r. has_identities m t r ≡ true) (mapping_rows m t)

pub record AllPairsHaveIdentities (t : Tables) : Type 0 where
  pub tiles_media : PairsHaveIdentities TilesMedia t
  pub rows_media : PairsHaveIdentities RowsMedia t
  pub rows_tiles : PairsHaveIdentities RowsTiles t
