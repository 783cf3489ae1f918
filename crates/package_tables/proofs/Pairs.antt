-- The facts of the statements on a mapping's table, whichever it is.
use Rattle.std.proofs.Common.{◌≡◌, ℕ, ℤ, List, [], ◌∷◌, Bool, true, refl}
use Rattle.std.specs.Prelude.{◌&&◌}
use Rattle.std.specs.Ordering.{int_eq, int_cmp, on, then_cmp}
use Rattle.sqlite.specs.Order.{Row, column}
use Rattle.sqlite.specs.Edit.{next_rowid}
use Rattle.sqlite.specs.declared.types.Value.TheVariants.{Int}
use Rattle.store_sql.specs.Reading.{equals, both, is_same, passes}
use Rattle.store_sql.specs.Spelling.{Spelling, spelled}
use Rattle.store_sql.proofs.Insert.{IsInsert, IsRow}
use Rattle.store_sql.proofs.Delete.{IsDelete, IsPlannedDelete}
use Rattle.sheet_types.specs.declared.command.Mapping.{Mapping}
use Rattle.sheet_types.specs.declared.command.Mapping.TheVariants.{TilesMedia, RowsMedia, RowsTiles}
use Rattle.package_tables.specs.Listed.{pairs}
use Rattle.package_tables.specs.Mappings.{mapping_table, pair_shape, insert_text, delete_text, of_ends_text}
use Rattle.package_tables.specs.Mappings.{of_base_text, of_related_text, all_text}
use Rattle.package_tables.specs.Shown.{mapping_shown}
use Rattle.package_tables.specs.declared.rows.MappingRow.{MappingRow}
use Rattle.package_tables.proofs.Looking.{IsKnown, IsLookUp, IsRanked}
use Rattle.package_tables.proofs.TilesMediaStatements as tiles_media
use Rattle.package_tables.proofs.RowsMediaStatements as rows_media
use Rattle.package_tables.proofs.RowsTilesStatements as rows_tiles

-- ---- writes

pub inserts : (m : Mapping) (spelling : Spelling) → IsInsert (insert_text m) (spelled (mapping_table m) spelling)
inserts TilesMedia = tiles_media.insert_text
inserts RowsMedia = rows_media.insert_text
inserts RowsTiles = rows_tiles.insert_text

pub inserts_row : (m : Mapping) (row : MappingRow) (spelling : Spelling) (there : List Row)
    → IsRow (spelled (mapping_table m) spelling) (Int row.base_id ∷ Int row.related_id ∷ []) there
    ((pair_shape m).stored (Int (next_rowid there)) row)
inserts_row TilesMedia = tiles_media.insert_row
inserts_row RowsMedia = rows_media.insert_row
inserts_row RowsTiles = rows_tiles.insert_row

pub deletes : (m : Mapping) (spelling : Spelling) → IsDelete (delete_text m) (spelled (mapping_table m) spelling)
    (both (equals 0 0) (equals 1 1))
deletes TilesMedia = tiles_media.delete_text
deletes RowsMedia = rows_media.delete_text
deletes RowsTiles = rows_tiles.delete_text

pub deletes_planned : (m : Mapping) (spelling : Spelling) → IsPlannedDelete (spelled (mapping_table m) spelling)
    (both (equals 0 0) (equals 1 1))
deletes_planned TilesMedia = tiles_media.delete_plan
deletes_planned RowsMedia = rows_media.delete_plan
deletes_planned RowsTiles = rows_tiles.delete_plan

-- the rows that the DELETE tests for are those of the two numbers
pub deletes_rows : (m : Mapping) (base_id related_id : ℤ) (spelling : Spelling)
    → ◌≡◌ {A = Row → Bool} (λ r. passes (spelled (mapping_table m) spelling)
    (both (equals 0 0) (equals 1 1)) (Int base_id ∷ Int related_id ∷ []) r)
    (λ r. is_same (column r 1) (Int base_id) && is_same (column r 2) (Int related_id))
deletes_rows TilesMedia base_id related_id spelling = refl
deletes_rows RowsMedia base_id related_id spelling = refl
deletes_rows RowsTiles base_id related_id spelling = refl

-- ---- look-ups

pub known : (m : Mapping) → IsKnown (pairs m) mapping_shown
known TilesMedia = tiles_media.known
known RowsMedia = rows_media.known
known RowsTiles = rows_tiles.known

pub of_ends : (m : Mapping) (base_id related_id : ℤ) → IsLookUp (pair_shape m) mapping_shown (of_ends_text m)
    (Int base_id ∷ Int related_id ∷ []) (λ x. int_eq x.base_id base_id && int_eq x.related_id related_id)
of_ends TilesMedia = tiles_media.of_ends
of_ends RowsMedia = rows_media.of_ends
of_ends RowsTiles = rows_tiles.of_ends

pub of_base : (m : Mapping) (base_id : ℤ) → IsLookUp (pair_shape m) mapping_shown (of_base_text m)
    (Int base_id ∷ []) (λ x. int_eq x.base_id base_id)
of_base TilesMedia = tiles_media.of_base
of_base RowsMedia = rows_media.of_base
of_base RowsTiles = rows_tiles.of_base

pub of_related : (m : Mapping) (related_id : ℤ) → IsLookUp (pair_shape m) mapping_shown (of_related_text m)
    (Int related_id ∷ []) (λ x. int_eq x.related_id related_id)
of_related TilesMedia = tiles_media.of_related
of_related RowsMedia = rows_media.of_related
of_related RowsTiles = rows_tiles.of_related

pub all : (m : Mapping) → IsLookUp (pair_shape m) mapping_shown (all_text m) [] (λ x. true)
all TilesMedia = tiles_media.all
all RowsMedia = rows_media.all
all RowsTiles = rows_tiles.all

pub all_ranked : (m : Mapping) → IsRanked (all m) (then_cmp (on (λ x. x.base_id) int_cmp)
    (on (λ x. x.related_id) int_cmp))
unfolding all
all_ranked TilesMedia = tiles_media.all_ranked
all_ranked RowsMedia = rows_media.all_ranked
all_ranked RowsTiles = rows_tiles.all_ranked
