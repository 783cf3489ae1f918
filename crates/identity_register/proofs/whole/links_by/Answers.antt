-- The links of all mapping tables are those of the package.
use Rattle.std.proofs.Common.{◌≡◌, ◌∙◌, ◌++◌, List, ap, subst, is_ok, IfOk}
use Rattle.std.specs.Prelude.{IsPermutation, flat_map}
use Rattle.std.proofs.ResultArms.{chosen}
use Rattle.store_sql.proofs.Staying.{looks_stays, stays_then}
use Rattle.sheet_types.specs.Ordered.{IsArranged}
use Rattle.sheet_types.specs.World.{link_key, all_mappings}
use Rattle.sheet_types.specs.declared.command.Mapping.{Mapping}
use Rattle.sheet_types.specs.declared.command.Mapping.TheVariants.{TilesMedia, RowsMedia, RowsTiles}
use Rattle.sheet_types.specs.declared.command.Relation.{Relation}
use Rattle.identity_register.specs.Gathered.{AreLinksIn, AreLinksBy}
use Rattle.identity_register.proofs.Looking.{looked, looked_then, fails}
use Rattle.identity_register.proofs.Gathering.{links_are, by_mapping, joined_lists, tells_if}
use Rattle.identity_register.proofs.whole.links_by.Goals as goal

pub returns-in_err-rows_tiles : goal.returns-in_err-rows_tiles
returns-in_err-rows_tiles g c =
    fails c.from_residual-in_err-rows_tiles.result c.from_residual-in_err-rows_tiles.ensures.0
    (stays_then (stays_then (looks_stays c.links_in.ensures) (looks_stays c.links_in-2.ensures))
    (looks_stays c.links_in-3.ensures))

pub returns-in_err-extend_from_slice : goal.returns-in_err-extend_from_slice
returns-in_err-extend_from_slice g c =
    fails c.from_residual-in_err-extend_from_slice.result c.from_residual-in_err-extend_from_slice.ensures.0
    (stays_then (stays_then (looks_stays c.links_in.ensures) (looks_stays c.links_in-2.ensures))
    (looks_stays c.links_in-3.ensures))

pub returns-in_err-extend_from_slice-2 : goal.returns-in_err-extend_from_slice-2
returns-in_err-extend_from_slice-2 g c =
    fails c.from_residual-in_err-extend_from_slice-2.result c.from_residual-in_err-extend_from_slice-2.ensures.0
    (stays_then (stays_then (looks_stays c.links_in.ensures) (looks_stays c.links_in-2.ensures))
    (looks_stays c.links_in-3.ensures))

pub returns : goal.returns
returns g c =
    let rows = c.args.rows.now in
    let tiles_media = c.in_ok-links.links.items in
    let rows_media = c.in_ok-rows_media.rows_media.items in
    let rows_tiles = c.in_ok-rows_tiles.rows_tiles.items in
    let made : Mapping → List Relation = by_mapping tiles_media rows_media rows_tiles in
    let two : c.extend_from_slice.new.self.items ≡ tiles_media ++ rows_media =
    chosen _ _ _ _ c.extend_from_slice.ensures.items (ap is_ok c.in_ok-extend_from_slice.was)
    ∙ ap (λ l. tiles_media ++ l) c.deref.ensures.value in
    let three : c.extend_from_slice-2.new.self.items ≡ flat_map made all_mappings =
    chosen _ _ _ _ c.extend_from_slice-2.ensures.items (ap is_ok c.in_ok-extend_from_slice-2.was)
    ∙ ap (λ l. c.extend_from_slice.new.self.items ++ l) c.deref-2.ensures.value ∙ ap (λ l. l ++ rows_tiles) two
    ∙ joined_lists tiles_media rows_media rows_tiles in
    tells_if (λ t found. AreLinksBy rows t found.items) c.links_in_order.result
    (looked_then (λ t found. AreLinksIn RowsTiles rows t found.items)
    (looked_then (λ t found. AreLinksIn RowsMedia rows t found.items)
    (looked (λ t found. AreLinksIn TilesMedia rows t found.items) c.in_ok-links.was c.links_in.ensures)
    c.in_ok-rows_media.was c.links_in-2.ensures) c.in_ok-rows_tiles.was c.links_in-3.ensures)
    (λ x e t h f p says all. links_are f p t says rows made x.items all
    (λ m. elim m as (λ m. AreLinksIn m rows t (made m)) [
      | TilesMedia ↦ h.0.0
      | RowsMedia ↦ h.0.1
      | RowsTiles
          ↦ h.1
    ])
    (subst (λ l. IsPermutation l x.items) three (subst (λ r. IfOk r
    (λ sorted. IsPermutation c.extend_from_slice-2.new.self.items sorted.items)) e c.links_in_order.ensures.same))
    (subst (λ r. IfOk r (λ sorted. IsArranged link_key sorted.items)) e c.links_in_order.ensures.order))
