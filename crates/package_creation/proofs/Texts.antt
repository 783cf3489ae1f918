-- The texts of a package's schema, run in turn.
use Rattle.std.proofs.Common.{ℕ, List, [], ◌∷◌, refl}
use Rattle.store_sql.specs.Blank.{no_schema}
use Rattle.package_tables.specs.SchemaMaking.{ExtendsBy}
use Rattle.package_tables.specs.SchemaMade.{first_made, package_schema}
use Rattle.package_creation.proofs.Texts.GpkgSpatialRefSys.{text as GpkgSpatialRefSys_text}
use Rattle.package_creation.proofs.Texts.GpkgSpatialRefSys.{step as GpkgSpatialRefSys_step}
use Rattle.package_creation.proofs.Texts.GpkgContents.{text as GpkgContents_text, step as GpkgContents_step}
use Rattle.package_creation.proofs.Texts.GpkgTileMatrixSet.{text as GpkgTileMatrixSet_text}
use Rattle.package_creation.proofs.Texts.GpkgTileMatrixSet.{step as GpkgTileMatrixSet_step}
use Rattle.package_creation.proofs.Texts.GpkgTileMatrix.{text as GpkgTileMatrix_text, step as GpkgTileMatrix_step}
use Rattle.package_creation.proofs.Texts.GpkgextRelations.{text as GpkgextRelations_text, step as GpkgextRelations_step}
use Rattle.package_creation.proofs.Texts.SheetTiles.{text as SheetTiles_text, step as SheetTiles_step}
use Rattle.package_creation.proofs.Texts.SheetMedia.{text as SheetMedia_text, step as SheetMedia_step}
use Rattle.package_creation.proofs.Texts.SheetRows.{text as SheetRows_text, step as SheetRows_step}
use Rattle.package_creation.proofs.Texts.TilesMedia.{text as TilesMedia_text, step as TilesMedia_step}
use Rattle.package_creation.proofs.Texts.RowsMedia.{text as RowsMedia_text, step as RowsMedia_step}
use Rattle.package_creation.proofs.Texts.RowsTiles.{text as RowsTiles_text, step as RowsTiles_step}
use Rattle.package_creation.proofs.Texts.SheetPackage.{text as SheetPackage_text, step as SheetPackage_step}
use Rattle.package_creation.proofs.Texts.SheetIdentity.{text as SheetIdentity_text, step as SheetIdentity_step}
use Rattle.package_creation.proofs.Texts.SheetReceipts.{text as SheetReceipts_text, step as SheetReceipts_step}
use Rattle.package_creation.proofs.Texts.SheetItems.{text as SheetItems_text, step as SheetItems_step}
use Rattle.package_creation.proofs.Texts.IndexItemsByBase.{text as IndexItemsByBase_text, step as IndexItemsByBase_step}
use Rattle.package_creation.proofs.Texts.IndexReceiptsByTarget.{text as IndexReceiptsByTarget_text}
use Rattle.package_creation.proofs.Texts.IndexReceiptsByTarget.{step as IndexReceiptsByTarget_step}
use Rattle.package_creation.proofs.Texts.IndexByTilesMedia.{text as IndexByTilesMedia_text}
use Rattle.package_creation.proofs.Texts.IndexByTilesMedia.{step as IndexByTilesMedia_step}
use Rattle.package_creation.proofs.Texts.IndexByRowsMedia.{text as IndexByRowsMedia_text, step as IndexByRowsMedia_step}
use Rattle.package_creation.proofs.Texts.IndexByRowsTiles.{text as IndexByRowsTiles_text, step as IndexByRowsTiles_step}
use Rattle.package_creation.proofs.Texts.IndexByXy.{text as IndexByXy_text, step as IndexByXy_step}
pub mod GpkgSpatialRefSys
pub mod GpkgContents
pub mod GpkgTileMatrixSet
pub mod GpkgTileMatrix
pub mod GpkgextRelations
pub mod SheetTiles
pub mod SheetMedia
pub mod SheetRows
pub mod TilesMedia
pub mod RowsMedia
pub mod RowsTiles
pub mod SheetPackage
pub mod SheetIdentity
pub mod SheetReceipts
pub mod SheetItems
pub mod IndexItemsByBase
pub mod IndexReceiptsByTarget
pub mod IndexByTilesMedia
pub mod IndexByRowsMedia
pub mod IndexByRowsTiles
pub mod IndexByXy

abbrev pub texts : List (List ℕ)
texts = GpkgSpatialRefSys_text ∷ GpkgContents_text ∷ GpkgTileMatrixSet_text ∷ GpkgTileMatrix_text
    ∷ GpkgextRelations_text ∷ SheetTiles_text ∷ SheetMedia_text ∷ SheetRows_text ∷ TilesMedia_text
    ∷ RowsMedia_text
    ∷ RowsTiles_text ∷ SheetPackage_text ∷ SheetIdentity_text ∷ SheetReceipts_text ∷ SheetItems_text
    ∷ IndexItemsByBase_text ∷ IndexReceiptsByTarget_text ∷ IndexByTilesMedia_text ∷ IndexByRowsMedia_text
    ∷ IndexByRowsTiles_text ∷ IndexByXy_text ∷ []

pub plan : ExtendsBy texts no_schema package_schema
plan = (
  first_made 1 0,
  GpkgSpatialRefSys_step,
  (
    first_made 2 0,
    GpkgContents_step,
    (
      first_made 3 0,
      GpkgTileMatrixSet_step,
      (
        first_made 4 0,
        GpkgTileMatrix_step,
        (
          first_made 5 0,
          GpkgextRelations_step,
          (
            first_made 7 0,
            SheetTiles_step,
            (
              first_made 8 0,
              SheetMedia_step,
              (
                first_made 9 0,
                SheetRows_step,
                (
                  first_made 10 0,
                  TilesMedia_step,
                  (
                    first_made 11 0,
                    RowsMedia_step,
                    (
                      first_made 12 0,
                      RowsTiles_step,
                      (
                        first_made 13 0,
                        SheetPackage_step,
                        (
                          first_made 14 0,
                          SheetIdentity_step,
                          (
                            first_made 15 0,
                            SheetReceipts_step,
                            (
                              first_made 16 0,
                              SheetItems_step,
                              (
                                first_made 16 1,
                                IndexItemsByBase_step,
                                (
                                  first_made 16 2,
                                  IndexReceiptsByTarget_step,
                                  (
                                    first_made 16 3,
                                    IndexByTilesMedia_step,
                                    (
                                      first_made 16 4,
                                      IndexByRowsMedia_step,
                                      (
                                        first_made 16 5,
                                        IndexByRowsTiles_step,
                                        (
                                          first_made 16 6,
                                          IndexByXy_step,
                                          refl,
                                        ),
                                      ),
                                    ),
                                  ),
                                ),
                              ),
                            ),
                          ),
                        ),
                      ),
                    ),
                  ),
                ),
              ),
            ),
          ),
        ),
      ),
    ),
  ),
)
