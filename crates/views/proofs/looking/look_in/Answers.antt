-- The stores that are handed on are those of the world as it was left.
use Rattle.std.proofs.Common.{refl}
use Rattle.views.proofs.looking.look_in.Goals as goal

pub returns-in-Get : goal.returns-in-Get
returns-in-Get g c =
    rw c.in-Get.is
    (c.get_in-ending.new.world, c.into_stores.ensures, c.get_in-ending.ensures)

pub returns-in-Receipt : goal.returns-in-Receipt
returns-in-Receipt g c =
    rw c.in-Receipt.is
    (c.receipt_in-ending.new.world, c.into_stores-in-Receipt.ensures, c.receipt_in-ending.ensures)

pub returns-in-Manifest : goal.returns-in-Manifest
returns-in-Manifest g c =
    rw c.in-Manifest.is (
      c.manifest_in-told.new.world,
      c.manifest_in-told.result,
      c.into_stores-in-Manifest.ensures,
      refl,
      c.manifest_in-told.ensures,
    )

pub returns-in-Export : goal.returns-in-Export
returns-in-Export g c =
    rw c.in-Export.is (
      c.export_in-told.new.world,
      c.export_in-told.result,
      c.into_stores-in-Export.ensures,
      refl,
      c.export_in-told.ensures,
    )

pub returns-in-Map : goal.returns-in-Map
returns-in-Map g c =
    rw c.in-Map.is (c.map_in-ending.new.world, c.into_stores-in-Map.ensures, c.map_in-ending.ensures)

pub returns-in-Audit : goal.returns-in-Audit
returns-in-Audit g c =
    rw c.in-Audit.is
    (c.audit_in-told.result, c.into_stores-in-Audit.ensures, refl, c.audit_in-told.ensures)
