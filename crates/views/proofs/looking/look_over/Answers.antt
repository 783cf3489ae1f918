-- What each look says of the world that it was of.
use Rattle.std.proofs.Common.{refl}
use Rattle.views.proofs.looking.look_over.Goals as goal

pub returns-in-Status : goal.returns-in-Status
returns-in-Status g c = rw c.in-Status.is c.tell_status.ensures

pub returns-in-Log : goal.returns-in-Log
returns-in-Log g c = rw c.in-Log.is c.tell_log.ensures

pub returns-in-Get : goal.returns-in-Get
returns-in-Get g c = rw c.in-Get.is c.get_in.ensures

pub returns-in-Explain : goal.returns-in-Explain
returns-in-Explain g c = rw c.in-Explain.is c.tell_way.ensures

pub returns-in-Receipt : goal.returns-in-Receipt
returns-in-Receipt g c = rw c.in-Receipt.is c.receipt_in.ensures

pub returns-in-Manifest : goal.returns-in-Manifest
returns-in-Manifest g c = rw c.in-Manifest.is (c.manifest_in.result, refl, c.manifest_in.ensures)

pub returns-in-Export : goal.returns-in-Export
returns-in-Export g c = rw c.in-Export.is (c.export_in.result, refl, c.export_in.ensures)

pub returns-in-Map : goal.returns-in-Map
returns-in-Map g c = rw c.in-Map.is c.map_in.ensures

pub returns-in-Audit : goal.returns-in-Audit
returns-in-Audit g c = rw c.in-Audit.is (c.audit_in.result, refl, refl, c.audit_in.ensures)
