use Rattle.view_export.proofs.Texts.{joined, ok_is}
use Rattle.view_export.proofs.fixed_rows.reference_systems.Goals as goal

pub returns : goal.returns
returns c = ok_is c.format.result _ _ (joined c.undefined_cartesian-cartesian.ensures
    (joined c.undefined_geographic-geographic.ensures (joined c.wgs_84-wgs_84.ensures c.in_ok-own.ensures)))
    c.format.ensures.ok
