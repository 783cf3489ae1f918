use Rattle.package_schema.proofs.Levelling.{one_set}
use Rattle.package_schema.proofs.frame_rows.are_sets.Goals as goal

pub returns : goal.returns
returns c = one_set c.args.rows.now c.index-rows-0.result _ c.is_set.result c.if-rows-ne1.false c.index-rows-0.is
    c.is_set.ensures
