-- One row more has its link.
use Rattle.std.proofs.Common.{pos, refl, ap, is_ok, get_or}
use Rattle.std.proofs.ResultArms.{chosen}
use Rattle.package_tables.specs.declared.rows.MappingRow.{MappingRow}
use Rattle.identity_register.specs.Gathered.{IsLinkOf}
use Rattle.identity_register.proofs.Gathering.{zip_more}
use Rattle.identity_register.proofs.whole.links_of.Goals as goal

pub loop-pair-preserved : goal.loop-pair-preserved
loop-pair-preserved c =
    let none : MappingRow = record { base_id = pos 0; related_id = pos 0 } in
    zip_more (IsLinkOf c.args.mapping c.args.rows.now) c.args.pairs.now c.loop-pair.pair-index none
    (get_or c.args.pairs.now c.loop-pair.pair-index none) c.loop-pair.links.items c.push.new.self.items
    c.in_ok-link_of.field-0 c.loop-pair-test.true refl
    (chosen _ _ _ _ c.push.ensures.items (ap is_ok c.in_ok-push.was)) c.loop-pair.invariant c.in_ok-link_of.ensures
