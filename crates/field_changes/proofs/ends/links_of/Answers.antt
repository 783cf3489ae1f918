-- One link more, or one that leads nowhere.
use Rattle.std.proofs.Common.{sym, ap, ◌∙◌, refl, is_ok, []}
use Rattle.std.proofs.ResultArms.{chosen}
use Rattle.sheet_types.proofs.Basics.{None≢Some}
use Rattle.sheet_types.specs.declared.command.Mapping.TheVariants.{TilesMedia}
use Rattle.field_changes.specs.Parts.{IsLinkOf}
use Rattle.field_changes.proofs.Listing.{zip_more, all_at}
use Rattle.field_changes.proofs.ends.links_of.Goals as goal

pub returns-in_default-clause-none : goal.returns-in_default-clause-none
returns-in_default-clause-none c = λ relations all.
    None≢Some (c.in_default.ensures c.args.names.now c.in_ok-ends.ensures
    ∙ all_at (IsLinkOf c.args.names.now) c.args.links.now relations c.loop-link.link-index _
    (record { mapping = TilesMedia; base = []; other = [] }) all c.loop-link-test.true)

pub loop-link-preserved : goal.loop-link-preserved
loop-link-preserved c =
    zip_more (IsLinkOf c.args.names.now) c.args.links.now c.loop-link.link-index _ _ c.loop-link.relations.items
    c.push.new.self.items c.in-Some.relation c.loop-link-test.true refl
    (chosen _ _ _ _ c.push.ensures.items (ap is_ok c.in_ok-push.was)) c.loop-link.invariant
    (sym (c.in-Some.ensures c.args.names.now c.in_ok-ends.ensures))
