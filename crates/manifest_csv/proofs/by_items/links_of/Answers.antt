-- One link more was told of.
use Rattle.std.proofs.Common.{ap, is_ok, sym, subst, []}
use Rattle.std.proofs.lemmas.List.{take_all}
use Rattle.std.specs.List.{AllZip}
use Rattle.std.proofs.ResultArms.{chosen}
use Rattle.manifest_csv.specs.ByItems.{IsLinkTold}
use Rattle.manifest_csv.proofs.ItemFacts.{zip_more}
use Rattle.manifest_csv.proofs.by_items.links_of.Goals as goal

pub loop-moved-init : goal.loop-moved-init
loop-moved-init c = subst (AllZip IsLinkTold []) (sym c.new-links.ensures.items) tt

pub loop-moved-preserved : goal.loop-moved-preserved
loop-moved-preserved c =
    zip_more IsLinkTold c.args.told.now c.loop-moved.moved-index c.moved-item.result c.loop-moved.links.items
    c.push.new.self.items _ c.loop-moved-test.true c.moved-item.is
    (chosen _ _ _ _ c.push.ensures.items (ap is_ok c.in_ok-push.was)) c.loop-moved.invariant c.in_ok-link_of.ensures

pub returns : goal.returns
returns c = subst (λ l. AllZip IsLinkTold l c.loop-moved.links.items)
    (take_all c.loop-moved.moved-index c.args.told.now c.loop-moved-test.false) c.loop-moved.invariant
