-- One item more was made.
use Rattle.std.proofs.Common.{ap, is_ok, sym, subst, []}
use Rattle.std.specs.List.{AllZip}
use Rattle.std.proofs.ResultArms.{chosen}
use Rattle.std.proofs.lemmas.List.{take_all}
use Rattle.views.specs.ByItems.{IsBareOf}
use Rattle.views.proofs.BareItems.{bare_is, zip_more}
use Rattle.views.proofs.by_items.bare_items.Goals as goal

pub loop-moved-init : goal.loop-moved-init
loop-moved-init c = subst (AllZip IsBareOf []) (sym c.new-items.ensures.items) tt

pub loop-moved-preserved : goal.loop-moved-preserved
loop-moved-preserved c =
    zip_more IsBareOf c.args.told.now c.loop-moved.moved-index c.moved-item.result c.loop-moved.items.items
    c.push.new.self.items c.bare_item.result
    c.loop-moved-test.true c.moved-item.is (chosen _ _ _ _ c.push.ensures.items (ap is_ok c.in_ok-push.was))
    c.loop-moved.invariant
    (bare_is c.moved-item.result c.bare_item.result c.bare_item.ensures.identity c.bare_item.ensures.kind)

pub returns : goal.returns
returns c = subst (λ l. AllZip IsBareOf l c.loop-moved.items.items)
    (take_all c.loop-moved.moved-index c.args.told.now c.loop-moved-test.false) c.loop-moved.invariant
