use Rattle.std.proofs.Common.{◌∙◌, ◌∷◌, [], ◌++◌, ap, append_assoc}
use Rattle.std.specs.Prelude.{flat_map}
use Rattle.cut.specs.Gathering.{ends_of}
use Rattle.cut.proofs.Lists.{flat_more, taken_all}
use Rattle.cut.proofs.gathering.ends_of.Goals as goal

pub loop-link-init : goal.loop-link-init
loop-link-init c = c.new-ends.ensures.items

pub loop-link-preserved : goal.loop-link-preserved
loop-link-preserved c =
    let l = c.link-item.result in
    flat_more ends_of c.args.links.now c.loop-link.link-index l c.loop-link.ends.items
    c.push-in-loop-link.new.self.items c.loop-link-test.true c.link-item.is c.loop-link.invariant
    (c.in_ok-push-2.ensures.items ∙ ap (λ xs. xs ++ l.other ∷ []) c.in_ok-push.ensures.items
    ∙ append_assoc c.loop-link.ends.items (l.base ∷ []) (l.other ∷ []))

pub returns : goal.returns
returns c = c.loop-link.invariant ∙ ap (flat_map ends_of) (taken_all c.args.links.now c.loop-link.link-index
    c.loop-link.auto.link-index-end c.loop-link-test.false)
