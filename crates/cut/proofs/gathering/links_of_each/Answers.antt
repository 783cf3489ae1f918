use Rattle.std.proofs.Common.{◌≡◌, ◌∙◌, ◌++◌, ap, take}
use Rattle.std.specs.Prelude.{flat_map}
use Rattle.identity_register.specs.Reach.{links_of}
use Rattle.cut.proofs.Asking.{at_first, asked, asked_then, asked_so, answers, fails, stayed}
use Rattle.cut.proofs.Lists.{flat_more, taken_all}
use Rattle.cut.proofs.gathering.links_of_each.Goals as goal

pub loop-id-init : goal.loop-id-init
loop-id-init g c = at_first (λ p. c.new-links.result.items ≡ flat_map (links_of p) (take 0 c.args.ids.now))
    c.args.reach.now c.requires (λ p. c.new-links.ensures.items)

pub links_of-requires : goal.links_of-requires
links_of-requires g c = c.loop-id.invariant.again

pub returns-in_err-found : goal.returns-in_err-found
returns-in_err-found g c = fails c.from_residual.result c.from_residual.ensures.0
    (asked_then c.loop-id.invariant (stayed c.links_of.ensures))

pub returns-in_err-extend_from_slice : goal.returns-in_err-extend_from_slice
returns-in_err-extend_from_slice g c = fails c.from_residual-in_err-extend_from_slice.result
    c.from_residual-in_err-extend_from_slice.ensures.0 (asked_then c.loop-id.invariant (stayed c.links_of.ensures))

pub loop-id-preserved : goal.loop-id-preserved
loop-id-preserved g c =
    let i = c.loop-id.id-index in
    let id = c.id-item.result in
    asked_so (asked_then c.loop-id.invariant (asked (λ p found. found.items ≡ links_of p id) c.in_ok-found.was
    c.links_of.ensures))
    (λ p both. flat_more (links_of p) c.args.ids.now i id c.loop-id.links.items c.extend_from_slice.new.self.items
    c.loop-id-test.true c.id-item.is both.0
    (c.in_ok-extend_from_slice.ensures.items ∙ ap (λ l. c.loop-id.links.items ++ l)
    (c.deref.ensures.value ∙ both.1)))

pub returns : goal.returns
returns g c = answers c.loop-id.invariant (λ p told. told ∙ ap (flat_map (links_of p))
    (taken_all c.args.ids.now c.loop-id.id-index c.loop-id.auto.id-index-end c.loop-id-test.false))
