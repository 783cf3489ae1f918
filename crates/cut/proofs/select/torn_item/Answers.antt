-- One torn end after the other.
use Rattle.std.proofs.Common.{◌∙◌, ◌++◌, take, refl, sym, subst, ap}
use Rattle.std.specs.Option.{option_to_list}
use Rattle.cut.specs.Gathering.{IsLeast, torn_ends, torn_end, has_member, lesser}
use Rattle.cut.proofs.Lists.{taken_all}
use Rattle.cut.proofs.Leasts.{least_more, torn_more}
use Rattle.cut.proofs.select.torn_item.Goals as goal

pub loop-link-init : goal.loop-link-init
loop-link-init c = refl

pub loop-link-preserved : goal.loop-link-preserved
loop-link-preserved c =
    let set = has_member c.args.gathered.now.items in
    let links = c.deref-link-items.result.now in
    let l = c.link-item.result in
    let so_far = torn_ends set (take c.loop-link.link-index links) in
    let now : IsLeast (so_far ++ option_to_list (torn_end set l)) c.lesser-least.result =
    subst (IsLeast (so_far ++ option_to_list (torn_end set l)))
    (sym (c.lesser-least.ensures ∙ ap (lesser c.loop-link.least) c.torn_end.ensures))
    (least_more so_far c.loop-link.least (torn_end set l) c.loop-link.invariant) in
    subst (λ ids. IsLeast ids c.lesser-least.result) (torn_more set links c.loop-link.link-index l
    c.loop-link-test.true c.link-item.is) now

pub returns : goal.returns
returns c =
    let set = has_member c.args.gathered.now.items in
    let links = c.deref-link-items.result.now in
    subst (λ l. IsLeast (torn_ends set l) c.loop-link.least)
    (taken_all links c.loop-link.link-index c.loop-link.auto.link-index-end c.loop-link-test.false
    ∙ c.deref-link-items.ensures.value) c.loop-link.invariant
