use Rattle.std.proofs.Common.{◌∙◌, Bool, ap, sym}
use Rattle.std.specs.Prelude.{◌&&◌}
use Rattle.sheet_types.specs.declared.command.Relation.{Relation}
use Rattle.cut.specs.Gathering.{media_at, has_member, leads_to_media}
use Rattle.cut.proofs.Lists.{taken_all, filter_taken, filter_left}
use Rattle.cut.proofs.gathering.media_of.Goals as goal
use Rattle.cut.proofs.gathering.media_of.Goals.{then-brings_medium+in_ok-push, else-brings_medium}

pub loop-link-init : goal.loop-link-init
loop-link-init c = c.new-media.ensures.items

pub loop-link-preserved : goal.loop-link-preserved
loop-link-preserved c =
    let test : Relation → Bool = λ l. leads_to_media l && has_member c.args.group.now l.base in
    elim c.if-brings_medium.branch [
      | then-brings_medium+in_ok-push w ↦ filter_taken test (λ l. l.other) c.args.links.now c.loop-link.link-index
          c.link-item.result c.loop-link.media.items c.if-brings_medium.media.items c.loop-link-test.true
          c.link-item.is c.loop-link.invariant (ap (λ v. v.items) w.media-is ∙ w.in_ok-push.ensures.items)
          (sym c.brings_medium.ensures ∙ w.if-brings_medium.true)
      | else-brings_medium w ↦ ap (λ v. v.items) w.media-is ∙ filter_left test (λ l. l.other) c.args.links.now
          c.loop-link.link-index c.link-item.result c.loop-link.media.items c.loop-link-test.true c.link-item.is
          c.loop-link.invariant (sym c.brings_medium.ensures ∙ w.if-brings_medium.false)
    ]

pub returns : goal.returns
returns c = c.loop-link.invariant ∙ ap (media_at (has_member c.args.group.now))
    (taken_all c.args.links.now c.loop-link.link-index c.loop-link.auto.link-index-end c.loop-link-test.false)
