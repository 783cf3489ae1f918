-- One link more.
use Rattle.std.proofs.Common.{◌∙◌, ap, not, arith}
use Rattle.std.specs.Prelude.{filter}
use Rattle.std.specs.Ordering.{nat_cmp}
use Rattle.std.specs.Cmp.Lexicographic.{slice_cmp}
use Rattle.std.specs.BTreeSet.{contains}
use Rattle.std.proofs.lemmas.List.{take_all}
use Rattle.sheet_types.specs.World.{link_key}
use Rattle.sheet_types.specs.declared.command.Relation.{Relation}
use Rattle.field_changes.proofs.Listing.{filtered_more}
use Rattle.field_changes.proofs.parts.without_keys.Goals as goal

pub loop-link-preserved : goal.loop-link-preserved
loop-link-preserved c =
    filtered_more (λ k. not (contains (slice_cmp nat_cmp) c.args.keys.now (link_key k))) c.args.links.now
    c.loop-link.link-index c.link-item.result c.loop-link.left.items c.push_beyond.new.links.items
    c.loop-link-test.true c.link-item.is c.loop-link.invariant c.in_ok-push_beyond.ensures

pub returns : goal.returns
returns c =
    c.loop-link.invariant ∙ ap (filter (λ (k : Relation). not
    (contains (slice_cmp nat_cmp) c.args.keys.now (link_key k))))
    (take_all c.loop-link.link-index c.args.links.now (omega (arith, c.loop-link-test.false)))
