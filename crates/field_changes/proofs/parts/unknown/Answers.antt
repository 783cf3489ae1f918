-- One item more.
use Rattle.std.proofs.Common.{◌∙◌, ap, not, arith}
use Rattle.std.specs.Prelude.{filter}
use Rattle.std.specs.Ordering.{nat_cmp}
use Rattle.std.specs.Cmp.Lexicographic.{slice_cmp}
use Rattle.std.specs.BTreeSet.{contains}
use Rattle.std.proofs.lemmas.List.{take_all}
use Rattle.sheet_types.specs.Cut.{identities}
use Rattle.sheet_types.specs.declared.command.Item.{Item}
use Rattle.field_changes.proofs.Listing.{mapped_more}
use Rattle.field_changes.proofs.parts.unknown.Goals as goal

pub loop-item-preserved : goal.loop-item-preserved
loop-item-preserved c =
    mapped_more (λ i. i.identity) (λ i. not (contains (slice_cmp nat_cmp) c.args.known.now i.identity))
    c.args.items.now c.loop-item.item-index c.item-item.result c.loop-item.ids.items c.push_gone.new.ids.items
    c.loop-item-test.true c.item-item.is c.loop-item.invariant c.in_ok-push_gone.ensures

pub returns : goal.returns
returns c =
    c.loop-item.invariant ∙ ap (λ l. identities (filter (λ (i : Item). not
    (contains (slice_cmp nat_cmp) c.args.known.now i.identity)) l))
    (take_all c.loop-item.item-index c.args.items.now (omega (arith, c.loop-item-test.false)))
