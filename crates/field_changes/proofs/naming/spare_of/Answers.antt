-- One item more.
use Rattle.std.proofs.Common.{◌≡◌, ◌≤◌, ◌∙◌, sym, ap, subst, take, length, not, [], ◌∷◌, arith}
use Rattle.std.specs.Prelude.{filter}
use Rattle.std.specs.Ordering.{nat_cmp}
use Rattle.std.specs.Cmp.Lexicographic.{slice_cmp}
use Rattle.std.specs.BTreeSet.{contains}
use Rattle.std.proofs.lemmas.List.{take_all}
use Rattle.std.proofs.lemmas.List.Elements.{filter-append}
use Rattle.sheet_types.specs.declared.command.Item.{Item}
use Rattle.field_changes.specs.Keys.{item_mark}
use Rattle.field_changes.specs.Spare.{HoldsSpare}
use Rattle.field_changes.proofs.Sets.{one_more}
use Rattle.field_changes.proofs.Counting.{filtered_few}
use Rattle.field_changes.proofs.naming.spare_of.Goals as goal

pub add_unmarked-requires : goal.add_unmarked-requires
add_unmarked-requires c =
    let test = λ (i : Item). not (contains (slice_cmp nat_cmp) c.args.marked.now (item_mark i)) in
    let few : length (filter test (take c.loop-item.item-index c.args.items.now)) ≤ c.loop-item.item-index =
    filtered_few test c.args.items.now c.loop-item.item-index in
    (filter test (take c.loop-item.item-index c.args.items.now), c.loop-item.invariant, omega (arith, few))

pub returns : goal.returns
returns c =
    let test = λ (i : Item). not (contains (slice_cmp nat_cmp) c.args.marked.now (item_mark i)) in
    subst (λ l. HoldsSpare (filter test l) c.loop-item.spare)
    (take_all c.loop-item.item-index c.args.items.now (omega (arith, c.loop-item-test.false)))
    c.loop-item.invariant

pub loop-item-preserved : goal.loop-item-preserved
loop-item-preserved c =
    let test = λ (i : Item). not (contains (slice_cmp nat_cmp) c.args.marked.now (item_mark i)) in
    let i = c.loop-item.item-index in
    let more = ap (filter test) (one_more c.args.items.now i c.item-item.result c.loop-item-test.true c.item-item.is)
    ∙ filter-append test (take i c.args.items.now) (c.item-item.result ∷ []) in
    subst (λ l. HoldsSpare l c.add_unmarked.new.self) (sym more)
    (c.in_ok-add_unmarked.ensures (filter test (take i c.args.items.now)) c.loop-item.invariant)
