-- One that has a mark is passed over.
use Rattle.std.proofs.Common.{sym, subst, ◌∙◌, ap, not, cond, true, false, [], ◌∷◌, ◌++◌}
use Rattle.std.specs.Ordering.{nat_cmp}
use Rattle.std.specs.Cmp.Lexicographic.{slice_cmp}
use Rattle.std.specs.BTreeSet.{contains}
use Rattle.std.proofs.lemmas.List.{append-nil}
use Rattle.field_changes.specs.Keys.{item_mark}
use Rattle.field_changes.specs.Spare.{HoldsSpare}
use Rattle.field_changes.proofs.naming.Spare.add_unmarked.Goals as goal

pub add-requires : goal.add-requires
add-requires c = c.requires

pub returns-then-contains : goal.returns-then-contains
returns-then-contains c = λ left holds.
    let there = sym c.if-contains.true ∙ c.contains.ensures ∙ ap (contains (slice_cmp nat_cmp) c.args.marked.now)
    c.of_item.ensures in
    subst (λ b. HoldsSpare (left ++ cond (not b) (c.args.item.now ∷ []) []) c.args.self.now) there
    (subst (λ l. HoldsSpare l c.args.self.now) (sym (append-nil left)) holds)

pub returns : goal.returns
returns c = λ left holds.
    let none = sym c.if-contains.false ∙ c.contains.ensures ∙ ap (contains (slice_cmp nat_cmp) c.args.marked.now)
    c.of_item.ensures in
    subst (λ b. HoldsSpare (left ++ cond (not b) (c.args.item.now ∷ []) []) c.add.new.self) none
    (c.in_ok-add.ensures left holds)
