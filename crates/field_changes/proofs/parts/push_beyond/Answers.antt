-- One that has a key is passed over.
use Rattle.std.proofs.Common.{◌≡◌, ◌∙◌, ap, sym, not, cond, is_ok, [], ◌∷◌, ◌++◌}
use Rattle.std.specs.Ordering.{nat_cmp}
use Rattle.std.specs.Cmp.Lexicographic.{slice_cmp}
use Rattle.std.specs.BTreeSet.{contains}
use Rattle.std.proofs.ResultArms.{chosen}
use Rattle.std.proofs.lemmas.List.{append-nil}
use Rattle.sheet_types.specs.World.{link_key}
use Rattle.field_changes.proofs.parts.push_beyond.Goals as goal

pub returns-then-contains : goal.returns-then-contains
returns-then-contains c =
    let there = sym c.if-contains.true ∙ c.contains.ensures ∙ ap (contains (slice_cmp nat_cmp) c.args.keys.now)
    c.of.ensures in
    sym (append-nil c.args.links.now.items) ∙ ap (λ b. c.args.links.now.items
    ++ cond (not b) (c.args.link.now ∷ []) []) there

pub returns : goal.returns
returns c =
    let none = sym c.if-contains.false ∙ c.contains.ensures ∙ ap (contains (slice_cmp nat_cmp) c.args.keys.now)
    c.of.ensures in
    chosen _ _ _ _ c.push.ensures.items (ap is_ok c.in_ok-push.was)
    ∙ ap (λ b. c.args.links.now.items ++ cond (not b) (c.args.link.now ∷ []) []) none
