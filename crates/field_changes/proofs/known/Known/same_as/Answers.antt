-- What is found has the same bytes; else all have others.
use Rattle.std.proofs.Common.{◌∙◌, ap, sym, subst, map, rules, List}
use Rattle.std.specs.Borrow.{Bor}
use Rattle.std.specs.List.{list_any}
use Rattle.std.specs.Cmp.Lexicographic.{nat_list_cmp_total}
use Rattle.std.proofs.lemmas.Fn.{always_returns_same}
use Rattle.std.proofs.lemmas.List.Sorted.{searchable_from_sorted}
use Rattle.sheet_types.specs.declared.command.Content.{Content}
use Rattle.field_changes.specs.Keys.{content_key, same_content}
use Rattle.field_changes.specs.Sharing.{AreInOrder, shared_key}
use Rattle.field_changes.proofs.Looking.{found_same, none_same, place_to}
use Rattle.field_changes.proofs.known.Known.same_as.Goals as goal

pub returns-in-Ok-clause-some : goal.returns-in-Ok-clause-some
returns-in-Ok-clause-some c =
    let content = c.args.content.now in
    let found = c.in-Ok.ensures.position (place_to content) (always_returns_same _ _ _ (λ a r g h. search rules)) in
    found_same content c.index-contents-place.result (ap (place_to content) c.index-contents-place.is ∙ found _)

pub returns-in-Err-clause-none : goal.returns-in-Err-clause-none
returns-in-Err-clause-none c =
    let content = c.args.content.now in
    let contents = c.as_slice-contents.result.now in
    let now : List (Bor Content) → List Content = map (λ b. b.now) in
    let sorted = subst AreInOrder (sym c.as_slice-contents.ensures.value) c.self.invariant in
    let apart = c.in-Err.ensures.position (place_to content) (always_returns_same _ _ _ (λ a r g h. search rules))
    (searchable_from_sorted nat_list_cmp_total shared_key contents (content_key content) sorted) in
    ap (list_any (same_content content)) (sym c.self.view_is ∙ ap now (sym c.as_slice-contents.ensures.value))
    ∙ none_same content contents c.in-Err.field-0 apart
