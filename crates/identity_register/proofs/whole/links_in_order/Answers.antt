-- Sorted links whose keys differ are a set, of which it would have been found that they rise.
use Rattle.std.proofs.Common.{true, false, ◌≡◌, ◌∙◌, ℕ, ◌+◌, ◌<◌, List, length, get_or, sym}
use Rattle.std.proofs.Common.{subst, arith, rules}
use Rattle.std.proofs.lemmas.List.Sorted.{answers_always}
use Rattle.sqlite_trees.proofs.ListLemmas.{all-get_or, all-permutation}
use Rattle.sheet_types.specs.Lines.{IsUuid}
use Rattle.sheet_types.specs.Ordered.{IsArranged, is_before}
use Rattle.sheet_types.specs.World.{link_key, link_kind, kind_number}
use Rattle.sheet_types.specs.declared.command.Relation.{Relation}
use Rattle.sheet_types.proofs.LineReading.{uuid_length}
use Rattle.identity_register.proofs.InOrder.{arranged_answer, sorted_set, moved_apart, end_ordered}
use Rattle.identity_register.proofs.whole.links_in_order.Goals as goal

pub returns-then-is_sorted_by-clause-order : goal.returns-then-is_sorted_by-clause-order
returns-then-is_sorted_by-clause-order c =
    let answer = c.if-is_sorted_by.ensures.cases (λ x y. is_before (link_key x) (link_key y))
    (answers_always _ _ _ (λ f a r g h. search rules)) in
    subst (IsArranged link_key) c.deref.ensures.value (arranged_answer link_key c.deref.result.now true answer)

pub returns-else-is_sorted_by-clause-twice : goal.returns-else-is_sorted_by-clause-twice
returns-else-is_sorted_by-clause-twice c = λ uuids apart.
    let key : Relation → ℕ × List ℕ × List ℕ = λ l. (kind_number (link_kind l.mapping), l.base, l.other) in
    let sorted = c.sort_unstable_by_key.ensures.sorted key (answers_always _ _ _ (λ f a r g h. search rules)) in
    let now = c.sort_unstable_by_key.new.self.items in
    let fit = all-permutation (λ l. IsUuid l.base) c.args.links.items now c.sort_unstable_by_key.ensures.permutation
    uuids in
    let long : (k : ℕ) (d : Relation) → k < length now → length (get_or now k d).base ≡ 16 =
    λ k d less. uuid_length (get_or now k d).base (all-get_or (λ l. IsUuid l.base) now k d fit less) in
    let set : IsArranged link_key now = sorted_set link_key now
    (λ k d less. end_ordered (kind_number (link_kind (get_or now (k + 1) d).mapping))
    (kind_number (link_kind (get_or now k d).mapping)) (get_or now (k + 1) d).base (get_or now k d).base
    (get_or now (k + 1) d).other (get_or now k d).other
    (long (k + 1) d less ∙ sym (long k d (omega (arith, less)))) ∙ sorted k d (search rules) less)
    (moved_apart link_key c.args.links.items now c.sort_unstable_by_key.ensures.permutation apart) in
    let answer = c.if-is_sorted_by.ensures.cases (λ x y. is_before (link_key x) (link_key y))
    (answers_always _ _ _ (λ f a r g h. search rules)) in
    arranged_answer link_key c.deref.result.now false answer
    (subst (IsArranged link_key) (sym c.deref.ensures.value) set)
