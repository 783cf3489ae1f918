-- The place of each thing is what the map has under it.
use Rattle.std.proofs.Common.{◌≡◌, ◌∙◌, sym, ap, subst, rules, is_some, []}
use Rattle.std.specs.List.{AllByRecursion}
use Rattle.std.specs.Option.{option_and_then}
use Rattle.std.specs.Cmp.Lexicographic.{nat_list_cmp_total}
use Rattle.std.specs.Map.Iter.{deref_pair}
use Rattle.std.proofs.lemmas.Map.Iter.{btree_map_turn, rest_all}
use Rattle.sheet_ledger.proofs.Walking.{says_yes, says_no, denied}
use Rattle.sheet_balance.proofs.Kept.{IsFound, found_held}
use Rattle.sheet_balance.proofs.holding.are_all_held.Goals as goal

pub returns-then-not-is_held : goal.returns-then-not-is_held
returns-then-not-is_held c =
    let k = btree_map_turn deref_pair c.loop-thing.yielded c.into_iter-thing-iterator.result
    c.loop-thing.thing-iterator c.next.new.self c.next.result (c.in-Some.thing, c.in-Some.place)
    c.loop-thing.yielded_by c.in-Some.is c.next.ensures.steps nat_list_cmp_total c.args.places.now
    (search rules) (search rules) in
    says_no (λ all. denied c.is_held.result c.is_held.ensures c.if-not-is_held.true
    (λ some. all c.in-Some.thing.now (ap (λ o. is_some (option_and_then (λ p. p) o)) k.1 ∙ some)))

pub returns : goal.returns
returns c =
    let nothing : c.loop-thing.thing-iterator ≡ [] = rest_all deref_pair c.loop-thing.thing-iterator c.next.new.self
    c.next.result c.in-None.is c.next.ensures.steps in
    says_yes (found_held c.args.held.now c.args.places.now.entries
    (c.loop-thing.invariant.2 (subst (AllByRecursion (IsFound c.args.held.now)) (sym nothing) tt)))
