-- The flow of each package is what the map has under it.
use Rattle.std.proofs.Common.{◌≡◌, ◌∙◌, sym, ap, subst, rules, unwrap_or, []}
use Rattle.std.specs.List.{AllByRecursion}
use Rattle.std.specs.Cmp.Lexicographic.{nat_list_cmp_total}
use Rattle.std.specs.Map.Iter.{deref_pair}
use Rattle.std.proofs.lemmas.Map.Iter.{btree_map_turn, rest_all}
use Rattle.sheet_ledger.specs.Flows.{no_flow}
use Rattle.sheet_ledger.proofs.Walking.{says_yes, says_no, denied}
use Rattle.sheet_balance.proofs.Leaving.{HasLeft, found_left}
use Rattle.sheet_balance.proofs.sums.all_left.Goals as goal

pub returns-then-not-has_left : goal.returns-then-not-has_left
returns-then-not-has_left c =
    let k = btree_map_turn deref_pair c.loop-package.yielded c.into_iter-package-iterator.result
    c.loop-package.package-iterator c.next.new.self c.next.result (c.in-Some.package, c.in-Some.flow)
    c.loop-package.yielded_by c.in-Some.is c.next.ensures.steps nat_list_cmp_total c.args.flows.now
    (search rules) (search rules) in
    says_no (λ all. denied c.has_left.result c.has_left.ensures c.if-not-has_left.true
    (λ away. ap (λ o. (unwrap_or o no_flow).came) (sym k.1) ∙ all c.in-Some.package.now away
    ∙ ap (λ o. (unwrap_or o no_flow).left) k.1))

pub returns : goal.returns
returns c =
    let nothing : c.loop-package.package-iterator ≡ [] = rest_all deref_pair c.loop-package.package-iterator
    c.next.new.self c.next.result c.in-None.is c.next.ensures.steps in
    says_yes (found_left c.args.uuids.now c.args.flows.now.entries
    (c.loop-package.invariant.2 (subst (AllByRecursion (HasLeft c.args.uuids.now)) (sym nothing) tt)))
