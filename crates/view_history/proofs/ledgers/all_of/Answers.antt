-- In the end each list was put behind the others.
use Rattle.std.proofs.Common.{◌≡◌, ◌∙◌, ◌++◌, ◌∷◌, [], sym, ap, is_ok, length, vec_len, arith}
use Rattle.std.specs.Prelude.{flat_map}
use Rattle.std.proofs.ResultArms.{chosen}
use Rattle.std.proofs.lemmas.Iterator.Adapters.{YieldsList-from_vec}
use Rattle.std.proofs.lemmas.Iterator.Consumers.{YieldsList-end}
use Rattle.std.proofs.lemmas.List.{map-id}
use Rattle.view_history.proofs.WholeLedgers.{flat_snoc}
use Rattle.view_history.proofs.ledgers.all_of.Goals as goal

pub loop-list-preserved : goal.loop-list-preserved
loop-list-preserved c =
    chosen _ _ _ _ c.append.ensures.items (ap is_ok c.in_ok-append.was)
    ∙ ap (λ rs. rs ++ c.in-Some.list.items) c.loop-list.invariant
    ∙ sym (flat_snoc (λ list. list.items) c.loop-list.yielded c.in-Some.list)

pub returns : goal.returns
returns c =
    let gives = c.into_iter-list-iterator.ensures.into_iter_gives in
    let long : length c.args.lists.items ≡ vec_len c.args.lists = omega (arith, c.args.lists.ok.0) in
    let t = YieldsList-end (YieldsList-from_vec {s = c.into_iter-list-iterator.result} c.args.lists.items gives.0
    (gives.1 ∙ sym long)) c.loop-list.yielded c.loop-list.list-iterator c.loop-list.yielded_by _
    c.next.new.self c.in-None.is c.next.ensures.steps in
    c.loop-list.invariant ∙ ap (flat_map (λ list. list.items)) (sym (map-id c.loop-list.yielded) ∙ t.0)
