-- In the end each store was judged.
use Rattle.std.specs.Prelude.{cond}
use Rattle.std.proofs.Common.{◌≡◌, ◌∙◌, ◌||◌, ◌++◌, ◌∷◌, [], sym, ap, length, vec_len}
use Rattle.std.proofs.Common.{filter, arith}
use Rattle.std.proofs.lemmas.Iterator.Adapters.{YieldsList-from_vec}
use Rattle.std.proofs.lemmas.Iterator.Consumers.{YieldsList-end}
use Rattle.std.proofs.lemmas.List.{append-nil, map-id}
use Rattle.std.proofs.lemmas.List.Elements.{filter-append}
use Rattle.opening_faults.specs.Sights.{is_root}
use Rattle.opening_faults.specs.Splits.{is_lent_in}
use Rattle.opening_faults.specs.declared.sights.Sight.{Sight}
use Rattle.opening_live.proofs.naming.those_named.Goals as goal

pub loop-sight-preserved : goal.loop-sight-preserved
loop-sight-preserved c =
    let t = λ (s : Sight). is_root s || is_lent_in c.args.loans.now s in
    let so_far = c.loop-sight.yielded in
    let s = c.in-Some.sight in
    c.loop-sight.invariant ∙ sym (append-nil (filter t so_far))
    ∙ ap (λ b. filter t so_far ++ cond b (s ∷ []) []) (sym c.if-branch.false ∙ c.in_ok-is_named.ensures)
    ∙ sym (filter-append t so_far (s ∷ []))

pub returns : goal.returns
returns c =
    let gives = c.into_iter-sight-iterator.ensures.into_iter_gives in
    let long : length c.args.sights.items ≡ vec_len c.args.sights = omega (arith, c.args.sights.ok.0) in
    let t = YieldsList-end (YieldsList-from_vec {s = c.into_iter-sight-iterator.result} c.args.sights.items gives.0
    (gives.1 ∙ sym long)) c.loop-sight.yielded c.loop-sight.sight-iterator c.loop-sight.yielded_by _
    c.next.new.self c.in-None.is c.next.ensures.steps in
    c.loop-sight.invariant ∙ ap (filter (λ s. is_root s || is_lent_in c.args.loans.now s))
    (sym (map-id c.loop-sight.yielded) ∙ t.0)
