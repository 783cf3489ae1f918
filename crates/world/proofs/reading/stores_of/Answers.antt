-- The list has room for each, and in the end each was handed on.
use Rattle.std.proofs.Common.{◌≡◌, ◌∙◌, sym, ap, ◌++◌, length, map, vec_len, arith}
use Rattle.std.proofs.lemmas.Iterator.Adapters.{YieldsList-from_vec}
use Rattle.std.proofs.lemmas.Iterator.Consumers.{YieldsList-turn, YieldsList-end}
use Rattle.std.proofs.lemmas.List.{map-id}
use Rattle.world.proofs.reading.stores_of.Goals as goal

pub push_reserved-requires : goal.push_reserved-requires
push_reserved-requires g c =
    let gives = c.into_iter-member-iterator.ensures.into_iter_gives in
    let long : length c.args.members.items ≡ vec_len c.args.members = omega (arith, c.args.members.ok.0) in
    let t = YieldsList-turn (YieldsList-from_vec {s = c.into_iter-member-iterator.result} c.args.members.items gives.0
    (gives.1 ∙ sym long)) c.loop-member.yielded c.loop-member.member-iterator c.loop-member.yielded_by _
    c.next.new.self c.in-Some.member c.in-Some.is c.next.ensures.steps in
    omega (arith, t.0, c.loop-member.invariant.room)

pub returns : goal.returns
returns g c =
    let gives = c.into_iter-member-iterator.ensures.into_iter_gives in
    let long : length c.args.members.items ≡ vec_len c.args.members = omega (arith, c.args.members.ok.0) in
    let t = YieldsList-end (YieldsList-from_vec {s = c.into_iter-member-iterator.result} c.args.members.items gives.0
    (gives.1 ∙ sym long)) c.loop-member.yielded c.loop-member.member-iterator c.loop-member.yielded_by _
    c.next.new.self c.in-None.is c.next.ensures.steps in
    c.loop-member.invariant.listed ∙ ap (λ ms. c.args.stores.items ++ map (λ m. m.conn) ms)
    (sym (map-id c.loop-member.yielded) ∙ t.0)
