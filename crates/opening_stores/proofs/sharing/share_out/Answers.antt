-- The last of the stores that are left is shared out.
use Rattle.std.proofs.Common.{◌≡◌, ◌∷◌, [], ◌++◌, length, sym, ap, ◌∙◌, drop, get_or, suc}
use Rattle.std.proofs.Common.{vec_len, arith}
use Rattle.std.proofs.Math.Seq.{drop-cons}
use Rattle.opening_stores.proofs.SharedOut.{order, below, goes_on, more_long, ends, none_left}
use Rattle.opening_stores.proofs.sharing.share_out.Goals as goal

pub share_one-requires-clause-order : goal.share_one-requires-clause-order
share_one-requires-clause-order g c =
    order c.args.stores.items c.args.kept.now c.loop.rest.items c.pop.new.self.items c.loop.shares c.in-Some.conn
    c.requires.long c.loop.invariant.sharing c.in-Some.ensures.items

pub loop-preserved : goal.loop-preserved
loop-preserved g c =
    let all = c.args.stores.items in
    let kept = c.args.kept.now in
    let fewer = c.pop.new.self.items in
    let k = c.index-kept-len.result in
    let last : c.loop.rest.items ≡ fewer ++ c.in-Some.conn ∷ [] = c.in-Some.ensures.items in
    let same : vec_len c.pop.new.self ≡ length fewer = omega (arith, c.pop.new.self.ok.0) in
    let long : c.len.result ≡ length fewer = c.len.ensures ∙ same in
    let more = more_long all kept c.loop.rest.items fewer c.loop.shares c.in-Some.conn c.requires.long
    c.loop.invariant.sharing last in
    let there : drop (length fewer) kept ≡ k ∷ drop (suc (length fewer)) kept =
    drop-cons kept (length fewer) k (below all kept c.loop.rest.items fewer c.loop.shares c.in-Some.conn
    c.requires.long c.loop.invariant.sharing last)
    ∙ ap (λ x. x ∷ drop (suc (length fewer)) kept) (sym (c.index-kept-len.is
    ∙ ap (λ n. get_or kept n k) long)) in
    record {
      sharing = goes_on all kept c.loop.rest.items fewer c.loop.shares c.in-Some.conn c.requires.long
          c.loop.invariant.sharing last k there c.share_one.new.shares c.share_one.ensures.members
          c.share_one.ensures.strays c.share_one.ensures.room;
      count = omega (arith, more, c.loop.invariant.count);
    }

pub returns : goal.returns
returns g c =
    let whole : vec_len c.args.stores ≡ length c.args.stores.items = omega (arith, c.args.stores.ok.0) in
    let past : length c.loop.rest.items ≡ 0 = omega (
      arith,
      c.loop.invariant.count,
      c.loop-test.false,
      c.len-end.ensures,
      whole,
    ) in
    ends c.args.stores.items c.args.kept.now c.loop.rest.items c.loop.shares c.loop.invariant.sharing
    (none_left c.loop.rest.items past)
