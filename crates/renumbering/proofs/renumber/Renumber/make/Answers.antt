use Rattle.std.proofs.Common.{◌≡◌, ◌<◌, ℤ, List, length, Err, rules, arith, ap, subst}
use Rattle.std.specs.Result.{IsErrAnd}
use Rattle.sheet_types.specs.declared.refusal.Refusal.TheVariants.{TooMany}
use Rattle.renumbering.specs.Keys.{AreFree}
use Rattle.renumbering.proofs.Pairs.{made, too_many}
use Rattle.renumbering.proofs.renumber.Renumber.make.Goals as goal

pub returns-in_err-news-clause-too_many : goal.returns-in_err-news-clause-too_many
returns-in_err-news-clause-too_many c is =
    let why : c.in_err-news.field-0.0 ≡ TooMany = search rules in
    let few : (keys : List ℤ) → AreFree c.args.used.now keys → length keys < length c.in-Ok.olds.items =
    λ keys free. let h : length keys < c.len.result = c.in_err-news.ensures.too_many (ap Err why) keys free in omega
    (arith, c.len.ensures) in
    too_many c.args.old.now c.args.used.now c.in-Ok.olds.items c.in-Ok.ensures.order c.in-Ok.ensures.same few

pub returns-clause-made : goal.returns-clause-made
returns-clause-made c =
    made c.args.old.now c.args.used.now c.in-Ok.olds.items c.in_ok-news.news.items c.in-Ok.ensures.order
    c.in-Ok.ensures.same (omega (arith, c.in_ok-news.ensures.count, c.len.ensures)) c.in_ok-news.ensures.free
