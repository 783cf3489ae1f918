-- One store more.
use Rattle.std.proofs.Common.{◌≡◌, ◌∙◌, ap, ◌++◌, [], cond, ◌+◌, ◌<◌, length, take, arith}
use Rattle.sheet_ledger.proofs.Walking.{one_more}
use Rattle.opening_faults.specs.Merges.{is_open_by}
use Rattle.opening_faults.specs.Splits.{splits_in}
use Rattle.opening_faults.specs.Standings.{is_fresh}
use Rattle.opening_faults.specs.declared.standing.Standing.TheVariants.{Stray}
use Rattle.opening_faults.proofs.Listing.{taken_more, at_place}
use Rattle.opening_faults.proofs.reaching.open_splits.Goals as goal

pub loop-place-preserved : goal.loop-place-preserved
loop-place-preserved c = λ t is.
    let i = c.loop-place.place in
    let s = c.index-sights-place.result in
    let lt : i < length c.args.sights.now = omega arith in
    let stands : c.standing_at.result ≡ t s = c.standing_at.ensures
    ∙ at_place t c.args.sights.now c.args.standings.now i s Stray is lt c.index-sights-place.is in
    taken_more (splits_in (is_open_by c.args.merges.now)) (λ x. is_fresh (t x)) c.loop-place.opened.items
    c.push_fresh.new.opened.items
    (take i c.args.sights.now) (take (i + 1) c.args.sights.now) s
    (one_more c.args.sights.now i s lt c.index-sights-place.is)
    (c.loop-place.invariant t is)
    (c.in_ok-push_fresh.ensures ∙ ap (λ v. c.loop-place.opened.items
    ++ cond (is_fresh v) (splits_in (is_open_by c.args.merges.now) s) []) stands)
