-- One store more.
use Rattle.std.proofs.Common.{◌≡◌, ◌∙◌, ap, ◌+◌, ◌<◌, length, take, arith}
use Rattle.sheet_ledger.proofs.Walking.{one_more}
use Rattle.opening_faults.specs.Splits.{is_lent_in}
use Rattle.opening_faults.specs.Standings.{one_later}
use Rattle.opening_faults.specs.declared.standing.Standing.TheVariants.{Stray}
use Rattle.opening_faults.proofs.Listing.{made_more, at_place}
use Rattle.opening_faults.proofs.reaching.later_standings.Goals as goal

pub loop-place-preserved : goal.loop-place-preserved
loop-place-preserved c = λ t is.
    let i = c.loop-place.place in
    let s = c.index-sights-place.result in
    let lt : i < length c.args.sights.now = omega arith in
    let stands : c.standing_at.result ≡ t s = c.standing_at.ensures
    ∙ at_place t c.args.sights.now c.args.standings.now i s Stray is lt c.index-sights-place.is in
    let pushed : c.one_later.result ≡ one_later (t s) (is_lent_in c.args.loans.now s) =
    c.one_later.ensures ∙ ap (λ b. one_later c.standing_at.result b) c.in_ok-lent.ensures
    ∙ ap (λ v. one_later v (is_lent_in c.args.loans.now s)) stands in
    made_more (λ x. one_later (t x) (is_lent_in c.args.loans.now x)) c.loop-place.later.items c.push.new.self.items
    (take i c.args.sights.now) (take (i + 1) c.args.sights.now) s c.one_later.result
    (one_more c.args.sights.now i s lt c.index-sights-place.is) (c.loop-place.invariant t is) pushed
    c.in_ok-push.ensures.items
