-- After as many rounds as there are stores nothing is left to be found.
use Rattle.std.proofs.Common.{◌≡◌, ◌∙◌, sym, ap, subst, suc, map, ◌++◌, length, arith}
use Rattle.std.proofs.Math.Numerals.{add-one}
use Rattle.opening_faults.specs.Standings.{standing, is_found}
use Rattle.opening_faults.specs.Turns.{IsTurn, AreListed}
use Rattle.opening_faults.proofs.Turning.{live_are, more_listed, all_listed}
use Rattle.opening_faults.proofs.reaching.reach.Goals as goal

pub loop-round-preserved : goal.loop-round-preserved
loop-round-preserved c =
    let s = c.args.sights.now in
    let k = c.loop-round.round in
    subst (λ n. IsTurn s n c.in_ok-standings-2.standings.items c.one_round.new.merges c.one_round.new.splits.items)
    (sym (add-one k))
    (c.in_ok-standings-2.ensures k (subst (λ xs. IsTurn s k xs c.loop-round.merges c.loop-round.splits.items)
    (sym c.as_slice.ensures.value) c.loop-round.invariant))

pub returns-clause-live : goal.returns-clause-live
returns-clause-live c =
    let s = c.args.sights.now in
    let all : c.loop-round.round ≡ length s = omega arith in
    live_are s c.loop-round.standings.items c.in_ok-live.live.items
    (subst (λ n. c.loop-round.standings.items ≡ map (standing n s) s) all c.loop-round.invariant.stands)
    (c.in_ok-live.ensures ∙ ap (map is_found) c.as_slice-3.ensures.value)

pub returns-clause-splits : goal.returns-clause-splits
returns-clause-splits c =
    let s = c.args.sights.now in
    let k = c.loop-round.round in
    let all : k ≡ length s = omega arith in
    let stands : c.as_slice-2.result.now ≡ map (standing k s) s =
    c.as_slice-2.ensures.value ∙ c.loop-round.invariant.stands in
    all_listed s c.push_all.new.splits.items (subst (λ n. AreListed s (suc n) c.push_all.new.splits.items) all
    (more_listed s k c.loop-round.splits.items c.push_all.new.splits.items
    (c.in_ok-push_all.ensures ∙ ap (λ xs. c.loop-round.splits.items ++ xs)
    (c.in_ok-opened.ensures.opened k stands c.loop-round.invariant.merged)) c.loop-round.invariant.listed))
