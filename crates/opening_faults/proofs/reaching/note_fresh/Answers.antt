-- One store more.
use Rattle.std.proofs.Common.{◌≡◌, ◌∙◌, ap, ◌&&◌, ◌||◌, ◌+◌, ◌<◌, length, take, arith}
use Rattle.std.specs.List.{list_any}
use Rattle.sheet_ledger.proofs.Walking.{one_more}
use Rattle.opening_faults.specs.Merges.{is_above, merges_after}
use Rattle.opening_faults.specs.Standings.{is_fresh}
use Rattle.opening_faults.specs.Sights.{claims_seen}
use Rattle.opening_faults.specs.declared.standing.Standing.TheVariants.{Stray}
use Rattle.opening_faults.proofs.Listing.{any_taken_more, at_place}
use Rattle.opening_faults.proofs.reaching.note_fresh.Goals as goal

pub loop-place-preserved : goal.loop-place-preserved
loop-place-preserved c = λ t is source n.
    let i = c.loop-place.place in
    let s = c.index-sights-place.result in
    let lt : i < length c.args.sights.now = omega arith in
    let stands : c.standing_at.result ≡ t s = c.standing_at.ensures
    ∙ at_place t c.args.sights.now c.args.standings.now i s Stray is lt c.index-sights-place.is in
    any_taken_more claims_seen (λ x. is_fresh (t x)) (merges_after source n) (is_above c.args.merges.now source n)
    (is_above c.loop-place.merges source n) (is_above c.note_sight.new.merges source n)
    (take i c.args.sights.now) (take (i + 1) c.args.sights.now) s
    (one_more c.args.sights.now i s lt c.index-sights-place.is)
    (c.loop-place.invariant t is source n)
    (c.in_ok-note_sight.ensures source n ∙ ap (λ v. is_above c.loop-place.merges source n ||
    (is_fresh v && list_any (merges_after source n) (claims_seen s))) stands)
