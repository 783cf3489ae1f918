-- One receipt more, in front of those that were walked.
use Rattle.std.proofs.Common.{◌≡◌, ◌∙◌, ◌-◌, ◌∷◌, suc, ap, drop, arith}
use Rattle.sheet_balance.proofs.Coming.{in_front, homes_step, merged_step}
use Rattle.sheet_balance.proofs.homes.homes_of.Goals as goal

pub loop-rest-preserved : goal.loop-rest-preserved
loop-rest-preserved c =
    let rs = c.args.ledger.now in
    let i = c.loop-rest.rest in
    let r = c.index-ledger-rest.result in
    let at : suc (i - 1) ≡ i = omega (arith, c.loop-rest-test.true) in
    let more : drop (i - 1) rs ≡ r ∷ drop i rs = in_front rs (i - 1) r
    (omega (arith, c.loop-rest-test.true, c.loop-rest.invariant.within)) c.index-ledger-rest.is
    ∙ ap (λ k. r ∷ drop k rs) at in
    record {
      within = omega (arith, c.loop-rest.invariant.within);
      homes = homes_step c.loop-rest.homes c.note_home.new.homes c.loop-rest.merged r (drop i rs) (drop (i - 1) rs)
          more c.loop-rest.invariant.merged c.in_ok-note_home.ensures c.loop-rest.invariant.homes;
      merged = merged_step c.loop-rest.merged c.note_merge.new.merged r (drop i rs) (drop (i - 1) rs) more
          c.in_ok-note_merge.ensures c.loop-rest.invariant.merged;
    }
