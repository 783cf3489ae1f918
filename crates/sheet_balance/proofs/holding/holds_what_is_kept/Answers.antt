-- What is held stands where it is held, and what stands somewhere is held.
use Rattle.sheet_balance.proofs.Kept.{kept_answer}
use Rattle.sheet_balance.proofs.holding.holds_what_is_kept.Goals as goal

pub returns : goal.returns
returns c = kept_answer c.in_ok-places.places c.in_ok-held.held c.args.ledger.now c.args.holders.now
    c.all_stand-stand.result c.are_all_held.result c.in_ok-places.ensures c.in_ok-held.ensures
    c.all_stand-stand.ensures c.are_all_held.ensures
