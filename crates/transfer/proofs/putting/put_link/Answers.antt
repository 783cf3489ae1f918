use Rattle.store_sql.proofs.Transactions.{steps_weaker}
use Rattle.transfer.specs.Moves.{PutsLink}
use Rattle.transfer.proofs.putting.put_link.Goals as goal

pub returns-clause-steps : goal.returns-clause-steps
returns-clause-steps g c = steps_weaker (λ _. PutsLink c.args.relation)
    (λ _ it f q reads absent. it f q reads (record {
      base = c.fits.ensures;
      other = c.fits-2.ensures;
      new = absent.new;
      ends = absent.ends;
    })) c.link.ensures.steps
