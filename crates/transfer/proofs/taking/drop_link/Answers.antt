use Rattle.store_sql.proofs.Transactions.{steps_weaker}
use Rattle.transfer.specs.Removals.{DropsLink}
use Rattle.transfer.proofs.taking.drop_link.Goals as goal

pub returns-clause-steps : goal.returns-clause-steps
returns-clause-steps g c = steps_weaker (λ _. DropsLink c.args.relation)
    (λ _ it f p reads there. it f p reads (record { base = c.fits.ensures; other = c.fits-2.ensures; there = there }))
    c.unlink.ensures.steps
