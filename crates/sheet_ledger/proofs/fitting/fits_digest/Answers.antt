-- An array of thirty-two bytes has as many, each below 256.
use Rattle.sheet_types.proofs.Fitting.{bytes_fit}
use Rattle.sheet_ledger.proofs.Uuids.{small_at}
use Rattle.sheet_ledger.proofs.fitting.fits_digest.Goals as goal

pub returns : goal.returns
returns c = bytes_fit 32 c.args.digest.now c.told-digest (small_at c.args.digest.now (λ k lt. c.fits-digest k))
