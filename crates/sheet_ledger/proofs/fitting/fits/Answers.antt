-- The text that is written is that of the identity, and reads as it.
use Rattle.std.proofs.Common.{◌∙◌, ap}
use Rattle.sheet_types.specs.Texts.{uuid_text}
use Rattle.sheet_ledger.proofs.Uuids.{fits_by_text}
use Rattle.sheet_ledger.proofs.fitting.fits.Goals as goal

pub returns : goal.returns
returns c = fits_by_text c.args.id c.encode_lower-text.result.now
    (c.encode_lower-text.ensures.text ∙ ap uuid_text c.hyphenated.ensures)
    (rw c.hyphenated.ensures at c.encode_lower-text.ensures.parsed)
