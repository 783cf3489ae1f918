-- The first package without parent is the archive.
use Rattle.std.proofs.Common.{◌∙◌}
use Rattle.sheet_balance.proofs.Seen.{seen_archive}
use Rattle.sheet_balance.proofs.holders.archive_of.Goals as goal

pub returns : goal.returns
returns c = λ w seen. c.first_archive.ensures ∙ seen_archive c.args.holders.now w seen
