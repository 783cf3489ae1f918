-- The key is put in.
use Rattle.sheet_ledger.proofs.Sets.{put_in}
use Rattle.opening_live.proofs.naming.note.Goals as goal

pub returns : goal.returns
returns c = put_in c.args.loans.now c.insert.new.self c.args.key c.in_ok-insert.ensures.updates
