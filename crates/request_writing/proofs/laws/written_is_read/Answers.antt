use Rattle.request_writing.proofs.ReadBack.{written_is_read}
use Rattle.request_writing.proofs.laws.written_is_read.Goals as goal

pub returns : goal.returns
returns c = written_is_read
