use Rattle.std.proofs.Common.{rules}
use Rattle.desk_asking.proofs.Texts.{byte_taken}
use Rattle.desk_asking.proofs.reading.take_byte.Goals as goal

pub returns : goal.returns
returns g c = byte_taken _ _ _ (search rules) c.in_ok-fill_piece.ensures
