-- What was read is what was written.
use Rattle.std.proofs.Common.{◌≡◌, length, rules}
use Rattle.desk_asking.proofs.payloads.copy_piece.Goals as goal

pub returns : goal.returns
returns g c =
    let long : length c.fill_piece.new.piece ≡ length c.args.piece.now = search rules in
    (c.fill_piece.new.piece, long, c.in_ok-fill_piece.ensures, c.in_ok-put_piece.ensures)
