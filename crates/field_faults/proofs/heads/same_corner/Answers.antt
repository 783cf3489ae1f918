-- Each of the five is compared.
use Rattle.std.proofs.Common.{◌≡◌, refl, rules}
use Rattle.field_faults.specs.Heads.{is_same}
use Rattle.field_faults.proofs.heads.same_corner.Goals as goal

pub returns : goal.returns
returns c =
    let srs_id : c.is_same.result ≡ is_same c.args.mine.now.srs_id c.args.theirs.now.srs_id = search rules in
    let min_x : c.is_same-2.result ≡ is_same c.args.mine.now.min_x c.args.theirs.now.min_x = search rules in
    let max_y : c.is_same-3.result ≡ is_same c.args.mine.now.max_y c.args.theirs.now.max_y = search rules in
    let tile_width : c.is_same-4.result ≡ is_same c.args.mine.now.tile_width c.args.theirs.now.tile_width =
    search rules in
    let tile_height : c.is_same-5.result ≡ is_same c.args.mine.now.tile_height c.args.theirs.now.tile_height =
    search rules in
    rw (srs_id, min_x, max_y, tile_width, tile_height) refl
