-- Widths and heights are compared.
use Rattle.std.proofs.Common.{◌≡◌, refl, rules}
use Rattle.field_faults.specs.Heads.{height_at_zero, is_same, width_at_zero}
use Rattle.field_faults.proofs.heads.same_spans.Goals as goal

pub returns : goal.returns
returns c =
    let widths : c.is_same-widths.result ≡ is_same (width_at_zero c.args.mine.now) (width_at_zero c.args.theirs.now) =
    search rules in
    let heights : c.is_same-heights.result ≡ is_same (height_at_zero c.args.mine.now)
    (height_at_zero c.args.theirs.now) = search rules in
    rw (widths, heights) refl
