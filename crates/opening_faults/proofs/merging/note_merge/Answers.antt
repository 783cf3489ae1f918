-- The source has the greater number.
use Rattle.std.proofs.Common.{rules, to_z-of_z, FitsSigned, w64}
use Rattle.opening_faults.proofs.Noting.{noted_text}
use Rattle.opening_faults.proofs.merging.note_merge.Goals as goal

pub returns : goal.returns
returns c =
    let fits : FitsSigned w64 c.greatest.result = search rules in
    noted_text c.args.merges.now c.insert.new.self _ c.args.source.now c.copied-last.result c.args.seq
    c.greatest.result (search rules) (search rules) (simp (to_z-of_z, c.ranges.seq) at c.greatest.ensures)
    (simp (to_z-of_z, fits) at c.in_ok-insert.ensures.updates)
