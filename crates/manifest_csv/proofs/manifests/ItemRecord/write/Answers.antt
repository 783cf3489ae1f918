-- The text of a row is its own label, and its signs are those of its numbers.
use Rattle.std.proofs.Common.{rules, FitsSigned, w64, to_z-of_z}
use Rattle.manifest_csv.proofs.manifests.ItemRecord.write.Goals as goal

pub returns-in-Row-clause-text : goal.returns-in-Row-clause-text
returns-in-Row-clause-text c =
    let x : FitsSigned w64 c.in-Row.x = search rules in
    let y : FitsSigned w64 c.in-Row.y = search rules in
    let code : FitsSigned w64 c.in-Row.code = search rules in
    rw c.in-Row.is (simp (to_z-of_z, x, y, code) at (rw (c.as_str-in-Row.ensures, c.in-Row.is) at
    c.write_row.ensures.text))
