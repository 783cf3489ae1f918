use Rattle.std.proofs.Common.{rules, to_z-of_z, FitsSigned, w64}
use Rattle.package_tables.specs.Changes.{Adds}
use Rattle.package_tables.specs.Listed.{receipts}
use Rattle.package_tables.proofs.Stepping.{makes_steps}
use Rattle.package_copy.proofs.entering.ReceiptRowEntered.enter.Goals as goal

pub returns-clause-steps : goal.returns-clause-steps
returns-clause-steps g c =
    let row = c.args.self.now in
    let seq : FitsSigned w64 row.seq = search rules in
    let n_tiles : FitsSigned w64 row.n_tiles = search rules in
    let n_media : FitsSigned w64 row.n_media = search rules in
    let n_rows : FitsSigned w64 row.n_rows = search rules in
    let n_links : FitsSigned w64 row.n_links = search rules in
    let n_bytes : FitsSigned w64 row.n_bytes = search rules in
    makes_steps (Adds receipts row)
    (simp (to_z-of_z, seq, n_tiles, n_media, n_rows, n_links, n_bytes) at
    (rw (c.as_str.ensures, c.as_str-2.ensures, c.as_str-3.ensures, c.as_str-4.ensures, c.as_str-5.ensures) at
    c.insert_receipt.ensures.wrote)) c.insert_receipt.ensures.survives
