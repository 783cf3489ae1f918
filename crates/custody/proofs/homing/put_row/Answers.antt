use Rattle.std.proofs.Common.{rules, to_z-of_z, FitsSigned, w64}
use Rattle.package_tables.specs.Changes.{Adds}
use Rattle.package_tables.specs.Listed.{receipts}
use Rattle.package_tables.proofs.Stepping.{makes_steps}
use Rattle.custody.proofs.homing.put_row.Goals as goal

pub returns-clause-steps : goal.returns-clause-steps
returns-clause-steps g c =
    let seq : FitsSigned w64 c.args.row.seq = search rules in
    let numbers = c.struct_told-1.given.1.1.1.1.1.1 in
    let tiles : FitsSigned w64 c.args.row.n_tiles = search (rules, numbers.0.1) in
    let media : FitsSigned w64 c.args.row.n_media = search (rules, numbers.1.0.1) in
    let rows : FitsSigned w64 c.args.row.n_rows = search (rules, numbers.1.1.0.1) in
    let links : FitsSigned w64 c.args.row.n_links = search (rules, numbers.1.1.1.0.1) in
    let bytes : FitsSigned w64 c.args.row.n_bytes = search (rules, numbers.1.1.1.1.0.1) in
    makes_steps (Adds receipts c.args.row)
    (simp (to_z-of_z, seq, tiles, media, rows, links, bytes) at
    (rw (c.as_str.ensures, c.as_str-2.ensures, c.as_str-3.ensures, c.as_str-4.ensures, c.as_str-5.ensures) at
    c.insert_receipt.ensures.wrote)) c.insert_receipt.ensures.survives
