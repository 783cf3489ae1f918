use Rattle.std.proofs.Common.{◌∙◌, rules, ap, to_z-of_z, FitsSigned, w64}
use Rattle.sheet_types.specs.Texts.{uuid_text}
use Rattle.custody.proofs.Entering.{head_steps}
use Rattle.custody.proofs.enter_row.Goals as goal

pub returns-clause-steps : goal.returns-clause-steps
returns-clause-steps g c =
    let seq_fits : FitsSigned w64 c.in_ok-seq.seq = search rules in
    let tiles_fits : FitsSigned w64 c.in_ok-tiles.tiles = search rules in
    let media_fits : FitsSigned w64 c.in_ok-media.media = search rules in
    let rows_fits : FitsSigned w64 c.in_ok-rows.rows = search rules in
    let links_fits : FitsSigned w64 c.in_ok-links.links = search rules in
    let bytes_fits : FitsSigned w64 c.in_ok-bytes.bytes = search rules in
    head_steps c.args.receipt.now (simp (
      to_z-of_z,
      seq_fits,
      tiles_fits,
      media_fits,
      rows_fits,
      links_fits,
      bytes_fits,
    ) at c.insert_receipt.ensures.wrote) c.insert_receipt.ensures.survives
    c.in_ok-seq.ensures.stored (c.encode_lower-request.ensures.text ∙ ap uuid_text c.hyphenated.ensures)
    c.as_str-at.ensures c.as_str-line.ensures c.encode_lower-source.ensures c.encode_lower-target.ensures
    c.in_ok-tiles.ensures.stored c.in_ok-media.ensures.stored c.in_ok-rows.ensures.stored c.in_ok-links.ensures.stored
    c.in_ok-bytes.ensures.stored
