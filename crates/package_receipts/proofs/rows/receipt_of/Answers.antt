-- Each part of the row was read.
use Rattle.package_receipts.proofs.Ranges.{end_text}
use Rattle.package_receipts.proofs.rows.receipt_of.Goals as goal

pub returns-clause-range : goal.returns-clause-range
returns-clause-range c =
    let row = c.args.row in
    let named = c.in-Some.named in
    let is = c.in-Some.ensures in
    record {
      seq = is.low;
      request = record { id = named.request; uuid = is.request_fit; is = is.request };
      at = is.at;
      source = end_text row.source named.source is.source is.source_fit;
      target = end_text row.target named.target is.target is.target_fit;
      counts = c.in-Some-sums_of.ensures.some.range;
    }
