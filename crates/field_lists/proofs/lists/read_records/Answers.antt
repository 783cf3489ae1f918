-- The reader starts at the start of the text, and each record that it gives leads one record on.
use Rattle.std.proofs.Common.{◌∙◌, [], refl, inl, inr}
use Rattle.std.proofs.lemmas.Result.{err_from_is_err_and}
use Rattle.csv.specs.Records.{fields_of}
use Rattle.field_lists.proofs.RecordFacts.{read_all, read_more, read_none, record_fault}
use Rattle.field_lists.proofs.lists.read_records.Goals as goal

pub loop-row-init : goal.loop-row-init
loop-row-init g c =
    let fr = c.from_reader-source.ensures in
    let e = c.has_headers.ensures in
    let f = c.flexible.ensures in
    let start = c.into_iter-row-iterator.ensures.into_iter_gives ∙ refl in
    rw (start, c.into_byte_records-row-items.ensures.rdr, c.new-entries.ensures.items) (record {
      plain = rw (f, e) at fr.trim ∙ c.new.ensures.trim;
      ready = inr (inr (rw (f, e) at fr.has_headers, fr.headers));
      left = c.into_byte_records-row-items.ensures.left;
      config = rw (f, e) at fr.config ∙ c.new.ensures.config;
      read = read_none g.R.Read.remaining (g.R.Read.remaining c.args.reader) c.from_reader-source.result fr.source
          fr.state;
    })

pub loop-row-preserved : goal.loop-row-preserved
loop-row-preserved g c =
    let inv = c.loop-row.invariant in
    let s = rw (c.in-Some.is, c.in-Ok.is) at ((c.next.ensures.steps inv.left inv.plain).0 inv.ready) in
    record {
      plain = s.0.3 ∙ inv.plain;
      ready = inl s.1;
      left = s.2;
      config = s.0.2 ∙ inv.config;
      read = read_more g.R.Read.remaining (g.R.Read.remaining c.args.reader) c.loop-row.row-iterator.rdr
          c.next.new.self.rdr (fields_of c.in-Ok.row) _ _ _ inv.config inv.read s.0
          c.in_ok-add_record-in-Ok.ensures.more;
    }

pub returns-in_err-add_record-in-Ok-clause-fault : goal.returns-in_err-add_record-in-Ok-clause-fault
returns-in_err-add_record-in-Ok-clause-fault g c =
    let inv = c.loop-row.invariant in
    let s = rw (c.in-Some.is, c.in-Ok.is) at ((c.next.ensures.steps inv.left inv.plain).0 inv.ready) in
    let fault = record_fault g.R.Read.remaining (g.R.Read.remaining c.args.reader) c.loop-row.row-iterator.rdr
    c.next.new.self.rdr (fields_of c.in-Ok.row) _ _ _ c.in_err-add_record-in-Ok.field-0.0 inv.config inv.read
    s.0 c.in_err-add_record-in-Ok.ensures.fault in
    let exit = err_from_is_err_and c.from_residual.result c.from_residual.ensures.1 in
    rw (exit.1, exit.2) fault

pub returns-clause-list : goal.returns-clause-list
returns-clause-list g c =
    let inv = c.loop-row.invariant in
    let s = rw c.in-None.is at ((c.next.ensures.steps inv.left inv.plain).0 inv.ready) in
    read_all g.R.Read.remaining (g.R.Read.remaining c.args.reader) c.loop-row.row-iterator.rdr c.next.new.self.rdr []
    _ _ inv.config inv.read s
