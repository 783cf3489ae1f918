-- The reader starts at the start of the text, and each record that it gives leads one record on.
use Rattle.std.proofs.Common.{◌≡◌, ◌∙◌, ◌∷◌, [], true, refl, inl, inr, map, rules}
use Rattle.std.specs.Result.{is_ok}
use Rattle.std.proofs.lemmas.List.{map-append}
use Rattle.csv.specs.Records.{fields_of}
use Rattle.request_csv.proofs.RecordFacts.{start_reached, more_reached}
use Rattle.request_csv.proofs.records.read_records.Goals as goal

pub loop-row-init : goal.loop-row-init
loop-row-init g c =
    let fr = c.from_reader-source.ensures in
    let e = c.has_headers.ensures in
    let f = c.flexible.ensures in
    let start = c.into_iter-row-iterator.ensures.into_iter_gives ∙ refl in
    rw (start, c.into_byte_records-row-items.ensures.rdr, c.new-rows.ensures.items) (record {
      plain = rw (f, e) at fr.trim ∙ c.new.ensures.trim;
      ready = inr (inr (rw (f, e) at fr.has_headers, fr.headers));
      left = c.into_byte_records-row-items.ensures.left;
      config = rw (f, e) at fr.config ∙ c.new.ensures.config;
      reached = start_reached _ _ _ fr.source fr.state;
    })

pub loop-row-preserved : goal.loop-row-preserved
loop-row-preserved g c =
    let inv = c.loop-row.invariant in
    let s = rw (c.in-Some.is, c.in-Ok.is) at ((c.next.ensures.steps inv.left inv.plain).0 inv.ready) in
    let good : is_ok c.push.result ≡ true = search rules in
    let items = rw good at c.push.ensures.items in
    let m = more_reached g.R.Read.remaining (g.R.Read.remaining c.args.reader) c.loop-row.row-iterator.rdr
    c.next.new.self.rdr (fields_of c.in-Ok.row) (map fields_of c.loop-row.rows.items) inv.config inv.reached
    s.0 in
    record {
      plain = s.0.3 ∙ inv.plain;
      ready = inl s.1;
      left = s.2;
      config = s.0.2 ∙ inv.config;
      reached = rw (items, map-append fields_of c.loop-row.rows.items (c.in-Ok.row ∷ [])) m;
    }
