-- The reader begins at the start of the text, and the first record is its header, or a fault.
use Rattle.std.proofs.Common.{◌≡◌, ◌∙◌, option_map, inl, inr, refl}
use Rattle.std.proofs.lemmas.Result.{err_from_is_err_and}
use Rattle.csv.specs.Reading.{Ready, default_config, source_of, strip_bom}
use Rattle.csv.specs.Records.{fields_of}
use Rattle.csv.specs.declared.parser.State.TheVariants as st
use Rattle.csv.specs.declared.reader.Trim.TheVariants as trim
use Rattle.request_csv.proofs.ReaderFacts.{header_met, header_read, nothing_met}
use Rattle.request_csv.proofs.readers.ListReader.open.Goals as goal

pub returns-in_ok-check_header-in-Some-Ok-clause-stands : goal.returns-in_ok-check_header-in-Some-Ok-clause-stands
returns-in_ok-check_header-in-Some-Ok-clause-stands g c =
    let rem = g.R.Read.remaining in
    let text = g.R.Read.remaining c.args.reader in
    let rows = c.into_byte_records-rows.result in
    let is = c.into_byte_records-rows.ensures.rdr in
    let fr = c.from_reader-source.ensures in
    let e = c.has_headers.ensures in
    let f = c.flexible.ensures in
    let plain : rows.rdr.trim ≡ trim.None = rw is (rw (f, e) at fr.trim ∙ c.new.ensures.trim) in
    let ready : Ready rows.rdr = rw is (inr (inr (rw (f, e) at fr.has_headers, fr.headers))) in
    let config : rows.rdr.config ≡ default_config = rw is (rw (f, e) at fr.config ∙ c.new.ensures.config) in
    let source : source_of rem rows.rdr ≡ option_map strip_bom text = rw is fr.source in
    let state : rows.rdr.state ≡ st.StartRecord = rw is fr.state in
    let step = rw (c.in-Some-Ok.is, c.in-Some-Ok.field-0-is) at
    ((c.next.ensures.steps c.into_byte_records-rows.ensures.left plain).0 ready) in
    record {
      plain = step.0.3 ∙ plain;
      ready = inl step.1;
      left = step.2;
      config = step.0.2 ∙ config;
      counted = refl;
      read = header_read rem rows.rdr c.next.new.self.rdr config state text (fields_of c.in-Some-Ok.row) source step.0
          c.in_ok-check_header-in-Some-Ok.ensures.ok;
    }

pub returns-in_err-check_header-in-Some-Ok-clause-fault : goal.returns-in_err-check_header-in-Some-Ok-clause-fault
returns-in_err-check_header-in-Some-Ok-clause-fault g c =
    let rem = g.R.Read.remaining in
    let text = g.R.Read.remaining c.args.reader in
    let rows = c.into_byte_records-rows.result in
    let is = c.into_byte_records-rows.ensures.rdr in
    let fr = c.from_reader-source.ensures in
    let e = c.has_headers.ensures in
    let f = c.flexible.ensures in
    let plain : rows.rdr.trim ≡ trim.None = rw is (rw (f, e) at fr.trim ∙ c.new.ensures.trim) in
    let ready : Ready rows.rdr = rw is (inr (inr (rw (f, e) at fr.has_headers, fr.headers))) in
    let config : rows.rdr.config ≡ default_config = rw is (rw (f, e) at fr.config ∙ c.new.ensures.config) in
    let source : source_of rem rows.rdr ≡ option_map strip_bom text = rw is fr.source in
    let state : rows.rdr.state ≡ st.StartRecord = rw is fr.state in
    let step = rw (c.in-Some-Ok.is, c.in-Some-Ok.field-0-is) at
    ((c.next.ensures.steps c.into_byte_records-rows.ensures.left plain).0 ready) in
    let fact = header_met rem rows.rdr c.next.new.self.rdr config state text (fields_of c.in-Some-Ok.row)
    c.in_err-check_header-in-Some-Ok.field-0.0 source step.0 c.in_err-check_header-in-Some-Ok.ensures.fault in
    let exit = err_from_is_err_and c.from_residual.result c.from_residual.ensures.1 in
    rw (exit.1, exit.2) (inr fact)

pub returns-in-None-clause-fault : goal.returns-in-None-clause-fault
returns-in-None-clause-fault g c =
    let rem = g.R.Read.remaining in
    let text = g.R.Read.remaining c.args.reader in
    let rows = c.into_byte_records-rows.result in
    let is = c.into_byte_records-rows.ensures.rdr in
    let fr = c.from_reader-source.ensures in
    let e = c.has_headers.ensures in
    let f = c.flexible.ensures in
    let plain : rows.rdr.trim ≡ trim.None = rw is (rw (f, e) at fr.trim ∙ c.new.ensures.trim) in
    let ready : Ready rows.rdr = rw is (inr (inr (rw (f, e) at fr.has_headers, fr.headers))) in
    let config : rows.rdr.config ≡ default_config = rw is (rw (f, e) at fr.config ∙ c.new.ensures.config) in
    let source : source_of rem rows.rdr ≡ option_map strip_bom text = rw is fr.source in
    let state : rows.rdr.state ≡ st.StartRecord = rw is fr.state in
    let step = rw c.in-None.is at ((c.next.ensures.steps c.into_byte_records-rows.ensures.left plain).0 ready) in
    inr (nothing_met rem rows.rdr c.next.new.self.rdr config state text source step)
