-- Where all columns are met the record is a request.
use Rattle.csv.specs.Records.{fields_of}
use Rattle.request_csv.proofs.FormFacts.{asked_by}
use Rattle.request_csv.proofs.NoneFacts.{ok_none_then}
use Rattle.request_csv.proofs.forms.column_fault.Goals as goal

pub returns-clause-none : goal.returns-clause-none
returns-clause-none c =
    ok_none_then c.first_unmet.result (λ met. asked_by (fields_of c.args.row.now) c.form_of.result c.requires.whole
    c.form_of.ensures (rw c.columns_of.ensures at met)) c.first_unmet.ensures.none
