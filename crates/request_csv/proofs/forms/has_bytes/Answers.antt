-- Bytes are there just where they were read.
use Rattle.csv.specs.Records.{fields_of}
use Rattle.request_csv.specs.Requests.{IsHexAt}
use Rattle.request_csv.proofs.WordFacts.{found_there}
use Rattle.request_csv.proofs.forms.has_bytes.Goals as goal

pub returns : goal.returns
returns c = found_there (λ bytes. bytes.items) (IsHexAt (fields_of c.args.row.now) c.args.column) c.in_ok-found.found
    c.is_some-has.result c.is_some-has.ensures c.in_ok-found.ensures.some c.in_ok-found.ensures.none
