-- The ledger as JSON: an object for each receipt that is asked for, by the names of the table's columns. Profile.
use Rattle.std.specs.Prelude.{ℕ, List, codes, length, map}
use Rattle.serde_json.specs.Data.{Data, string, object, member, no_members}
use Rattle.sheet_types.specs.declared.receipt.Receipt.{Receipt}
use Rattle.view_text.specs.Ledgers.{asked_of}
use Rattle.view_text.specs.Ways.{first_word}
use Rattle.view_text.specs.declared.ledgers.Excerpt.{Excerpt}
use Rattle.view_json.specs.Arrays.{array_text, count, end_data}

abbrev pub receipt_data : Receipt → Data
receipt_data r =
    object (member (codes "at") (string r.at) (member (codes "bytes") (count r.bytes)
    (member (codes "from") (end_data r.source) (member (codes "receipt") (count r.seq)
    (member (codes "things") (count (length r.items)) (member (codes "to") (end_data r.target)
    (member (codes "what") (string (first_word r.line)) no_members)))))))

abbrev pub excerpt_json : List Receipt → Excerpt → List ℕ
excerpt_json ledger e = array_text (map receipt_data (asked_of ledger e))
