-- A manifest is something: the record of its header has an end.
use Rattle.std.proofs.Common.{◌≡◌, refl, ◌<◌, [], ◌∷◌, ◌++◌, ℕ, List, if◌then◌else◌}
use Rattle.std.proofs.Common.{length, length-append, arith}
use Rattle.csv.specs.Writing.{default_writer, end_text, is_blank, row_body, row_text}
use Rattle.sheet_types.specs.declared.command.Item.{Item}
use Rattle.sheet_types.specs.declared.command.Relation.{Relation}
use Rattle.manifest_csv.specs.Manifests.{item_fields, link_fields, manifest_header, manifest_of, records_text}
use Rattle.manifest_csv.proofs.SentFacts.{some_first}

some_last : (first second : List ℕ) → 0 < length second → 0 < length (first ++ second)
some_last first second some = rw (length-append first second) (omega (arith, some))

some_row : (fields : List (List ℕ)) → 0 < length (row_text default_writer fields)
some_row fields =
    let blank : List ℕ = if is_blank default_writer fields then default_writer.quote ∷ default_writer.quote
    ∷ [] else [] in
    let one : length (end_text default_writer.terminator) ≡ 1 = refl in
    some_last (row_body default_writer fields) (blank ++ end_text default_writer.terminator)
    (some_last blank (end_text default_writer.terminator) (omega (arith, one)))

pub some_manifest : (items : List Item) (links : List Relation) → 0 < length (manifest_of items links)
some_manifest items links = some_first (row_text default_writer manifest_header)
    (records_text item_fields items ++ records_text link_fields links) (some_row manifest_header)
