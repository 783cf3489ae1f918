-- The word of a kind of item is that of some content.
use Rattle.std.proofs.Common.{rules}
use Rattle.csv.specs.Records.{fields_of}
use Rattle.sheet_types.specs.Texts.{kind_word}
use Rattle.sheet_types.specs.declared.receipt.MovedKind.TheVariants.{TileItem, MediaItem, RowItem}
use Rattle.request_csv.specs.Requests.{IsTextAt}
use Rattle.request_csv.proofs.WordFacts.{a_tile, a_medium, a_row, met_by_kind}
use Rattle.request_csv.proofs.forms.has_kind_word.Goals as goal

pub returns-in-Some-TileItem : goal.returns-in-Some-TileItem
returns-in-Some-TileItem c =
    let there : IsTextAt (fields_of c.args.row.now) c.args.column (kind_word TileItem) = search rules in
    met_by_kind (fields_of c.args.row.now) c.args.column a_tile there

pub returns-in-Some-MediaItem : goal.returns-in-Some-MediaItem
returns-in-Some-MediaItem c =
    let there : IsTextAt (fields_of c.args.row.now) c.args.column (kind_word MediaItem) = search rules in
    met_by_kind (fields_of c.args.row.now) c.args.column a_medium there

pub returns-in-Some-RowItem : goal.returns-in-Some-RowItem
returns-in-Some-RowItem c =
    let there : IsTextAt (fields_of c.args.row.now) c.args.column (kind_word RowItem) = search rules in
    met_by_kind (fields_of c.args.row.now) c.args.column a_row there
