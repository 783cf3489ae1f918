use Rattle.std.proofs.Common.{refl}
use Rattle.csv.specs.Records.{fields_of}
use Rattle.sheet_types.specs.Texts.{kind_word}
use Rattle.sheet_types.specs.declared.receipt.MovedKind.TheVariants.{TileItem, MediaItem, RowItem}
use Rattle.request_csv.proofs.ContentFacts.{no_content}
use Rattle.request_csv.proofs.NoneFacts.{ok_none_then}
use Rattle.request_csv.proofs.OneWord.{apart}
use Rattle.request_csv.proofs.contents.content_of.Goals as goal

pub returns-in-TileItem-clause-none : goal.returns-in-TileItem-clause-none
returns-in-TileItem-clause-none c =
    let kind = rw c.in-TileItem.is at c.in-Some.ensures.some in
    ok_none_then c.tile_of.result (λ none. no_content (fields_of c.args.row.now) (kind_word TileItem) kind
    (λ same. none) (λ same. absurd (apart _ _ refl same)) (λ same. absurd (apart _ _ refl same)))
    c.tile_of.ensures.none

pub returns-in-MediaItem-clause-none : goal.returns-in-MediaItem-clause-none
returns-in-MediaItem-clause-none c =
    let kind = rw c.in-MediaItem.is at c.in-Some.ensures.some in
    ok_none_then c.media_of.result (λ none. no_content (fields_of c.args.row.now) (kind_word MediaItem) kind
    (λ same. absurd (apart _ _ refl same)) (λ same. none) (λ same. absurd (apart _ _ refl same)))
    c.media_of.ensures.none

pub returns-in-RowItem-clause-none : goal.returns-in-RowItem-clause-none
returns-in-RowItem-clause-none c =
    let kind = rw c.in-RowItem.is at c.in-Some.ensures.some in
    ok_none_then c.row_of.result (λ none. no_content (fields_of c.args.row.now) (kind_word RowItem) kind
    (λ same. absurd (apart _ _ refl same)) (λ same. absurd (apart _ _ refl same)) (λ same. none))
    c.row_of.ensures.none
