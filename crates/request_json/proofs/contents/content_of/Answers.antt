use Rattle.std.proofs.Common.{refl}
use Rattle.serde_json.specs.View.{view}
use Rattle.sheet_types.specs.Texts.{kind_word}
use Rattle.sheet_types.specs.declared.receipt.MovedKind.TheVariants.{TileItem, MediaItem, RowItem}
use Rattle.request_json.proofs.ContentFacts.{no_content}
use Rattle.request_json.proofs.NoneFacts.{ok_none_then}
use Rattle.request_json.proofs.OneWord.{apart}
use Rattle.request_json.proofs.contents.content_of.Goals as goal

pub returns-in-Some-TileItem-clause-none : goal.returns-in-Some-TileItem-clause-none
returns-in-Some-TileItem-clause-none c =
    let kind = rw c.in-Some-TileItem.field-0-is at c.in-Some-TileItem.ensures.some in
    ok_none_then c.tile_of.result (λ none. no_content (view c.args.value.now) (kind_word TileItem) kind (λ same. none)
    (λ same. absurd (apart _ _ refl same)) (λ same. absurd (apart _ _ refl same))) c.tile_of.ensures.none

pub returns-in-Some-MediaItem-clause-none : goal.returns-in-Some-MediaItem-clause-none
returns-in-Some-MediaItem-clause-none c =
    let kind = rw c.in-Some-MediaItem.field-0-is at c.in-Some-MediaItem.ensures.some in
    ok_none_then c.media_of.result (λ none. no_content (view c.args.value.now) (kind_word MediaItem) kind
    (λ same. absurd (apart _ _ refl same)) (λ same. none) (λ same. absurd (apart _ _ refl same)))
    c.media_of.ensures.none

pub returns-in-Some-RowItem-clause-none : goal.returns-in-Some-RowItem-clause-none
returns-in-Some-RowItem-clause-none c =
    let kind = rw c.in-Some-RowItem.field-0-is at c.in-Some-RowItem.ensures.some in
    ok_none_then c.row_of.result (λ none. no_content (view c.args.value.now) (kind_word RowItem) kind
    (λ same. absurd (apart _ _ refl same)) (λ same. absurd (apart _ _ refl same)) (λ same. none))
    c.row_of.ensures.none
