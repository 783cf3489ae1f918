use Rattle.std.proofs.Common.{refl, codes}
use Rattle.csv.specs.Records.{field_at, fields_of}
use Rattle.field_lists.proofs.EntryFacts.{no_entry}
use Rattle.field_lists.proofs.NoneFacts.{none_then, ok_none_then}
use Rattle.field_lists.proofs.OneWord.{apart, is_word}
use Rattle.field_lists.proofs.entries.entry_of.Goals as goal

pub returns-in-package-clause-none : goal.returns-in-package-clause-none
returns-in-package-clause-none c =
    let fields = fields_of c.args.row.now in
    let word = is_word (field_at fields 0) c.in-Some.word.now (codes "package") c.in-Some.ensures.value
    c.in-package.is in
    none_then c.export_of.result (λ none. no_entry fields (codes "package") word (λ same. none)
    (λ same. absurd (apart _ _ refl same)) (λ same. absurd (apart _ _ refl same))
    (λ same. absurd (apart _ _ refl same)) (λ same. absurd (apart _ _ refl same))
    (λ same. absurd (apart _ _ refl same)) (λ same. absurd (apart _ _ refl same))
    (λ same. absurd (apart _ _ refl same)) (λ same. absurd (apart _ _ refl same))
    (λ same. absurd (apart _ _ refl same)) (λ same. absurd (apart _ _ refl same))) c.export_of.ensures.none

pub returns-in-system-clause-none : goal.returns-in-system-clause-none
returns-in-system-clause-none c =
    let fields = fields_of c.args.row.now in
    let word = is_word (field_at fields 0) c.in-Some.word.now (codes "system") c.in-Some.ensures.value c.in-system.is in
    none_then c.system_of.result (λ none. no_entry fields (codes "system") word (λ same. absurd (apart _ _ refl same))
    (λ same. none) (λ same. absurd (apart _ _ refl same)) (λ same. absurd (apart _ _ refl same))
    (λ same. absurd (apart _ _ refl same)) (λ same. absurd (apart _ _ refl same))
    (λ same. absurd (apart _ _ refl same)) (λ same. absurd (apart _ _ refl same))
    (λ same. absurd (apart _ _ refl same)) (λ same. absurd (apart _ _ refl same))
    (λ same. absurd (apart _ _ refl same))) c.system_of.ensures.none

pub returns-in-frame-clause-none : goal.returns-in-frame-clause-none
returns-in-frame-clause-none c =
    let fields = fields_of c.args.row.now in
    let word = is_word (field_at fields 0) c.in-Some.word.now (codes "frame") c.in-Some.ensures.value c.in-frame.is in
    none_then c.frame_of.result (λ none. no_entry fields (codes "frame") word (λ same. absurd (apart _ _ refl same))
    (λ same. absurd (apart _ _ refl same)) (λ same. none) (λ same. absurd (apart _ _ refl same))
    (λ same. absurd (apart _ _ refl same)) (λ same. absurd (apart _ _ refl same))
    (λ same. absurd (apart _ _ refl same)) (λ same. absurd (apart _ _ refl same))
    (λ same. absurd (apart _ _ refl same)) (λ same. absurd (apart _ _ refl same))
    (λ same. absurd (apart _ _ refl same))) c.frame_of.ensures.none

pub returns-in-tile-clause-none : goal.returns-in-tile-clause-none
returns-in-tile-clause-none c =
    let fields = fields_of c.args.row.now in
    let word = is_word (field_at fields 0) c.in-Some.word.now (codes "tile") c.in-Some.ensures.value c.in-tile.is in
    ok_none_then c.tile_of.result (λ none. no_entry fields (codes "tile") word (λ same. absurd (apart _ _ refl same))
    (λ same. absurd (apart _ _ refl same)) (λ same. absurd (apart _ _ refl same)) (λ same. none)
    (λ same. absurd (apart _ _ refl same)) (λ same. absurd (apart _ _ refl same))
    (λ same. absurd (apart _ _ refl same)) (λ same. absurd (apart _ _ refl same))
    (λ same. absurd (apart _ _ refl same)) (λ same. absurd (apart _ _ refl same))
    (λ same. absurd (apart _ _ refl same))) c.tile_of.ensures.none

pub returns-in-media-clause-none : goal.returns-in-media-clause-none
returns-in-media-clause-none c =
    let fields = fields_of c.args.row.now in
    let word = is_word (field_at fields 0) c.in-Some.word.now (codes "media") c.in-Some.ensures.value c.in-media.is in
    ok_none_then c.media_of.result (λ none. no_entry fields (codes "media") word
    (λ same. absurd (apart _ _ refl same)) (λ same. absurd (apart _ _ refl same))
    (λ same. absurd (apart _ _ refl same)) (λ same. absurd (apart _ _ refl same)) (λ same. none)
    (λ same. absurd (apart _ _ refl same)) (λ same. absurd (apart _ _ refl same))
    (λ same. absurd (apart _ _ refl same)) (λ same. absurd (apart _ _ refl same))
    (λ same. absurd (apart _ _ refl same)) (λ same. absurd (apart _ _ refl same))) c.media_of.ensures.none

pub returns-in-row-clause-none : goal.returns-in-row-clause-none
returns-in-row-clause-none c =
    let fields = fields_of c.args.row.now in
    let word = is_word (field_at fields 0) c.in-Some.word.now (codes "row") c.in-Some.ensures.value c.in-row.is in
    ok_none_then c.row_of.result (λ none. no_entry fields (codes "row") word (λ same. absurd (apart _ _ refl same))
    (λ same. absurd (apart _ _ refl same)) (λ same. absurd (apart _ _ refl same))
    (λ same. absurd (apart _ _ refl same)) (λ same. absurd (apart _ _ refl same)) (λ same. none)
    (λ same. absurd (apart _ _ refl same)) (λ same. absurd (apart _ _ refl same))
    (λ same. absurd (apart _ _ refl same)) (λ same. absurd (apart _ _ refl same))
    (λ same. absurd (apart _ _ refl same))) c.row_of.ensures.none

pub returns-in-tiles_media-clause-none : goal.returns-in-tiles_media-clause-none
returns-in-tiles_media-clause-none c =
    let fields = fields_of c.args.row.now in
    let word = is_word (field_at fields 0) c.in-Some.word.now (codes "tiles_media") c.in-Some.ensures.value
    c.in-tiles_media.is in
    none_then c.link_of.result (λ none. no_entry fields (codes "tiles_media") word
    (λ same. absurd (apart _ _ refl same)) (λ same. absurd (apart _ _ refl same))
    (λ same. absurd (apart _ _ refl same)) (λ same. absurd (apart _ _ refl same))
    (λ same. absurd (apart _ _ refl same)) (λ same. absurd (apart _ _ refl same)) (λ same. none)
    (λ same. absurd (apart _ _ refl same)) (λ same. absurd (apart _ _ refl same))
    (λ same. absurd (apart _ _ refl same)) (λ same. absurd (apart _ _ refl same))) c.link_of.ensures.none

pub returns-in-rows_media-clause-none : goal.returns-in-rows_media-clause-none
returns-in-rows_media-clause-none c =
    let fields = fields_of c.args.row.now in
    let word = is_word (field_at fields 0) c.in-Some.word.now (codes "rows_media") c.in-Some.ensures.value
    c.in-rows_media.is in
    none_then c.link_of-in-rows_media.result (λ none. no_entry fields (codes "rows_media") word
    (λ same. absurd (apart _ _ refl same)) (λ same. absurd (apart _ _ refl same))
    (λ same. absurd (apart _ _ refl same)) (λ same. absurd (apart _ _ refl same))
    (λ same. absurd (apart _ _ refl same)) (λ same. absurd (apart _ _ refl same))
    (λ same. absurd (apart _ _ refl same)) (λ same. none) (λ same. absurd (apart _ _ refl same))
    (λ same. absurd (apart _ _ refl same)) (λ same. absurd (apart _ _ refl same)))
    c.link_of-in-rows_media.ensures.none

pub returns-in-rows_tiles-clause-none : goal.returns-in-rows_tiles-clause-none
returns-in-rows_tiles-clause-none c =
    let fields = fields_of c.args.row.now in
    let word = is_word (field_at fields 0) c.in-Some.word.now (codes "rows_tiles") c.in-Some.ensures.value
    c.in-rows_tiles.is in
    none_then c.link_of-in-rows_tiles.result (λ none. no_entry fields (codes "rows_tiles") word
    (λ same. absurd (apart _ _ refl same)) (λ same. absurd (apart _ _ refl same))
    (λ same. absurd (apart _ _ refl same)) (λ same. absurd (apart _ _ refl same))
    (λ same. absurd (apart _ _ refl same)) (λ same. absurd (apart _ _ refl same))
    (λ same. absurd (apart _ _ refl same)) (λ same. absurd (apart _ _ refl same)) (λ same. none)
    (λ same. absurd (apart _ _ refl same)) (λ same. absurd (apart _ _ refl same)))
    c.link_of-in-rows_tiles.ensures.none

pub returns-in-bad-clause-none : goal.returns-in-bad-clause-none
returns-in-bad-clause-none c =
    let fields = fields_of c.args.row.now in
    let word = is_word (field_at fields 0) c.in-Some.word.now (codes "bad") c.in-Some.ensures.value c.in-bad.is in
    ok_none_then c.bad_of.result (λ none. no_entry fields (codes "bad") word (λ same. absurd (apart _ _ refl same))
    (λ same. absurd (apart _ _ refl same)) (λ same. absurd (apart _ _ refl same))
    (λ same. absurd (apart _ _ refl same)) (λ same. absurd (apart _ _ refl same))
    (λ same. absurd (apart _ _ refl same)) (λ same. absurd (apart _ _ refl same))
    (λ same. absurd (apart _ _ refl same)) (λ same. absurd (apart _ _ refl same)) (λ same. none)
    (λ same. absurd (apart _ _ refl same))) c.bad_of.ensures.none

pub returns-in-end-clause-none : goal.returns-in-end-clause-none
returns-in-end-clause-none c =
    let fields = fields_of c.args.row.now in
    let word = is_word (field_at fields 0) c.in-Some.word.now (codes "end") c.in-Some.ensures.value c.in-end.is in
    none_then c.end_of.result (λ none. no_entry fields (codes "end") word (λ same. absurd (apart _ _ refl same))
    (λ same. absurd (apart _ _ refl same)) (λ same. absurd (apart _ _ refl same))
    (λ same. absurd (apart _ _ refl same)) (λ same. absurd (apart _ _ refl same))
    (λ same. absurd (apart _ _ refl same)) (λ same. absurd (apart _ _ refl same))
    (λ same. absurd (apart _ _ refl same)) (λ same. absurd (apart _ _ refl same))
    (λ same. absurd (apart _ _ refl same)) (λ same. none)) c.end_of.ensures.none
