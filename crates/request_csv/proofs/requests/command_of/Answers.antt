use Rattle.std.proofs.Common.{refl, codes}
use Rattle.csv.specs.Records.{field_at, fields_of}
use Rattle.request_csv.proofs.CommandFacts.{no_command}
use Rattle.request_csv.proofs.NoneFacts.{none_then, ok_none_then}
use Rattle.request_csv.proofs.OneWord.{apart, is_word}
use Rattle.request_csv.proofs.requests.command_of.Goals as goal

pub returns-in-add-clause-none : goal.returns-in-add-clause-none
returns-in-add-clause-none c =
    let fields = fields_of c.args.row.now in
    let word = is_word (field_at fields 2) c.in-Some.word.now (codes "add") c.in-Some.ensures.value c.in-add.is in
    ok_none_then c.add_of.result (λ none. no_command fields (codes "add") word (λ same. none)
    (λ same. absurd (apart _ _ refl same)) (λ same. absurd (apart _ _ refl same))
    (λ same. absurd (apart _ _ refl same)) (λ same. absurd (apart _ _ refl same))
    (λ same. absurd (apart _ _ refl same))) c.add_of.ensures.none

pub returns-in-delete-clause-none : goal.returns-in-delete-clause-none
returns-in-delete-clause-none c =
    let fields = fields_of c.args.row.now in
    let word = is_word (field_at fields 2) c.in-Some.word.now (codes "delete") c.in-Some.ensures.value c.in-delete.is in
    none_then c.delete_of.result (λ none. no_command fields (codes "delete") word
    (λ same. absurd (apart _ _ refl same)) (λ same. none) (λ same. absurd (apart _ _ refl same))
    (λ same. absurd (apart _ _ refl same)) (λ same. absurd (apart _ _ refl same))
    (λ same. absurd (apart _ _ refl same))) c.delete_of.ensures.none

pub returns-in-link-clause-none : goal.returns-in-link-clause-none
returns-in-link-clause-none c =
    let fields = fields_of c.args.row.now in
    let word = is_word (field_at fields 2) c.in-Some.word.now (codes "link") c.in-Some.ensures.value c.in-link.is in
    none_then c.link_of.result (λ none. no_command fields (codes "link") word (λ same. absurd (apart _ _ refl same))
    (λ same. absurd (apart _ _ refl same)) (λ same. none) (λ same. absurd (apart _ _ refl same))
    (λ same. absurd (apart _ _ refl same)) (λ same. absurd (apart _ _ refl same))) c.link_of.ensures.none

pub returns-in-unlink-clause-none : goal.returns-in-unlink-clause-none
returns-in-unlink-clause-none c =
    let fields = fields_of c.args.row.now in
    let word = is_word (field_at fields 2) c.in-Some.word.now (codes "unlink") c.in-Some.ensures.value c.in-unlink.is in
    none_then c.unlink_of.result (λ none. no_command fields (codes "unlink") word
    (λ same. absurd (apart _ _ refl same)) (λ same. absurd (apart _ _ refl same))
    (λ same. absurd (apart _ _ refl same)) (λ same. none) (λ same. absurd (apart _ _ refl same))
    (λ same. absurd (apart _ _ refl same))) c.unlink_of.ensures.none

pub returns-in-split-clause-none : goal.returns-in-split-clause-none
returns-in-split-clause-none c =
    let fields = fields_of c.args.row.now in
    let word = is_word (field_at fields 2) c.in-Some.word.now (codes "split") c.in-Some.ensures.value c.in-split.is in
    none_then c.split_of.result (λ none. no_command fields (codes "split") word
    (λ same. absurd (apart _ _ refl same)) (λ same. absurd (apart _ _ refl same))
    (λ same. absurd (apart _ _ refl same)) (λ same. absurd (apart _ _ refl same)) (λ same. none)
    (λ same. absurd (apart _ _ refl same))) c.split_of.ensures.none

pub returns-in-merge-clause-none : goal.returns-in-merge-clause-none
returns-in-merge-clause-none c =
    let fields = fields_of c.args.row.now in
    let word = is_word (field_at fields 2) c.in-Some.word.now (codes "merge") c.in-Some.ensures.value c.in-merge.is in
    none_then c.merge_of.result (λ none. no_command fields (codes "merge") word
    (λ same. absurd (apart _ _ refl same)) (λ same. absurd (apart _ _ refl same))
    (λ same. absurd (apart _ _ refl same)) (λ same. absurd (apart _ _ refl same))
    (λ same. absurd (apart _ _ refl same)) (λ same. none)) c.merge_of.ensures.none
