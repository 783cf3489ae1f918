-- A word of a command is the word of one.
use Rattle.std.proofs.Common.{codes}
use Rattle.csv.specs.Records.{field_at, fields_of}
use Rattle.request_csv.proofs.OneWord.{is_word}
use Rattle.request_csv.proofs.WordFacts.{met_by, an_addition, a_deletion, a_link, an_unlink, a_split, a_merge}
use Rattle.request_csv.proofs.forms.has_command_word.Goals as goal

pub returns-in-add : goal.returns-in-add
returns-in-add c = met_by (fields_of c.args.row.now) c.args.column an_addition
    (is_word (field_at (fields_of c.args.row.now) c.args.column) c.in-Some.word.now (codes "add")
    c.in-Some.ensures.value c.in-add.is-add)

pub returns-in-add-2 : goal.returns-in-add-2
returns-in-add-2 c = met_by (fields_of c.args.row.now) c.args.column a_deletion
    (is_word (field_at (fields_of c.args.row.now) c.args.column) c.in-Some.word.now (codes "delete")
    c.in-Some.ensures.value c.in-add.is-delete)

pub returns-in-add-3 : goal.returns-in-add-3
returns-in-add-3 c = met_by (fields_of c.args.row.now) c.args.column a_link
    (is_word (field_at (fields_of c.args.row.now) c.args.column) c.in-Some.word.now (codes "link")
    c.in-Some.ensures.value c.in-add.is-link)

pub returns-in-add-4 : goal.returns-in-add-4
returns-in-add-4 c = met_by (fields_of c.args.row.now) c.args.column an_unlink
    (is_word (field_at (fields_of c.args.row.now) c.args.column) c.in-Some.word.now (codes "unlink")
    c.in-Some.ensures.value c.in-add.is-unlink)

pub returns-in-add-5 : goal.returns-in-add-5
returns-in-add-5 c = met_by (fields_of c.args.row.now) c.args.column a_split
    (is_word (field_at (fields_of c.args.row.now) c.args.column) c.in-Some.word.now (codes "split")
    c.in-Some.ensures.value c.in-add.is-split)

pub returns-in-add-6 : goal.returns-in-add-6
returns-in-add-6 c = met_by (fields_of c.args.row.now) c.args.column a_merge
    (is_word (field_at (fields_of c.args.row.now) c.args.column) c.in-Some.word.now (codes "merge")
    c.in-Some.ensures.value c.in-add.is-merge)
