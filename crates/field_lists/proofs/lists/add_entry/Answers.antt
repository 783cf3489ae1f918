-- The entry stands behind the others, or its fault is met after them.
use Rattle.std.proofs.Common.{rules, ◌≡◌, true}
use Rattle.std.specs.Result.{is_ok}
use Rattle.std.proofs.lemmas.Result.{err_from_is_err_and}
use Rattle.csv.specs.Records.{fields_of}
use Rattle.field_lists.proofs.ListFacts.{entry_fault, entry_more}
use Rattle.field_lists.proofs.lists.add_entry.Goals as goal

pub returns-in_err-entry-clause-fault : goal.returns-in_err-entry-clause-fault
returns-in_err-entry-clause-fault c =
    let fault = entry_fault c.args.entries.now.items _ (fields_of c.args.row) c.in_err-entry.field-0.0 (search rules)
    c.in_err-entry.ensures.fault in
    let exit = err_from_is_err_and c.from_residual.result c.from_residual.ensures.1 in
    rw (exit.1, exit.2) fault

pub returns-clause-more : goal.returns-clause-more
returns-clause-more c = λ rows asked.
    let good : is_ok c.push.result ≡ true = search rules in
    let items = rw good at c.push.ensures.items in
    rw items (entry_more rows c.args.entries.now.items (fields_of c.args.row) c.in_ok-entry.entry asked
    c.in_ok-entry.ensures.asks)
