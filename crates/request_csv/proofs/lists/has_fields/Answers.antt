-- The record has as many fields as there are texts, and each is the text at its place.
use Rattle.std.proofs.Common.{rules}
use Rattle.std.proofs.lemmas.Iterator.{cases_from_all, YieldsList-from_slice}
use Rattle.std.proofs.lemmas.Iterator.Consumers.{YieldsList-from_enumerate}
use Rattle.csv.specs.Records.{fields_of}
use Rattle.request_csv.specs.Requests.{IsTextAt}
use Rattle.request_csv.proofs.ListFacts.{fields_decided}
use Rattle.request_csv.proofs.lists.has_fields.Goals as goal
use borrow.Author.Tests.{tests}

pub returns-then-len-texts : goal.returns-then-len-texts
returns-then-len-texts c =
    let fields = fields_of c.args.row.now in
    fields_decided c.all.result fields c.args.texts.now (cc)
    (cases_from_all _ _ _ (λ p. IsTextAt fields p.0 p.1.now) (λ p. ¬ IsTextAt fields p.0 p.1.now) c.all.ensures.ran
    (YieldsList-from_enumerate (YieldsList-from_slice c.args.texts.now cc) (cc)) (λ x q k. search (rules, tests))
    (λ x q k. search (rules, tests)))
