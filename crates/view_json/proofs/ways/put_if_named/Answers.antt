-- A receipt that names the identity has an object, and no other has.
use Rattle.std.proofs.Common.{◌∙◌, ◌++◌, ap, sym}
use Rattle.std.proofs.lemmas.List.{append-nil}
use Rattle.view_json.proofs.Opened.{named_alone, open_same, unnamed_alone}
use Rattle.view_json.proofs.ways.put_if_named.Goals as goal

pub returns-in_ok-put_named-in-Some : goal.returns-in_ok-put_named-in-Some
returns-in_ok-put_named-in-Some c = λ ds given.
    let told = rw c.in-Some.is at c.named_as.ensures in
    open_same _ _ _
    (ap (λ l. ds ++ l) (named_alone c.args.identity c.args.receipt.now c.in-Some.naming.now told.0 told.1))
    (c.in_ok-put_named-in-Some.ensures ds given)

pub returns-in-None : goal.returns-in-None
returns-in-None c = λ ds given.
    let told = rw c.in-None.is at c.named_as.ensures in
    open_same _ _ _
    (sym (ap (λ l. ds ++ l) (unnamed_alone c.args.identity c.args.receipt.now told) ∙ append-nil ds)) given
