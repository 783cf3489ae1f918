use Rattle.std.proofs.Common.{inr, refl}
use Rattle.desk_http.proofs.AnswerFacts.{no_receipt_told, receipt_told}
use Rattle.desk_http.proofs.answering.receipt_call.Goals as goal

pub returns-in-Ok-Some : goal.returns-in-Ok-Some
returns-in-Ok-Some g c =
    let told = rw c.in-Ok-Some.field-0-is at c.in-Ok-Some.ensures.told in
    record {
      read = inr c.in-Ok-Some.ensures.read;
      told = λ clean w stands. receipt_told w c.args.id c.in-Ok-Some.receipt _ (told clean w stands)
          c.receipt_outgoing.ensures;
    }

pub returns-in-Ok-None : goal.returns-in-Ok-None
returns-in-Ok-None g c =
    let told = rw c.in-Ok-None.field-0-is at c.in-Ok-None.ensures.told in
    record {
      read = inr c.in-Ok-None.ensures.read;
      told = λ clean w stands. no_receipt_told w c.args.id _ (told clean w stands) refl;
    }
