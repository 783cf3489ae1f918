use Rattle.std.proofs.Common.{inr, refl}
use Rattle.desk_http.proofs.AnswerFacts.{manifest_told, no_manifest_told}
use Rattle.desk_http.proofs.answering.manifest_call.Goals as goal

pub returns-in-Ok : goal.returns-in-Ok
returns-in-Ok g c =
    let told = rw c.in-Ok-Some.field-0-is at c.in-Ok-Some.ensures.told in
    record {
      read = inr c.in-Ok-Some.ensures.read;
      told = λ clean w stands. manifest_told w c.args.package c.in-Ok-Some.items.items c.in-Ok-Some.links.items _
          (told clean w stands)
          (rw (c.as_slice.ensures.value, c.as_slice-in-Ok-Some.ensures.value) at c.in-Ok.ensures);
    }

pub returns-in-Ok-None : goal.returns-in-Ok-None
returns-in-Ok-None g c =
    let told = rw c.in-Ok-None.field-0-is at c.in-Ok-None.ensures.told in
    record {
      read = inr c.in-Ok-None.ensures.read;
      told = λ clean w stands. no_manifest_told w c.args.package _ (told clean w stands) refl;
    }
