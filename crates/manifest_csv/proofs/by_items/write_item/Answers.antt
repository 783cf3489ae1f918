-- The record is that of the item under the identity.
use Rattle.std.proofs.Common.{◌∙◌, ap, subst, Ok, Some}
use Rattle.std.specs.Io.KnownBytes.{Appends}
use Rattle.csv.specs.Writing.{default_writer, row_text, text_written}
use Rattle.sheet_types.proofs.Basics.{some_same}
use Rattle.identity_register.proofs.Looking.{sees_so}
use Rattle.manifest_csv.specs.ByItems.{IsItemOf}
use Rattle.manifest_csv.specs.Manifests.{item_fields}
use Rattle.manifest_csv.proofs.by_items.write_item.Goals as goal

pub returns-in-Ok-clause-text : goal.returns-in-Ok-clause-text
returns-in-Ok-clause-text g c =
    sees_so (λ f p found. IsItemOf p c.args.identity found) (c.in_ok-item.was ∙ ap Ok c.in-Some.is)
    c.find_item.ensures
    (λ f p t says is item there named. subst (λ i. Appends (text_written (λ v. Some v.items) c.args.writer.now)
    (text_written (λ v. Some v.items) c.write.new.writer) (row_text default_writer (item_fields i)))
    (some_same (is.each item there named)) c.in-Ok.ensures.text)
