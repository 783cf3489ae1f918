-- What each command is judged by.
use Rattle.std.proofs.Common.{◌≡◌, ◌∙◌, ap, sym}
use Rattle.sheet_types.specs.Matrix.{first_row}
use Rattle.world_members.specs.Reasons.{content_reasons, delete_reasons, link_reasons, unlink_reasons, package_reasons}
use Rattle.world_members.proofs.Seeing.{judges_so}
use Rattle.world_queries.proofs.judging.package_refusal.Goals as goal

pub returns-in-Add : goal.returns-in-Add
returns-in-Add g c =
    judges_so (λ f p found. f ≡ c.args.frame.now → found ≡ first_row (content_reasons f p c.in-Add.content))
    c.refusal_of_add.result (λ x f p so same. so same ∙ ap (λ y. first_row (package_reasons f p y))
    (sym c.in-Add.is)) c.refusal_of_add.ensures

pub returns-in-Delete : goal.returns-in-Delete
returns-in-Delete g c =
    judges_so (λ f p found. found ≡ first_row (delete_reasons p c.in-Delete.identity)) c.refusal_of_delete.result
    (λ x f p so same. so ∙ ap (λ y. first_row (package_reasons f p y)) (sym c.in-Delete.is))
    c.refusal_of_delete.ensures

pub returns-in-Link : goal.returns-in-Link
returns-in-Link g c =
    judges_so (λ f p found. found ≡ first_row (link_reasons p
    (record { mapping = c.in-Link.mapping; base = c.in-Link.base; other = c.in-Link.other })))
    c.refusal_of_link.result
    (λ x f p so same. so ∙ ap (λ y. first_row (package_reasons f p y)) (sym c.in-Link.is))
    (rw c.new.ensures at c.refusal_of_link.ensures)

pub returns-in-Unlink : goal.returns-in-Unlink
returns-in-Unlink g c =
    judges_so (λ f p found. found ≡ first_row (unlink_reasons p
    (record { mapping = c.in-Unlink.mapping; base = c.in-Unlink.base; other = c.in-Unlink.other })))
    c.refusal_of_unlink.result
    (λ x f p so same. so ∙ ap (λ y. first_row (package_reasons f p y)) (sym c.in-Unlink.is))
    (rw c.new-in-Unlink.ensures at c.refusal_of_unlink.ensures)
