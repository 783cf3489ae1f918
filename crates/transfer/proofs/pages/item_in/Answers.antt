use Rattle.std.proofs.Common.{◌≡◌, ◌∙◌, sym}
use Rattle.sheet_types.specs.World.{item_of}
use Rattle.store_sql.proofs.Staying.{looks_stays}
use Rattle.transfer.proofs.Telling.{told_by}
use Rattle.transfer.proofs.pages.item_in.Goals as goal

pub returns-in-Some-clause-told : goal.returns-in-Some-clause-told
returns-in-Some-clause-told g c clean f p reads = sym ((told_by (λ q x. x ≡ item_of q c.args.identity)
    c.in_ok-item.was c.find.ensures).told clean f p reads) ∙ c.in-Some.is
