-- The counts are those of the list.
use Rattle.std.proofs.Common.{◌∙◌, codes, sym}
use Rattle.std.specs.Prelude.{decimal}
use Rattle.command_bringing.proofs.Grouping.{grouped}
use Rattle.command_bringing.proofs.telling.summary_text.Goals as goal

pub returns : goal.returns
returns c = rw (
  sym c.unlinks_in-unlinks.ensures,
  sym c.deletes_in-deletes.ensures,
  sym c.adds_in-adds.ensures,
  sym
      c.links_in-links.ensures,
)
    (c.in_ok-text.ensures
    ∙ sym (grouped (decimal c.unlinks_in-unlinks.result) (codes " unlinks, ") (decimal c.deletes_in-deletes.result)
    (codes " deletes, ")
    (decimal c.adds_in-adds.result) (codes " adds, ") (decimal c.links_in-links.result) (codes " links\n")))
