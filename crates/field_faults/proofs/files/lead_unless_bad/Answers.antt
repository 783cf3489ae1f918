-- Where a record could not be listed, links are not asked.
use Rattle.std.proofs.Common.{length, arith, rules, ◌≡◌}
use Rattle.field_faults.specs.Files.{Lead}
use Rattle.field_faults.proofs.Nones.{unless}
use Rattle.field_faults.proofs.files.lead_unless_bad.Goals as goal

pub returns-then-is_empty : goal.returns-then-is_empty
returns-then-is_empty c =
    let none : length c.args.bad.now ≡ 0 = search rules in
    unless (length c.args.bad.now) (Lead c.args.items.now c.args.links.now) c.lead.result none c.lead.ensures
