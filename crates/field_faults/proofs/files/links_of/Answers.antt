-- One entry more.
use Rattle.std.proofs.Common.{◌∙◌, ap, arith, [], ◌++◌}
use Rattle.std.specs.List.{cons_option, filter_map}
use Rattle.std.proofs.lemmas.List.{take_all}
use Rattle.field_faults.specs.Files.{link_in}
use Rattle.field_faults.proofs.Behind.{found_more}
use Rattle.field_faults.proofs.files.links_of.Goals as goal

pub loop-entry-preserved : goal.loop-entry-preserved
loop-entry-preserved c =
    found_more link_in c.args.entries.now c.loop-entry.entry-index c.entry-item.result c.loop-entry.found.items
    c.push_some.new.found.items c.loop-entry-test.true c.entry-item.is c.loop-entry.invariant
    (c.in_ok-push_some.ensures ∙ ap (λ o. c.loop-entry.found.items ++ cons_option o []) c.link_in.ensures)

pub returns : goal.returns
returns c = c.loop-entry.invariant ∙ ap (filter_map link_in) (take_all c.loop-entry.entry-index c.args.entries.now
    (omega (arith, c.loop-entry-test.false)))
