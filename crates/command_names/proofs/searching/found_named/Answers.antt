-- One more is searched behind those so far.
use Rattle.std.proofs.Common.{◌++◌, arith, map, take, subst}
use Rattle.std.proofs.lemmas.List.{take_all}
use Rattle.command_verbs.specs.declared.names.PackageEntry.{PackageEntry}
use Rattle.command_names.specs.Searching.{IsFound}
use Rattle.command_names.proofs.Behind.{behind_more}
use Rattle.command_names.proofs.searching.found_named.Goals as goal

pub loop-entry-preserved : goal.loop-entry-preserved
loop-entry-preserved c = λ before it.
    subst (λ ids. IsFound c.args.word.now ids c.found_with-next.result)
    (behind_more (λ (p : PackageEntry). p.uuid) before c.args.packages.now c.loop-entry.entry-index
    c.entry-item.result c.loop-entry-test.true c.entry-item.is)
    (c.found_with-next.ensures (before ++ map (λ (p : PackageEntry). p.uuid)
    (take c.loop-entry.entry-index c.args.packages.now)) (c.loop-entry.invariant before it))

pub returns : goal.returns
returns c = λ before it.
    subst (λ all. IsFound c.args.word.now (before ++ map (λ (p : PackageEntry). p.uuid) all) c.loop-entry.next)
    (take_all c.loop-entry.entry-index c.args.packages.now (omega (arith, c.loop-entry-test.false)))
    (c.loop-entry.invariant before it)
