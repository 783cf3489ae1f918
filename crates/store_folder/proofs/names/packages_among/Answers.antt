-- Each name is the file of one package, or of none.
use Rattle.std.proofs.Common.{ap, ◌∙◌}
use Rattle.store_folder.proofs.NameFacts.{loop_some, loop_none}
use Rattle.store_folder.proofs.names.packages_among.Goals as goal
use Rattle.store_folder.proofs.names.packages_among.Goals.{in-Some+in_ok-push, in_default}

pub loop-name-preserved : goal.loop-name-preserved
loop-name-preserved c =
    elim c.match-package_of.branch [
      | in-Some+in_ok-push w ↦
          loop_some (λ name. name.now) c.args.names.now c.loop-name.name-index _ c.loop-name.packages.items
          c.match-package_of.packages.items w.in-Some.package c.loop-name-test.true
          (ap (λ v. v.items) w.packages-is ∙ w.in_ok-push.ensures.items) w.in-Some.ensures.some
          w.in-Some.ensures.only
          c.loop-name.invariant
      | in_default w ↦
          loop_none (λ name. name.now) c.args.names.now c.loop-name.name-index _ c.loop-name.packages.items
          c.match-package_of.packages.items c.loop-name-test.true
          (ap (λ v. v.items) w.packages-is) w.in_default.ensures.none c.loop-name.invariant
    ]
