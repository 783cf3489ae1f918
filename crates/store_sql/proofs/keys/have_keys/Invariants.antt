use Rattle.std.proofs.Common.{map, take}
use Rattle.std.specs.List.{AllByRecursion}
use Rattle.store_sql.specs.Spelling.{HasKey}
use Rattle.store_sql.proofs.keys.have_keys.Given as goal

abbrev pub invariant-loop-meant : goal.invariant-loop-meant
invariant-loop-meant l = AllByRecursion (λ m. HasKey l.uniques m.now) (take l.meant-index l.forms)
