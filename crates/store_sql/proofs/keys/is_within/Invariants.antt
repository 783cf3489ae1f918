use Rattle.std.proofs.Common.{map, take}
use Rattle.std.specs.List.{AllByRecursion}
use Rattle.store_sql.specs.Spelling.{HasPlace}
use Rattle.store_sql.proofs.keys.is_within.Given as goal

abbrev pub invariant-loop-place : goal.invariant-loop-place
invariant-loop-place l = AllByRecursion (HasPlace l.key) (take l.place-index l.places)
