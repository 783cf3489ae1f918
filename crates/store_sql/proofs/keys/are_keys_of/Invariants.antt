use Rattle.std.proofs.Common.{map, take}
use Rattle.std.specs.List.{AllByRecursion}
use Rattle.store_sql.specs.Spelling.{HasKey}
use Rattle.store_sql.proofs.keys.are_keys_of.Given as goal

abbrev pub invariant-loop-key : goal.invariant-loop-key
invariant-loop-key l = AllByRecursion (HasKey (map (λ u. u.now) l.forms)) (take l.key-index l.uniques)
