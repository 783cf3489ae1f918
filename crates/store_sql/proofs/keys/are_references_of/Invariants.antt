use Rattle.std.proofs.Common.{map, take}
use Rattle.std.specs.List.{AllByRecursion}
use Rattle.store_sql.specs.Forms.{reference_of}
use Rattle.store_sql.specs.Spelling.{IsMeant}
use Rattle.store_sql.proofs.keys.are_references_of.Given as goal

abbrev pub invariant-loop-reference : goal.invariant-loop-reference
invariant-loop-reference l = AllByRecursion (IsMeant (map reference_of l.forms)) (take l.reference-index l.references)
