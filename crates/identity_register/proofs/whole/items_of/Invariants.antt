use Rattle.std.proofs.Common.{take}
use Rattle.std.specs.Prelude.{Contains}
use Rattle.std.specs.List.{AllZip}
use Rattle.std.specs.Vec.Iter.{into_iter_items}
use Rattle.identity_register.specs.Gathered.{IsItemOf}
use Rattle.identity_register.specs.declared.whole.Placed.{Placed}
use Rattle.identity_register.proofs.whole.items_of.Given as goal

-- what is left is of the contents, and each row so far has its item
abbrev pub invariant-loop-row : goal.invariant-loop-row
invariant-loop-row l = record {
  left : (x : Placed) → Contains (into_iter_items l.left) x → Contains l.fn.placed.items x;
  zipped : AllZip (IsItemOf l.fn.placed.items) (take l.row-index l.rows) l.items.items;
}
