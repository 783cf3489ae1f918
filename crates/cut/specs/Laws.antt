-- Which packages a cut can be taken of.
use Rattle.sheet_types.specs.Register.{IsKeptPackage}
use Rattle.sheet_types.specs.World.{World, Package}
use Rattle.cut.specs.Taken.{IsInOrder}

-- what a register keeps is in order, so a cut of it is the model's
abbrev pub KeptIsInOrder : Type 0
KeptIsInOrder = (w : World) (p : Package) → IsKeptPackage w p → IsInOrder w.frame p
