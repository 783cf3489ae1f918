use Rattle.std.proofs.Common.{◌≡◌, take, IsTrue}
use Rattle.std.specs.Prelude.{◌↔◌}
use Rattle.package_tables.specs.Fixed.{first_levels}
use Rattle.package_schema.proofs.frame_rows.are_levels.Given as goal

-- the rows so far are the first levels, or are not
abbrev pub invariant-loop-at : goal.invariant-loop-at
invariant-loop-at l = IsTrue l.are ↔ (take l.at l.fn.rows ≡ first_levels l.fn.frame l.at)
