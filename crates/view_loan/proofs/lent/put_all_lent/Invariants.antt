use Rattle.std.proofs.Common.{◌≡◌, ◌++◌, flat_map, take}
use Rattle.std.specs.Prelude.{string_bytes}
use Rattle.view_loan.specs.Lent.{lent_row}
use Rattle.view_loan.proofs.lent.put_all_lent.Given as goal

-- the text of those so far
abbrev pub invariant-loop-moved : goal.invariant-loop-moved
invariant-loop-moved l = string_bytes l.text ≡ string_bytes l.initial.text
    ++ flat_map (lent_row l.register) (take l.moved-index l.items)
