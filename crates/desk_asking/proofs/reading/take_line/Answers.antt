-- A byte more, or the end of the line.
use Rattle.std.proofs.Common.{◌≡◌, ◌∷◌, ◌++◌, [], ap, rules, sym}
use Rattle.desk_asking.proofs.Copying.{taken_then}
use Rattle.desk_asking.proofs.reading.take_line.Goals as goal

pub bytes-preserved : goal.bytes-preserved
bytes-preserved g c = taken_then _ _ _ _ _ _ c.bytes.invariant c.in_ok-byte.ensures c.in_ok-put_byte.ensures

pub returns-then-byte-eq10 : goal.returns-then-byte-eq10
returns-then-byte-eq10 g c =
    let ended : c.in_ok-byte.byte ≡ 10 = search rules in
    taken_then _ _ _ _ _ _ c.bytes.invariant c.in_ok-byte.ensures
    (ap (λ b. c.bytes.line.items ++ b ∷ []) (sym ended))
