-- A pair more is read, or the first that is none is met.
use Rattle.std.proofs.Common.{arith, ◌*◌}
use Rattle.hex.proofs.Pairs.{decode_step, decode_done, decode_start}
use Rattle.request_csv.proofs.DigitFacts.{no_bytes}
use Rattle.request_csv.proofs.digits.decode_into.Goals as goal

pub loop-i-init : goal.loop-i-init
loop-i-init c = decode_start c.args.text.now c.args.bytes.now

pub loop-i-preserved : goal.loop-i-preserved
loop-i-preserved c =
    decode_step _ _ c.loop-i.i _ (omega arith) (omega arith) (c.in-Some.ensures.some (2 * c.loop-i.i))
    c.loop-i.invariant

pub returns-in_default-clause-others : goal.returns-in_default-clause-others
returns-in_default-clause-others c =
    λ _. no_bytes _ c.loop-i.bytes c.loop-i.i (omega arith) (c.in_default.ensures.none (2 * c.loop-i.i))
    c.loop-i.invariant

pub returns-clause-digits : goal.returns-clause-digits
returns-clause-digits c =
    λ _. decode_done _ c.loop-i.bytes c.loop-i.i (omega arith) (omega arith) c.loop-i.invariant
