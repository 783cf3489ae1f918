-- A byte more, or the end of the line.
use Rattle.std.proofs.Common.{◌≡◌, None, Some, false, nat_eq, rules, subst}
use Rattle.std.specs.Io.KnownBytes.{Consumes}
use Rattle.commands.specs.Streams.{GivesByte}
use Rattle.commands.proofs.LineFacts.{SoFar, ended_here, ended_there, none_yet, one_more}
use Rattle.commands.proofs.streaming.take_line.Goals as goal

pub bytes-init : goal.bytes-init
bytes-init g c = rw c.new-line.ensures.items (none_yet _)

pub returns-in_default-clause-line : goal.returns-in_default-clause-line
returns-in_default-clause-line g c =
    let none : c.in_ok-byte.field-0 ≡ None = search rules in
    ended_there _ _ _ _ _ c.bytes.invariant c.in_ok-byte.ensures.next none

pub returns-then-byte-eq10-clause-line : goal.returns-then-byte-eq10-clause-line
returns-then-byte-eq10-clause-line g c =
    let end : c.in-Some.byte ≡ 10 = search rules in
    ended_here _ _ _ _ _ c.in-Some.byte c.bytes.invariant (rw c.in-Some.is at c.in_ok-byte.ensures.next) end
    c.in_ok-put_byte.ensures.ok

pub bytes-preserved : goal.bytes-preserved
bytes-preserved g c =
    let other : nat_eq c.in-Some.byte 10 ≡ false = search rules in
    one_more _ _ _ _ _ c.in-Some.byte c.bytes.invariant (rw c.in-Some.is at c.in_ok-byte.ensures.next) other
    c.in_ok-put_byte.ensures.ok

pub returns-in-None-clause-line : goal.returns-in-None-clause-line
returns-in-None-clause-line g c =
    let none : c.in_ok-next_byte.field-0 ≡ None = search rules in
    ended_there _ _ _ _ _ c.bytes.invariant c.in_ok-next_byte.ensures.next none
