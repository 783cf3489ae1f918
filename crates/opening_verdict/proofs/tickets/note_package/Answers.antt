-- The map has the greater number at this key, and what it had at every other.
use Rattle.std.proofs.Common.{◌≡◌, max, rules}
use Rattle.opening_verdict.specs.Tickets.{last_in}
use Rattle.opening_verdict.proofs.Lasting.{last_noted}
use Rattle.opening_verdict.proofs.tickets.note_package.Goals as goal

pub returns : goal.returns
returns c =
    let was : c.unwrap_or-before.result ≡ last_in c.args.last.now c.args.package = cc in
    let top : c.max.result ≡ max c.unwrap_or-before.result c.args.seq = search rules in
    last_noted c.args.last.now c.insert.new.self c.args.package c.unwrap_or-before.result c.args.seq c.max.result was
    top c.in_ok-insert.ensures.updates
