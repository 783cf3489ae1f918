-- The map has the greater number at this key, and what it had at every other.
use Rattle.std.proofs.Common.{unwrap_or, max, ◌≡◌, rules}
use Rattle.std.specs.Ordering.{nat_cmp}
use Rattle.std.specs.Cmp.Lexicographic.{slice_cmp}
use Rattle.std.specs.BTreeMap.{get}
use Rattle.sheet_ledger.proofs.Maps.{noted}
use Rattle.sheet_ledger.proofs.loans.note_merge.Goals as goal

pub returns : goal.returns
returns c =
    let was : c.unwrap_or-last.result ≡ unwrap_or (get (slice_cmp nat_cmp) c.args.merges.now c.args.source) 0 = cc in
    let top : c.max.result ≡ max c.unwrap_or-last.result c.args.seq = search rules in
    noted c.args.merges.now c.insert.new.self c.args.source c.unwrap_or-last.result c.args.seq c.max.result was top
    c.in_ok-insert.ensures.updates
