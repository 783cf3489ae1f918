-- The thing is put in.
use Rattle.std.proofs.Common.{◌∙◌, ap, ◌||◌, bytes_eq}
use Rattle.std.specs.Ordering.{nat_cmp}
use Rattle.std.specs.Cmp.Lexicographic.{slice_cmp}
use Rattle.std.specs.BTreeSet.{contains}
use Rattle.sheet_ledger.proofs.Sets.{put_in}
use Rattle.sheet_balance.proofs.holding.note.Goals as goal

pub returns : goal.returns
returns c = λ q. put_in c.args.held.now c.insert.new.self c.of_moved.result c.in_ok-insert.ensures.updates q
    ∙ ap (λ k. contains (slice_cmp nat_cmp) c.args.held.now q || bytes_eq k q) c.of_moved.ensures
