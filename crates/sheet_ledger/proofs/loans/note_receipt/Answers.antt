-- What has no source is no merge.
use Rattle.std.proofs.Common.{false, nat_lt}
use Rattle.std.specs.Option.{option_map_or}
use Rattle.std.specs.Ordering.{nat_cmp}
use Rattle.std.specs.Cmp.Lexicographic.{slice_cmp}
use Rattle.std.specs.BTreeMap.{get}
use Rattle.sheet_types.specs.Custody.{is_merge}
use Rattle.sheet_ledger.proofs.Lending.{unnamed}
use Rattle.sheet_ledger.proofs.loans.note_receipt.Goals as goal

pub returns-in_default : goal.returns-in_default
returns-in_default c = λ p n. unnamed (option_map_or (nat_lt n) (get (slice_cmp nat_cmp) c.args.merges.now p) false)
    (is_merge c.args.receipt.now) (nat_lt n c.args.receipt.now.seq) c.args.receipt.now.source p c.in_default.is
