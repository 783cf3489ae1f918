use Rattle.std.proofs.Common.{◌≡◌, false, take}
use Rattle.std.specs.List.{AllByRecursion}
use Rattle.opening_stores.specs.Judged.{said_root}
use Rattle.opening_stores.proofs.judging.archive_frame.Given as goal

-- none so far says so
abbrev pub invariant-loop-store : goal.invariant-loop-store
invariant-loop-store l = AllByRecursion (λ s. said_root s ≡ false) (take l.store-index l.seen)
