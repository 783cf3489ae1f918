-- The splits of the list are the open ones, and the counts are those of their loans.
use Rattle.std.specs.Prelude.{Result, Ok, Err, IfOk}
use Rattle.opening_numbers.proofs.Naming.{splits_last}
use Rattle.opening_numbers.proofs.numbers.number_of_split.Goals as goal

ok_so : {X E : Type 0} (P Q : X → Type 0) (r : Result X E) → ((x : X) → P x → Q x) → IfOk r P → IfOk r Q
ok_so P Q (Ok x) f h = f x h
ok_so P Q (Err e) f h = tt

pub returns : goal.returns
returns c =
    ok_so _ _ c.last_split.result
    (splits_last c.args.sights.now c.args.splits.now c.requires c.in_ok-counts.counts c.in_ok-counts.ensures c.args.id
    c.args.loans) c.last_split.ensures
