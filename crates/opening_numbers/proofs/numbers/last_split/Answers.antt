-- One split more.
use Rattle.std.proofs.Common.{◌≡◌, sym, subst, rules, ◌+◌, take}
use Rattle.std.specs.Prelude.{max}
use Rattle.std.proofs.lemmas.List.{take_all}
use Rattle.sheet_ledger.proofs.Walking.{one_more}
use Rattle.opening_faults.specs.Copies.{copies_of}
use Rattle.opening_numbers.specs.Numbers.{Among, IsLast, IsOfSplit}
use Rattle.opening_numbers.proofs.Lasting.{among_more}
use Rattle.opening_numbers.proofs.numbers.last_split.Goals as goal

pub loop-split-preserved : goal.loop-split-preserved
loop-split-preserved c =
    let i = c.loop-split.split-index in
    let splits = c.args.splits.now in
    let s = c.split-item.result in
    let here : IsLast (IsOfSplit c.args.id c.args.loans (copies_of c.args.counts.now s) s) c.split_number.result =
    subst (λ copies. IsLast (IsOfSplit c.args.id c.args.loans copies s) c.split_number.result) c.in_ok-copies.ensures
    c.split_number.ensures in
    let top : c.max-last.result ≡ max c.loop-split.last c.split_number.result = search rules in
    subst (IsLast (Among (λ split. IsOfSplit c.args.id c.args.loans (copies_of c.args.counts.now split) split)
    (take (i + 1) splits))) (sym top)
    (among_more (λ split. IsOfSplit c.args.id c.args.loans (copies_of c.args.counts.now split) split) (take i splits)
    (take (i + 1) splits) s
    (one_more splits i s c.loop-split-test.true c.split-item.is) c.loop-split.last c.split_number.result
    c.loop-split.invariant here)

pub returns : goal.returns
returns c =
    subst (λ splits. IsLast (Among (λ split. IsOfSplit c.args.id c.args.loans (copies_of c.args.counts.now split)
    split) splits) c.loop-split.last)
    (take_all c.loop-split.split-index c.args.splits.now c.loop-split-test.false) c.loop-split.invariant
