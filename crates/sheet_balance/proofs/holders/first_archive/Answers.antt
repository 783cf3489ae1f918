-- None before it is without parent.
use Rattle.std.proofs.Common.{◌≡◌, sym, ap, true, false, arith, rules}
use Rattle.std.specs.Prelude.{is_none}
use Rattle.std.specs.Option.{option_map}
use Rattle.sheet_ledger.proofs.Walking.{all_done}
use Rattle.sheet_balance.proofs.Seen.{first_at, first_none}
use Rattle.sheet_balance.proofs.holders.first_archive.Goals as goal

pub returns-then-is_none : goal.returns-then-is_none
returns-then-is_none c =
    let alone : is_none c.holder-item.result.parent ≡ true = search rules in
    sym (ap (option_map (λ s. s.uuid)) (first_at (λ s. is_none s.parent) c.args.holders.now c.loop-holder.holder-index
    c.holder-item.result c.loop-holder-test.true c.holder-item.is c.loop-holder.invariant alone))

pub returns : goal.returns
returns c =
    sym (ap (option_map (λ s. s.uuid)) (first_none (λ s. is_none s.parent) c.args.holders.now
    (all_done (λ s. is_none s.parent ≡ false) c.args.holders.now c.loop-holder.holder-index
    (omega (arith, c.loop-holder-test.false)) c.loop-holder.invariant)))
