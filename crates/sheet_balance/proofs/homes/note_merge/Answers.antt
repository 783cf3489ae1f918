-- The source of a merge comes home where its target does; what is no merge brings nothing home.
use Rattle.std.proofs.Common.{◌∙◌, sym}
use Rattle.sheet_balance.proofs.Coming.{stays, stays_unnamed, has_target, comes_home}
use Rattle.sheet_balance.proofs.homes.note_merge.Goals as goal

pub returns-then-not-is_merge : goal.returns-then-not-is_merge
returns-then-not-is_merge c = λ entered. stays c.args.merged.now c.args.receipt.now
    (sym c.is_merge.ensures ∙ c.if-not-is_merge.true)

pub returns-in_default : goal.returns-in_default
returns-in_default c = λ entered. stays_unnamed c.args.merged.now c.args.receipt.now c.in_default.is

pub returns-in_default-target : goal.returns-in_default-target
returns-in_default-target c = λ entered. absurd (has_target c.args.receipt.now entered
    (sym c.is_merge.ensures ∙ c.if-not-is_merge.false) c.in_default-target.is)

pub returns : goal.returns
returns c = λ entered.
    comes_home c.args.merged.now c.insert.new.self c.args.receipt.now c.in-Some.source c.in-Some-target.target
    c.home_of-home.result (sym c.is_merge.ensures ∙ c.if-not-is_merge.false) c.in-Some.is c.in-Some-target.is
    c.home_of-home.ensures c.in_ok-insert.ensures.updates
