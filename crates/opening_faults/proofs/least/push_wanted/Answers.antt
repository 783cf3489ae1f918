-- Three ways: not looked for, no UUID, put in.
use Rattle.std.proofs.Common.{sym, ◌∙◌}
use Rattle.opening_faults.proofs.Choosing.{pushed_none, pushed_not, pushed_one}
use Rattle.opening_faults.proofs.least.push_wanted.Goals as goal

pub returns-then-not-wanted : goal.returns-then-not-wanted
returns-then-not-wanted c = pushed_none c.args.wanted c.args.split.now.target c.args.ids.now.items c.if-not-wanted.true

pub returns-in_default : goal.returns-in_default
returns-in_default c = pushed_not c.args.wanted c.args.split.now.target c.args.ids.now.items
    (λ id fit t. c.in_default.ensures.none id fit (c.as_str.ensures ∙ t))

pub returns : goal.returns
returns c =
    pushed_one c.args.wanted c.args.split.now.target c.args.ids.now.items c.push.new.self.items c.in-Some.id
    c.in_ok-push.ensures.items c.if-not-wanted.false
    (sym c.as_str.ensures ∙ c.in-Some.ensures.some) c.in-Some.ensures.fit
