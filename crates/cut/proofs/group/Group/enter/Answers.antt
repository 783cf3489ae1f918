use Rattle.std.proofs.Common.{rules, ◌∙◌, sym, refl}
use Rattle.sheet_types.proofs.Basics.{not_false}
use Rattle.cut.proofs.Members.{enters_one, enters_none}
use Rattle.cut.proofs.group.Group.enter.Goals as goal

pub returns-in_ok-push : goal.returns-in_ok-push
returns-in_ok-push c = enters_one c.args.id c.args.self.now (record
    { order = c.push.new.self; known = c.insert.new.self }) c.requires c.in_ok-push.ensures.items
    c.in_ok-insert.ensures.updates.0

pub returns-else-branch : goal.returns-else-branch
returns-else-branch c = enters_none c.args.id c.args.self.now
    (record { order = c.args.self.now.order; known = c.insert.new.self }) c.requires refl (search rules)
    (not_false _ (sym c.in_ok-insert.ensures.added ∙ c.if-branch.false))
