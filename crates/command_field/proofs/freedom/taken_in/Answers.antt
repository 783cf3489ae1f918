-- Nothing is asked for; or two requests ask for one; or the world was asked, request by request, and then the limits.
use Rattle.std.proofs.Common.{◌∙◌, sym, inl, inr, refl}
use Rattle.command_requests.proofs.Untouched.{stands_after}
use Rattle.command_field.proofs.Free.{empty_list, free_list}
use Rattle.command_field.proofs.freedom.taken_in.Goals as goal

pub returns-then-is_empty-clause-told : goal.returns-then-is_empty-clause-told
returns-then-is_empty-clause-told g c = λ clean w stands.
    inl (empty_list c.args.requests.now c.is_empty.result c.is_empty.ensures c.if-is_empty.true)

pub returns-in-Some-clause-told : goal.returns-in-Some-clause-told
returns-in-Some-clause-told g c = λ clean w stands. inl (rw c.in-Some.is at c.in_ok-taken.ensures)

pub returns-in-Some-2-clause-told : goal.returns-in-Some-2-clause-told
returns-in-Some-2-clause-told g c = λ clean w stands.
    let told = rw c.in-Some-2.is at c.in_ok-taken-2.ensures.told in
    inr (inl (told clean w stands))

pub returns-then-branch-clause-told : goal.returns-then-branch-clause-told
returns-then-branch-clause-told g c = λ clean w stands.
    let apart = rw c.in_default.is at c.in_ok-taken.ensures in
    let new = rw c.in_default-2.is at c.in_ok-taken-2.ensures.told in
    let now = stands_after g.S.Store c.args.world.now c.first_taken.new.world c.in_ok-taken-2.ensures.read w stands in
    inr (free_list w c.args.holdings.now.items.now c.args.holdings.now.links.now c.args.requests.now apart
    (new clean w stands) (sym (c.in_ok-keeps_limits.ensures w now) ∙ c.if-branch.true))

pub returns-else-branch-clause-told : goal.returns-else-branch-clause-told
returns-else-branch-clause-told g c = λ clean w stands.
    let now = stands_after g.S.Store c.args.world.now c.first_taken.new.world c.in_ok-taken-2.ensures.read w stands in
    inr (inr (refl, sym (c.in_ok-keeps_limits.ensures w now) ∙ c.if-branch.false))
