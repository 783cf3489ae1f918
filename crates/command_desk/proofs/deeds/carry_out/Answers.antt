-- What was done is one request, at most.
use Rattle.std.proofs.Common.{refl}
use Rattle.desk_http.proofs.ServedBy.{same_by}
use Rattle.command_desk.specs.declared.deeds.Deed.TheVariants as deed
use Rattle.command_desk.proofs.Served.{done_served}
use Rattle.command_desk.proofs.deeds.carry_out.Goals as goal

pub returns-in-Apply-clause-done : goal.returns-in-Apply-clause-done
returns-in-Apply-clause-done g c = rw c.in-Apply.is (c.apply_in-told.result, refl, refl, c.apply_in-told.ensures)

pub returns-in-Apply-clause-served : goal.returns-in-Apply-clause-served
returns-in-Apply-clause-served g c =
    done_served g.S.Store c.apply_in-told.new.writer (g.W.Write.contents c.apply_in-told.new.writer) g.W.Write.contents
    c.args.world.now c.apply_in-told.new.world c.args.writer.now (g.W.Write.contents c.args.writer.now)
    c.args.files c.args.input.now deed.Apply _ _
    (c.apply_in-told.result, refl, refl, c.apply_in-told.ensures)

pub returns-in-Look-clause-done : goal.returns-in-Look-clause-done
returns-in-Look-clause-done g c = rw c.in-Look.is (c.look.ensures, refl)

pub returns-in-Look-clause-served : goal.returns-in-Look-clause-served
returns-in-Look-clause-served g c =
    done_served g.S.Store c.look.new.writer (g.W.Write.contents c.look.new.writer) g.W.Write.contents
    c.args.world.now c.look.new.world c.args.writer.now (g.W.Write.contents c.args.writer.now)
    c.args.files c.args.input.now (deed.Look c.in-Look.asked) _ _
    (c.look.ensures, refl)

pub returns-in-Named-clause-done : goal.returns-in-Named-clause-done
returns-in-Named-clause-done g c = rw c.in-Named.is c.look_by_name.ensures

pub returns-in-Named-clause-served : goal.returns-in-Named-clause-served
returns-in-Named-clause-served g c =
    done_served g.S.Store c.look_by_name.new.writer (g.W.Write.contents c.look_by_name.new.writer) g.W.Write.contents
    c.args.world.now c.look_by_name.new.world c.args.writer.now (g.W.Write.contents c.args.writer.now)
    c.args.files c.args.input.now (deed.Named c.in-Named.asked) _ _
    c.look_by_name.ensures

pub returns-in-Order-clause-done : goal.returns-in-Order-clause-done
returns-in-Order-clause-done g c = rw c.in-Order.is (c.hint_order_in-told.result.0, refl, c.hint_order_in-told.ensures)

pub returns-in-Order-clause-served : goal.returns-in-Order-clause-served
returns-in-Order-clause-served g c =
    done_served g.S.Store c.hint_order_in-told.new.writer (g.W.Write.contents c.hint_order_in-told.new.writer)
    g.W.Write.contents c.args.world.now c.hint_order_in-told.new.world c.args.writer.now
    (g.W.Write.contents c.args.writer.now)
    c.args.files c.args.input.now (deed.Order c.in-Order.order c.in-Order.purpose) _ _
    (c.hint_order_in-told.result.0, refl, c.hint_order_in-told.ensures)

pub returns-in-LendBox-clause-done : goal.returns-in-LendBox-clause-done
returns-in-LendBox-clause-done g c = rw c.in-LendBox.is (c.lend_box_in-told.result.0, refl, c.lend_box_in-told.ensures)

pub returns-in-LendBox-clause-served : goal.returns-in-LendBox-clause-served
returns-in-LendBox-clause-served g c =
    done_served g.S.Store c.lend_box_in-told.new.writer (g.W.Write.contents c.lend_box_in-told.new.writer)
    g.W.Write.contents c.args.world.now c.lend_box_in-told.new.world c.args.writer.now
    (g.W.Write.contents c.args.writer.now)
    c.args.files c.args.input.now (deed.LendBox c.in-LendBox.boxed c.in-LendBox.purpose) _ _
    (c.lend_box_in-told.result.0, refl, c.lend_box_in-told.ensures)

pub returns-in-Carry-clause-done : goal.returns-in-Carry-clause-done
returns-in-Carry-clause-done g c = rw c.in-Carry.is (c.carry_in-told.result, refl, refl, c.carry_in-told.ensures)

pub returns-in-Carry-clause-served : goal.returns-in-Carry-clause-served
returns-in-Carry-clause-served g c =
    done_served g.S.Store c.carry_in-told.new.writer (g.W.Write.contents c.carry_in-told.new.writer) g.W.Write.contents
    c.args.world.now c.carry_in-told.new.world c.args.writer.now (g.W.Write.contents c.args.writer.now)
    c.args.files c.args.input.now (deed.Carry c.in-Carry.report) _ _
    (c.carry_in-told.result, refl, refl, c.carry_in-told.ensures)

pub returns-in-Frame-clause-done : goal.returns-in-Frame-clause-done
returns-in-Frame-clause-done g c =
    rw c.in-Frame.is (c.tell_frame-told.result, refl, refl, refl, c.tell_frame-told.ensures)

pub returns-in-Frame-clause-served : goal.returns-in-Frame-clause-served
returns-in-Frame-clause-served g c = same_by g.S.Store c.args.world.now c.args.world.now refl
