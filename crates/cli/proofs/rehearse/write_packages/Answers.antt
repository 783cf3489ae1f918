-- The list of the packages is that of the world.
use Rattle.std.proofs.Common.{◌∙◌, ap, map}
use Rattle.world.specs.Reading.{sight_of}
use Rattle.cli.specs.Rehearsals.{live_text}
use Rattle.cli.proofs.Pieces.{failed, nothing_out, live_some, listed_text, all_listed}
use Rattle.cli.proofs.Rehearsing.{due_same}
use Rattle.cli.proofs.rehearse.write_packages.Goals as goal

pub returns-in_err-sights-clause-stands : goal.returns-in_err-sights-clause-stands
returns-in_err-sights-clause-stands g c = ((λ clean. clean), (λ w stands. stands))

pub returns-in_err-sights-clause-written : goal.returns-in_err-sights-clause-written
returns-in_err-sights-clause-written g c = λ clean w stands. failed _ _ c.from_residual.result
    c.from_residual.ensures.0 (nothing_out (g.W.Write.contents c.args.writer.now) (live_text w)
    (live_some w stands.members.register))

pub returns-clause-stands : goal.returns-clause-stands
returns-clause-stands g c = c.write_each.ensures.stands

pub returns-clause-written : goal.returns-clause-written
returns-clause-written g c =
    due_same g.S.Store (λ w. listed_text w c.as_slice.result.now) live_text c.args.world.now c.write_each.new.world
    (g.W.Write.contents c.args.writer.now) (g.W.Write.contents c.write_each.new.writer) c.write_each.result
    (λ w stands. all_listed w c.as_slice.result.now (ap (map sight_of) c.as_slice.ensures.value
    ∙ c.in_ok-sights.ensures w stands)) c.write_each.ensures.written
