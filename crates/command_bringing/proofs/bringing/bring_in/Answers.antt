-- What was answered is what came of it.
use Rattle.std.proofs.Common.{inl, inr, refl, rules}
use Rattle.command_bringing.proofs.Homecoming.{answer_home, stopped_home}
use Rattle.command_bringing.proofs.bringing.bring_in.Goals as goal

pub returns-in-Ok-clause-brings : goal.returns-in-Ok-clause-brings
returns-in-Ok-clause-brings g c =
    inr (
      c.in-Ok.answer,
      c.answer_of.new.world,
      c.in-Ok.ensures.read,
      (λ clean w stands. c.in-Ok.ensures.told clean w stands),
      c.end_answer-ending.ensures,
    )

pub returns-in-Ok-clause-home : goal.returns-in-Ok-clause-home
returns-in-Ok-clause-home g c =
    answer_home g.S.Store c.args.writer.now c.end_answer-ending.new.writer (g.W.Write.contents c.args.writer.now)
    (g.W.Write.contents c.end_answer-ending.new.writer)
    c.args.ask.now (g.R.Read.remaining c.args.reader) c.args.world.now c.end_answer-ending.new.world
    (g.H.Shelf.failures_of c.args.shelf.now) (g.H.Shelf.failures_of c.end_answer-ending.new.shelf)
    c.end_answer-ending.result
    c.args.purpose c.in-Ok.answer c.answer_of.new.world c.in-Ok.ensures.read
    (λ clean w stands. c.in-Ok.ensures.told clean w stands) c.in-Ok.ensures.merges c.end_answer-ending.ensures

pub returns-in-Err-clause-home : goal.returns-in-Err-clause-home
returns-in-Err-clause-home g c = stopped_home g.S.Store c.args.ask.now (g.R.Read.remaining c.args.reader)
    c.args.purpose c.args.world.now _ _ _ refl (λ e. cc)
