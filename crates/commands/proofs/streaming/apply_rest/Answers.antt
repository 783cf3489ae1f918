-- One line more, or why there is none.
use Rattle.std.proofs.Common.{◌∙◌, ◌++◌, ◌∷◌, [], inl, inr, refl, rules, sym}
use Rattle.command_folder.specs.Endings.{failed}
use Rattle.commands.specs.Streams.{TakesNext, stage}
use Rattle.commands.proofs.LineFacts.{at_end}
use Rattle.commands.proofs.StreamFacts.{steps_more}
use Rattle.commands.proofs.streaming.apply_rest.Goals as goal

pub lines-init : goal.lines-init
lines-init g c = ([], refl)

pub returns-then-is_stop : goal.returns-then-is_stop
returns-then-is_stop g c = record {
  lines = c.lines.invariant.0;
  last = stage (g.R.Read.remaining c.lines.reader) c.lines.world (g.W.Write.contents c.lines.writer) c.lines.ending;
  taken = c.lines.invariant.1;
  world = refl;
  ended = inl (inl (sym c.is_stop.ensures ∙ c.if-is_stop.true), refl, refl);
}

pub returns-in-Err : goal.returns-in-Err
returns-in-Err g c = record {
  lines = c.lines.invariant.0;
  last = stage (g.R.Read.remaining c.lines.reader) c.lines.world (g.W.Write.contents c.lines.writer) c.lines.ending;
  taken = c.lines.invariant.1;
  world = refl;
  ended = inr (
    sym c.is_stop.ensures ∙ c.if-is_stop.false,
    (c.tell_unread.result, c.tell_unread.ensures, c.ending_then.ensures),
  );
}

pub returns-then-is_empty : goal.returns-then-is_empty
returns-then-is_empty g c = record {
  lines = c.lines.invariant.0;
  last = stage (g.R.Read.remaining c.lines.reader) c.lines.world (g.W.Write.contents c.lines.writer) c.lines.ending;
  taken = c.lines.invariant.1;
  world = refl;
  ended = inl (inr (at_end _ _ _ c.in-Ok.ensures.line (search rules)), refl, refl);
}

pub lines-preserved : goal.lines-preserved
lines-preserved g c = (
  c.lines.invariant.0 ++ c.in-Ok.line.items ∷ [],
  steps_more (TakesNext g.S.Store) c.lines.invariant.0 c.in-Ok.line.items _ _ _ c.lines.invariant.1 (record {
    goes_on = sym c.is_stop.ensures ∙ c.if-is_stop.false;
    read = c.in-Ok.ensures.line;
    ending = c.answer_line.result;
    taken = rw c.deref.ensures.value at c.answer_line.ensures;
    next_ending = c.ending_then-ending.ensures;
  }),
)

pub returns-then-is_stop-2 : goal.returns-then-is_stop-2
returns-then-is_stop-2 g c = record {
  lines = c.lines.invariant.0;
  last = stage (g.R.Read.remaining c.lines.reader) c.lines.world (g.W.Write.contents c.lines.writer) c.lines.ending;
  taken = c.lines.invariant.1;
  world = refl;
  ended = inl (inl (sym c.is_stop-2.ensures ∙ c.if-is_stop-2.true), refl, refl);
}

pub returns : goal.returns
returns g c = record {
  lines = c.lines.invariant.0;
  last = stage (g.R.Read.remaining c.lines.reader) c.lines.world (g.W.Write.contents c.lines.writer) c.lines.ending;
  taken = c.lines.invariant.1;
  world = refl;
  ended = inr (sym c.is_stop-2.ensures ∙ c.if-is_stop-2.false, (failed, inr (refl, refl), refl));
}
