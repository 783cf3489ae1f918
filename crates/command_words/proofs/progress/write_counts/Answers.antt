-- The pieces in turn.
use Rattle.std.proofs.Common.{◌∙◌, codes, decimal, subst}
use Rattle.std.specs.Io.KnownBytes.{Appends}
use Rattle.command_words.proofs.Telling.{four_sent}
use Rattle.command_words.proofs.progress.write_counts.Goals as goal

pub returns : goal.returns
returns g c = record {
  ok =
      let first : Appends (g.W.Write.contents c.args.writer.now) (g.W.Write.contents c.send.new.writer)
      (decimal c.args.done) =
      subst (Appends (g.W.Write.contents c.args.writer.now) (g.W.Write.contents c.send.new.writer))
      (c.as_bytes.ensures.value ∙ c.format.ensures.text) c.in_ok-send.ensures.ok in
      let third : Appends (g.W.Write.contents c.send-2.new.writer) (g.W.Write.contents c.send-3.new.writer)
      (decimal c.args.all) =
      subst (Appends (g.W.Write.contents c.send-2.new.writer) (g.W.Write.contents c.send-3.new.writer))
      (c.as_bytes-2.ensures.value ∙ c.format-2.ensures.text) c.in_ok-send-3.ensures.ok in
      four_sent (g.W.Write.contents c.args.writer.now) (g.W.Write.contents c.send.new.writer)
      (g.W.Write.contents c.send-2.new.writer) (g.W.Write.contents c.send-3.new.writer)
      (g.W.Write.contents c.send-4.new.writer)
      (decimal c.args.done) (codes " of ") (decimal c.args.all) c.args.what.now c.send-4.result first
      c.in_ok-send-2.ensures.ok third c.send-4.ensures.ok;
}
