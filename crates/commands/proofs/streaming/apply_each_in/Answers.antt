-- Before anything is read, a buffer has what its reader has.
use Rattle.std.proofs.Common.{◌≡◌, ◌∙◌, inl, refl, subst}
use Rattle.std.specs.Io.Buffered.{reader_remaining}
use Rattle.commands.specs.Streams.{AppliesEach}
use Rattle.commands.proofs.LineFacts.{unread_buffer}
use Rattle.commands.proofs.streaming.apply_each_in.Goals as goal

pub returns-in-Ok : goal.returns-in-Ok
returns-in-Ok g c =
    subst (λ left. AppliesEach g.S.Store left c.args.world.now c.apply_lines.new.world c.args.writer.now
    c.apply_lines.new.writer (g.W.Write.contents c.args.writer.now) (g.W.Write.contents c.apply_lines.new.writer)
    c.apply_lines.result)
    (unread_buffer g.R.Read.remaining c.in-Ok.reader c.args.reader c.in-Ok.ensures.inner c.in-Ok.ensures.empty
    c.in-Ok.ensures.capacity) c.apply_lines.ensures

pub returns-in-Err : goal.returns-in-Err
returns-in-Err g c = inl (inl (inl refl, refl, refl))
