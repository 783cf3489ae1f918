-- The text went out, and then not the end of its line.
use Rattle.std.proofs.Common.{◌∷◌, [], subst}
use Rattle.std.specs.Io.KnownBytes.{Appends}
use Rattle.manifest_csv.proofs.SentFacts.{went_out_after}
use Rattle.command_folder.proofs.ReadBodies.{on_err}
use Rattle.command_folder.proofs.printing.write_line.Goals as goal

pub returns-in_err-send-2-clause-err : goal.returns-in_err-send-2-clause-err
returns-in_err-send-2-clause-err g c =
    let first : Appends (g.W.Write.contents c.args.writer.now) (g.W.Write.contents c.send.new.writer) c.args.text.now =
    subst (Appends (g.W.Write.contents c.args.writer.now) (g.W.Write.contents c.send.new.writer))
    c.as_bytes.ensures.value c.in_ok-send.ensures.ok in
    on_err c.from_residual-in_err-send-2.result _ (went_out_after (g.W.Write.contents c.args.writer.now)
    (g.W.Write.contents c.send.new.writer) (g.W.Write.contents c.send-2.new.writer) c.args.text.now (10 ∷ [])
    first c.in_err-send-2.ensures.err)
