-- The line goes out, and then the manifest.
use Rattle.std.proofs.Common.{◌∙◌, subst}
use Rattle.std.specs.Io.KnownBytes.{Appends}
use Rattle.manifest_csv.specs.PackageManifests.{manifest}
use Rattle.manifest_csv.specs.Sent.{WentOut}
use Rattle.manifest_csv.proofs.SentFacts.{went_out_of}
use Rattle.cli.specs.Rehearsals.{package_line, package_text}
use Rattle.cli.proofs.Pieces.{failed, nothing_out, package_some, manifest_failed}
use Rattle.cli.proofs.rehearse.write_package.Goals as goal

pub returns-in_err-line-clause-written : goal.returns-in_err-line-clause-written
returns-in_err-line-clause-written g c = λ clean w stands. failed _ _ c.from_residual.result c.from_residual.ensures.0
    (nothing_out (g.W.Write.contents c.args.writer.now) (package_text w c.args.package)
    (package_some w c.args.package))

pub returns-in_err-send-clause-written : goal.returns-in_err-send-clause-written
returns-in_err-send-clause-written g c =
    let line : WentOut (g.W.Write.contents c.args.writer.now) (g.W.Write.contents c.send.new.writer)
    (package_line c.args.package) =
    subst (WentOut (g.W.Write.contents c.args.writer.now) (g.W.Write.contents c.send.new.writer))
    (c.as_bytes.ensures.value ∙ c.in_ok-line.ensures) c.in_err-send.ensures.err in
    λ clean w stands. failed _ _ c.from_residual-in_err-send.result c.from_residual-in_err-send.ensures.0
    (went_out_of (g.W.Write.contents c.args.writer.now) (g.W.Write.contents c.send.new.writer)
    (package_line c.args.package) (manifest w c.args.package) line)

pub returns-in_err-write_manifest-clause-written : goal.returns-in_err-write_manifest-clause-written
returns-in_err-write_manifest-clause-written g c =
    let line : Appends (g.W.Write.contents c.args.writer.now) (g.W.Write.contents c.send.new.writer)
    (package_line c.args.package) =
    subst (Appends (g.W.Write.contents c.args.writer.now) (g.W.Write.contents c.send.new.writer))
    (c.as_bytes.ensures.value ∙ c.in_ok-line.ensures) c.in_ok-send.ensures.ok in
    λ clean w stands. failed _ _ c.from_residual-in_err-write_manifest.result
    c.from_residual-in_err-write_manifest.ensures.0
    (manifest_failed g.W.Write.contents w c.args.package (g.W.Write.contents c.args.writer.now) c.send.new.writer
    c.write_manifest.new.writer line c.in_err-write_manifest.field-0.0
    (c.in_err-write_manifest.ensures.written clean w stands) c.in_err-write_manifest.ensures.nothing)
