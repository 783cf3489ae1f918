-- One package more, or a beginning of it.
use Rattle.std.proofs.KnownBytes.{Appends-nil}
use Rattle.cli.proofs.Pieces.{failed, one_written, one_failed}
use Rattle.cli.proofs.rehearse.write_each.Goals as goal

pub loop-sight-init : goal.loop-sight-init
loop-sight-init g c = record {
  stands = ((λ clean. clean), (λ w stands. stands));
  written = λ clean w stands. Appends-nil (g.W.Write.contents c.args.writer.now);
}

pub returns-in_err-write_package-clause-stands : goal.returns-in_err-write_package-clause-stands
returns-in_err-write_package-clause-stands g c = (
  (λ clean. c.loop-sight.invariant.stands.0
      (c.in_err-write_package.ensures.stands.0 clean)),
  (λ w stands. c.in_err-write_package.ensures.stands.1 w
      (c.loop-sight.invariant.stands.1 w stands)),
)

pub returns-in_err-write_package-clause-written : goal.returns-in_err-write_package-clause-written
returns-in_err-write_package-clause-written g c = λ clean w stands.
    let before = c.in_err-write_package.ensures.stands.0 clean in
    let now = c.loop-sight.invariant.stands.1 w stands in
    failed _ _ c.from_residual.result c.from_residual.ensures.0
    (one_failed w c.args.sights.now c.loop-sight.sight-index c.loop-sight-test.true c.sight-item.result
    c.sight-item.is (g.W.Write.contents c.args.writer.now) (g.W.Write.contents c.loop-sight.writer)
    (g.W.Write.contents c.write_package.new.writer)
    (c.loop-sight.invariant.written before w stands) (c.in_err-write_package.ensures.written clean w now))

pub loop-sight-preserved : goal.loop-sight-preserved
loop-sight-preserved g c = record {
  stands = (
    (λ clean. c.loop-sight.invariant.stands.0 (c.in_ok-write_package.ensures.stands.0 clean)),
    (λ w stands. c.in_ok-write_package.ensures.stands.1 w (c.loop-sight.invariant.stands.1 w stands)),
  );
  written = λ clean w stands.
      one_written w c.args.sights.now c.loop-sight.sight-index c.loop-sight-test.true c.sight-item.result
      c.sight-item.is (g.W.Write.contents c.args.writer.now) (g.W.Write.contents c.loop-sight.writer)
      (g.W.Write.contents c.write_package.new.writer)
      (c.loop-sight.invariant.written (c.in_ok-write_package.ensures.stands.0 clean) w stands)
      (c.in_ok-write_package.ensures.written clean w (c.loop-sight.invariant.stands.1 w stands));
}
