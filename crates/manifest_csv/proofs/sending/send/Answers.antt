-- What a write took stands after what went out before it.
use Rattle.std.proofs.KnownBytes.{Appends-kept}
use Rattle.manifest_csv.proofs.SentFacts.{sent_more, more_within}
use Rattle.manifest_csv.proofs.sending.send.Goals as goal
use Rattle.manifest_csv.proofs.sending.send.Goals.{in-Ok, in-Err+else-ne}

pub sending-preserved : goal.sending-preserved
sending-preserved g c = elim c.match-write.branch [
  | in-Ok w ↦ record {
    within = rw w.at-is (more_within c.args.text.now c.sending.at w.in-Ok.taken c.sending.invariant.within
        w.in-Ok.ensures.bound);
    out = rw w.at-is (sent_more _ _ _ c.args.text.now c.sending.at w.in-Ok.taken c.sending.invariant.out
        w.in-Ok.ensures.bytes);
  }
  | in-Err+else-ne w ↦ record {
    within = rw w.at-is c.sending.invariant.within;
    out = rw w.at-is (Appends-kept _ _ _ _ c.sending.invariant.out w.in-Err.ensures.bytes);
  }
]
