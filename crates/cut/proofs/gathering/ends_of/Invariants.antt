use Rattle.std.proofs.Common.{◌≡◌, take}
use Rattle.std.specs.Prelude.{flat_map}
use Rattle.cut.specs.Gathering.{ends_of}
use Rattle.cut.proofs.gathering.ends_of.Given as goal

abbrev pub invariant-loop-link : goal.invariant-loop-link
invariant-loop-link l = l.ends.items ≡ flat_map ends_of (take l.link-index l.links)
