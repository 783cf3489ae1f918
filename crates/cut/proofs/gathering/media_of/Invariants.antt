use Rattle.std.proofs.Common.{◌≡◌, take}
use Rattle.cut.specs.Gathering.{media_at, has_member}
use Rattle.cut.proofs.gathering.media_of.Given as goal

abbrev pub invariant-loop-link : goal.invariant-loop-link
invariant-loop-link l = l.media.items ≡ media_at (has_member l.group) (take l.link-index l.links)
