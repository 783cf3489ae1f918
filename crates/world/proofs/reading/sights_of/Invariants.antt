use Rattle.std.proofs.Common.{◌≡◌, map, take}
use Rattle.world.specs.Reading.{member_sight}
use Rattle.world.proofs.reading.sights_of.Given as goal

abbrev pub invariant-loop-member : goal.invariant-loop-member
invariant-loop-member g l = record { listed : l.sights.items ≡ map member_sight (take l.member-index l.members) }
