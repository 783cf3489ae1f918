-- What the list of packages says of one. Profile.
use Rattle.sheet_types.specs.Answers.{PackageSight as ModelSight}
use Rattle.world_members.specs.declared.members.Member.{Member}
use Rattle.world.specs.declared.reading.PackageSight.{PackageSight}

-- in the words of the model
abbrev pub sight_of : PackageSight → ModelSight
sight_of s = record { uuid = s.uuid; parent = s.parent; depth = s.depth; ticket = s.ticket }

-- by what is kept of its member
abbrev pub member_sight : {S : Type 0} → Member S → PackageSight
member_sight m = record { uuid = m.uuid; parent = m.parent; depth = m.depth; ticket = m.ticket }
