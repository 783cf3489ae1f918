use Rattle.std.proofs.Common.{◌≡◌, take}
use Rattle.field_home_laws.specs.Free.{ids_added}
use Rattle.command_field.proofs.identities.added_ids.Given as goal

-- those of the requests so far
abbrev pub invariant-loop-request : goal.invariant-loop-request
invariant-loop-request l = record { added : l.ids.items ≡ ids_added (take l.request-index l.requests) }
