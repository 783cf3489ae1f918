use Rattle.std.proofs.Common.{◌≡◌, map, take}
use Rattle.package_items.proofs.unique.uuids_of.Given as goal

-- The keys are the UUIDs of the rows so far.
abbrev pub invariant-loop-row : goal.invariant-loop-row
invariant-loop-row l = map (λ k. k.now) l.keys.items ≡ map (λ r. r.uuid) (take l.row-index l.rows)
