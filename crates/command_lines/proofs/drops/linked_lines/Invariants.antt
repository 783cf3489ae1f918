use Rattle.std.proofs.Common.{◌≡◌, take}
use Rattle.std.specs.Prelude.{string_bytes}
use Rattle.command_lines.specs.Drops.{linked_lines}
use Rattle.command_lines.proofs.drops.linked_lines.Given as goal

-- the lines of the links so far
abbrev pub invariant-loop-link : goal.invariant-loop-link
invariant-loop-link l = string_bytes l.text ≡ linked_lines (take l.link-index l.links)
