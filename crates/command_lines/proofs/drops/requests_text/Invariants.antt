use Rattle.std.proofs.Common.{◌≡◌, take}
use Rattle.std.specs.Prelude.{string_bytes}
use Rattle.command_lines.specs.Drops.{requests_text}
use Rattle.command_lines.proofs.drops.requests_text.Given as goal

-- the lines of the requests so far
abbrev pub invariant-loop-request : goal.invariant-loop-request
invariant-loop-request l = string_bytes l.text ≡ requests_text (take l.request-index l.requests)
