use Rattle.std.proofs.Common.{◌≡◌, true, rules}
use Rattle.httparse.specs.Spans.{header_bytes}
use Rattle.desk_calls.specs.Calls.{is_named}
use Rattle.desk_calls.proofs.lengths.with_field.Goals as goal

pub returns-then-is_named : goal.returns-then-is_named
returns-then-is_named c =
    let named : is_named c.args.name.now (header_bytes c.args.input.now c.args.header) ≡ true = search rules in
    λ before found. rw named (rw c.of.ensures at (c.with_one_more.ensures before found))
