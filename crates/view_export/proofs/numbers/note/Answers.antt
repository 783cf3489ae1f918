use Rattle.std.proofs.Common.{◌≡◌}
use Rattle.std.specs.Prelude.{unwrap_or}
use Rattle.view_export.specs.Numbers.{noted_in}
use Rattle.view_export.proofs.Noting.{first_noted}
use Rattle.view_export.proofs.numbers.note.Goals as goal

pub returns : goal.returns
returns c =
    let first : c.unwrap_or-first.result ≡ unwrap_or (noted_in c.args.numbers.now c.args.identity) c.args.number =
    cc in
    first_noted c.args.numbers.now c.insert.new.self c.args.identity c.args.number c.unwrap_or-first.result first
    c.in_ok-insert.ensures.updates
