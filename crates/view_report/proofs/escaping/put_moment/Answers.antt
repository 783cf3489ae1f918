use Rattle.std.proofs.Common.{◌∙◌, ◌++◌, ap, flat_map, map-id, sym}
use Rattle.std.proofs.lemmas.Iterator.{YieldsList-from_chars}
use Rattle.std.proofs.lemmas.Iterator.Consumers.{YieldsList-end}
use Rattle.std.specs.Prelude.{string_bytes}
use Rattle.view_report.specs.Escaping.{moment_code}
use Rattle.view_report.proofs.escaping.put_moment.Goals as goal

pub returns : goal.returns
returns c =
    let end = YieldsList-end (YieldsList-from_chars c.args.at.now c.utf8.at cc) c.loop-letter.yielded _
    c.loop-letter.yielded_by _ _ c.in-None.is c.next.ensures.steps in
    c.loop-letter.invariant ∙ ap (λ letters. string_bytes c.args.text.now ++ flat_map moment_code letters)
    (sym (map-id c.loop-letter.yielded) ∙ end.0)
