-- What lies in the item alone, and else what lies beside it.
use Rattle.std.proofs.Common.{◌∙◌, ap, sym}
use Rattle.field_faults.specs.Lines.{reason_among, reason_or}
use Rattle.field_faults.specs.Reasons.{reason_of}
use Rattle.field_faults.proofs.lines.reason_in.Goals as goal

pub returns-in-Some : goal.returns-in-Some
returns-in-Some c = λ before has.
    let h = c.args.item.now in
    let among = reason_among c.args.judge.now.frame.now c.args.judge.now.items.now c.args.judge.now.more
    c.args.exported before h h.content in
    sym (ap (λ o. reason_or o among) (sym (c.reason_of.ensures
    ∙ ap (reason_of c.args.judge.now.frame.now) c.get.ensures) ∙ c.in-Some.is))

pub returns-in-None : goal.returns-in-None
returns-in-None c = λ before has.
    let h = c.args.item.now in
    let among = reason_among c.args.judge.now.frame.now c.args.judge.now.items.now c.args.judge.now.more
    c.args.exported before h h.content in
    c.reason_among.ensures before has ∙ sym (ap (λ o. reason_or o among)
    (sym (c.reason_of.ensures ∙ ap (reason_of c.args.judge.now.frame.now) c.get.ensures) ∙ c.in-None.is))
