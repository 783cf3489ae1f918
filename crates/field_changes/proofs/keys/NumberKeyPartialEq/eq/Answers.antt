-- Two keys are one exactly where neither stands before the other.
use Rattle.std.proofs.Common.{sym, ap, ◌∙◌, is_eq}
use Rattle.std.specs.Cmp.Lexicographic.{texts_ties}
use Rattle.field_changes.proofs.keys.NumberKeyPartialEq.eq.Goals as goal

pub returns : goal.returns
returns c = c.is_eq.ensures ∙ ap is_eq c.cmp.ensures ∙ sym (texts_ties c.args.self.now c.args.other.now)
