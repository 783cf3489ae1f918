-- A text is that of one frame at most.
use Rattle.std.proofs.Common.{rules}
use Rattle.sheet_types.specs.Reading.{IsInRange}
use Rattle.command_words.proofs.FrameTexts.{no_good_frame, other_frame}
use Rattle.command_words.proofs.arguments.read_frame.Goals as goal

pub returns-in_err-frame-clause-none : goal.returns-in_err-frame-clause-none
returns-in_err-frame-clause-none c = no_good_frame c.from_residual.result c.args.text.now c.in_err-frame.ensures.none

pub returns-in-Err-clause-none : goal.returns-in-Err-clause-none
returns-in-Err-clause-none c =
    let fits : IsInRange c.in_ok-frame.frame = search rules in
    other_frame c.in_ok-frame.frame c.in-Err.field-0 c.args.text.now fits c.in_ok-frame.ensures.some (search rules)
