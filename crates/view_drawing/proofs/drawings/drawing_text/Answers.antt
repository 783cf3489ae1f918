use Rattle.std.proofs.Common.{◌∙◌, ◌++◌, ap}
use Rattle.view_drawing.specs.Drawings.{drawing_text}
use Rattle.view_drawing.proofs.drawings.drawing_text.Goals as goal

pub returns : goal.returns
returns c =
    c.in_ok-put_drawing.ensures ∙ ap (λ t. t ++ drawing_text c.args.register.now) c.new-text.ensures.bytes
