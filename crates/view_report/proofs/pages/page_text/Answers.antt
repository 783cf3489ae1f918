use Rattle.std.proofs.Common.{◌∙◌, ◌++◌, ap}
use Rattle.view_report.specs.Pages.{page_text}
use Rattle.view_report.proofs.pages.page_text.Goals as goal

pub returns : goal.returns
returns c = c.in_ok-put_page.ensures ∙ ap (λ t. t ++ page_text c.args.register.now) c.new-text.ensures.bytes
