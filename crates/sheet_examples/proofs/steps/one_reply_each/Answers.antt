use Rattle.sheet_examples.proofs.steps.one_reply_each.Goals as goal

pub returns : goal.returns
returns c = λ w next q reply. ((λ h. h), (λ h. h))
