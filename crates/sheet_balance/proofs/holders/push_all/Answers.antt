-- What the vector held is behind the others.
use Rattle.std.proofs.Common.{◌∙◌, sym, ap, ◌++◌}
use Rattle.std.proofs.lemmas.Iterator.Adapters.{fact_from_extend, YieldsList-from_vec}
use Rattle.std.proofs.lemmas.List.{map-id}
use Rattle.sheet_balance.proofs.holders.push_all.Goals as goal

pub returns : goal.returns
returns c = fact_from_extend (λ x. x) c.extend.result c.extend.ensures.ran
    (λ it b. YieldsList-from_vec {s = it} _ b.0 (b.1 ∙ c.args.receipts.ok.0))
    (λ xs e h. h.0 ∙ ap (λ ys. c.args.all.now.items ++ ys) (sym (map-id xs) ∙ e))
