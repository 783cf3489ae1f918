-- What was asked of each identity is sorted, and the links come behind it.
use Rattle.std.proofs.Common.{◌∙◌, ◌++◌, ap, sym, map}
use Rattle.sqlite_trees.proofs.ListLemmas.{all-slice_get}
use Rattle.sheet_types.specs.Register.{IsKeptPackage}
use Rattle.sheet_types.specs.World.{link_moved}
use Rattle.world_queries.proofs.Questions.{asks_answer}
use Rattle.world_decisions.proofs.Things.{told_of, things_of_cut}
use Rattle.world_decisions.proofs.loan_receipts.things_at.Goals as goal

pub returns : goal.returns
returns g c =
    asks_answer g.S.Store {x = _} c.in_ok-items.was
    (λ w count are told p cut here selected part.
    let kept : IsKeptPackage w p = all-slice_get (IsKeptPackage w) w.packages c.args.at p here are.register.packages in
    c.from_vec.ensures ∙ c.in_ok-things.ensures ∙ ap (λ links. c.in_ok-sorted.sorted.items ++ map link_moved links)
    c.deref-2.ensures.value
    ∙ things_of_cut p cut c.args.selection.now selected part kept.identities _ _
    (ap (map (told_of p)) (sym c.deref.ensures.value) ∙ told p here) c.in_ok-sorted.ensures.same
    c.in_ok-sorted.ensures.order) c.things_under.ensures
