-- One more, which was seen of the store of its package.
use Rattle.std.proofs.Common.{◌≡◌, ◌∙◌, ◌+◌, ◌++◌, ◌∷◌, [], ap, subst, sym, take}
use Rattle.std.specs.List.{AllZip}
use Rattle.std.proofs.lemmas.List.{take_more}
use Rattle.sqlite_catalog.proofs.ListFacts.{zip_push}
use Rattle.command_folder.proofs.choosing.look_at_all.Goals as goal

pub loop-package-preserved : goal.loop-package-preserved
loop-package-preserved g c =
    let all = c.args.packages.now in
    let at = c.loop-package.package-index in
    let item = c.package-item.result in
    let more : take (at + 1) all ≡ take at all ++ item ∷ [] =
    take_more all at item c.loop-package-test.true ∙ ap (λ x. take at all ++ x ∷ []) (sym c.package-item.is) in
    let seen = rw c.in-Some.is at c.in_ok-sight.ensures in
    let shown : AllZip g.G.Glances.shown (take at all ++ item ∷ []) c.push.new.sights.items =
    subst (AllZip g.G.Glances.shown (take at all ++ item ∷ [])) (sym c.in_ok-push.ensures)
    (zip_push g.G.Glances.shown (take at all) c.loop-package.sights.items item c.in-Some.sight
    c.loop-package.invariant.shown seen) in
    record { shown = subst (λ packages. AllZip g.G.Glances.shown packages c.push.new.sights.items) (sym more) shown }
