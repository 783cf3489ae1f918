-- One more, which was just opened as that of its package.
use Rattle.std.proofs.Common.{◌≡◌, ◌∙◌, ◌+◌, ◌++◌, ◌∷◌, [], ap, subst, sym, take, length, ℕ}
use Rattle.std.specs.List.{AllZip}
use Rattle.std.proofs.lemmas.List.{length_push, take_more}
use Rattle.std.proofs.lemmas.List.Elements.{All-push, All-same}
use Rattle.sqlite_catalog.proofs.ListFacts.{zip_push}
use Rattle.store_folder.proofs.opening.open_each.Goals as goal

pub loop-package-preserved : goal.loop-package-preserved
loop-package-preserved g c =
    let all = c.args.packages.now in
    let at = c.loop-package.package-index in
    let item = c.package-item.result in
    let more : take (at + 1) all ≡ take at all ++ item ∷ [] =
    take_more all at item c.loop-package-test.true ∙ ap (λ x. take at all ++ x ∷ []) (sym c.package-item.is) in
    let own : AllZip g.T.InFolder.is_of (take at all ++ item ∷ []) c.push.new.list.items =
    subst (AllZip g.T.InFolder.is_of (take at all ++ item ∷ [])) (sym c.in_ok-push.ensures)
    (zip_push g.T.InFolder.is_of (take at all) c.loop-package.stores.items item c.in_ok-store.store
    c.loop-package.invariant.own c.in_ok-store.ensures.own) in
    record {
      opened = All-same g.T.InFolder.is_just_opened _ _ c.in_ok-push.ensures
          (All-push g.T.InFolder.is_just_opened c.loop-package.stores.items c.in_ok-store.store
          c.loop-package.invariant.opened c.in_ok-store.ensures.opened);
      fresh = All-same g.T.InFolder.is_new _ _ c.in_ok-push.ensures
          (All-push g.T.InFolder.is_new c.loop-package.stores.items c.in_ok-store.store
          c.loop-package.invariant.fresh c.in_ok-store.ensures.fresh);
      own = subst (λ packages. AllZip g.T.InFolder.is_of packages c.push.new.list.items) (sym more) own;
      each = ap length c.in_ok-push.ensures ∙ length_push c.loop-package.stores.items c.in_ok-store.store
          ∙ ap (λ (n : ℕ). n + 1) c.loop-package.invariant.each;
    }
