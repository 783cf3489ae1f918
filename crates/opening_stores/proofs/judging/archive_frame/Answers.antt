-- The first that says so, or none.
use Rattle.std.proofs.Common.{◌≡◌, ◌∙◌, ◌+◌, ◌++◌, ◌∷◌, [], false, sym, ap, subst}
use Rattle.std.proofs.Common.{slice_get, Some, take, arith}
use Rattle.std.specs.Prelude.{option_map}
use Rattle.std.specs.List.{AllByRecursion}
use Rattle.std.proofs.lemmas.List.{take_all, take_more}
use Rattle.std.proofs.lemmas.Option.{slice_get-get_or}
use Rattle.sheet_types.proofs.Every.{All-snoc}
use Rattle.opening_verdict.specs.declared.seen.StoreSeen.{StoreSeen}
use Rattle.opening_stores.specs.Judged.{said_root}
use Rattle.opening_stores.proofs.Judged.{found_first, none_found}
use Rattle.opening_stores.proofs.judging.archive_frame.Goals as goal

pub returns-then-says_root : goal.returns-then-says_root
returns-then-says_root c =
    let place : slice_get c.args.seen.now c.loop-store.store-index ≡ Some c.store-item.result =
    slice_get-get_or c.args.seen.now c.loop-store.store-index c.store-item.result c.loop-store-test.true
    ∙ ap Some (sym c.store-item.is) in
    sym (ap (option_map (λ (s : StoreSeen). s.sight.frame)) (found_first said_root c.args.seen.now
    c.loop-store.store-index c.store-item.result c.loop-store.invariant place
    (sym c.says_root.ensures ∙ c.if-says_root.true)))

pub loop-store-preserved : goal.loop-store-preserved
loop-store-preserved c =
    let store = c.store-item.result in
    let front = take c.loop-store.store-index c.args.seen.now in
    let more : take (c.loop-store.store-index + 1) c.args.seen.now ≡ front ++ store ∷ [] =
    take_more c.args.seen.now c.loop-store.store-index store c.loop-store-test.true
    ∙ ap (λ x. front ++ x ∷ []) (sym c.store-item.is) in
    subst (AllByRecursion (λ s. said_root s ≡ false)) (sym more)
    (All-snoc (λ s. said_root s ≡ false) front store c.loop-store.invariant
    (sym c.says_root.ensures ∙ c.if-says_root.false))

pub returns : goal.returns
returns c =
    sym (ap (option_map (λ (s : StoreSeen). s.sight.frame)) (none_found said_root c.args.seen.now
    (subst (AllByRecursion (λ s. said_root s ≡ false)) (take_all c.loop-store.store-index c.args.seen.now
    (omega (arith, c.loop-store-test.false))) c.loop-store.invariant)))
