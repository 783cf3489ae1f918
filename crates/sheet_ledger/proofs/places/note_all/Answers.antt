-- One thing more.
use Rattle.std.proofs.Common.{◌≡◌, ◌∙◌, sym, ap, ◌+◌, ◌++◌, ◌∷◌, [], take}
use Rattle.std.proofs.lemmas.List.{take_more}
use Rattle.sheet_ledger.specs.Accounts.{place_in}
use Rattle.sheet_ledger.proofs.Custody.{placed_more}
use Rattle.sheet_ledger.proofs.places.note_all.Goals as goal

pub loop-moved-preserved : goal.loop-moved-preserved
loop-moved-preserved c =
    let i = c.loop-moved.moved-index in
    let more : take (i + 1) c.args.things.now ≡ take i c.args.things.now ++ c.moved-item.result ∷ [] =
    take_more c.args.things.now i c.moved-item.result c.loop-moved-test.true
    ∙ ap (λ x. take i c.args.things.now ++ x ∷ []) (sym c.moved-item.is) in
    placed_more (place_in c.args.places.now) (place_in c.loop-moved.places) (place_in c.note.new.places)
    c.args.target.now (take i c.args.things.now) (take (i + 1) c.args.things.now) c.moved-item.result more
    c.loop-moved.invariant c.in_ok-note.ensures
