-- What was looked at stays as it was between one look and the next.
use Rattle.std.proofs.Common.{◌≡◌, ◌∙◌, map, refl, sym, subst}
use Rattle.std.specs.Prelude.{IsTrue}
use Rattle.sheet_types.specs.Matrix.{is_good_frame}
use Rattle.sheet_types.specs.World.{World, Package, receipts_of}
use Rattle.world.specs.Worlds.{StandsFor}
use Rattle.view_page.specs.Registers.{IsRegisterOf, IsSeenOf}
use Rattle.view_world.proofs.Answers.{if_ok_so}
use Rattle.view_world.proofs.Looked.{looked_clean, looked_stands, looked_then}
use Rattle.view_page.proofs.registers.register_in.Goals as goal

pub returns-in_err-loans-clause-read : goal.returns-in_err-loans-clause-read
returns-in_err-loans-clause-read g c =
    looked_then g.S.Store c.args.world.now c.look_over.new.world c.loans_in.new.world
    c.in_ok-seen.ensures.read c.in_err-loans.ensures.read

pub returns-in_err-receipts-clause-read : goal.returns-in_err-receipts-clause-read
returns-in_err-receipts-clause-read g c =
    looked_then g.S.Store c.args.world.now c.loans_in.new.world c.ledger_in.new.world
    (looked_then g.S.Store c.args.world.now c.look_over.new.world c.loans_in.new.world
    c.in_ok-seen.ensures.read c.in_ok-loans.ensures.read)
    c.in_err-receipts.ensures.read

pub returns-clause-read : goal.returns-clause-read
returns-clause-read g c =
    looked_then g.S.Store c.args.world.now c.loans_in.new.world c.ledger_in.new.world
    (looked_then g.S.Store c.args.world.now c.look_over.new.world c.loans_in.new.world
    c.in_ok-seen.ensures.read c.in_ok-loans.ensures.read)
    c.in_ok-receipts.ensures.read

pub returns-clause-told : goal.returns-clause-told
returns-clause-told g c = λ clean.
    let clean_loans =
    looked_clean g.S.Store c.loans_in.new.world c.ledger_in.new.world c.in_ok-receipts.ensures.read clean in
    let clean_seen =
    looked_clean g.S.Store c.look_over.new.world c.loans_in.new.world c.in_ok-loans.ensures.read clean_loans in
    if_ok_so
    (λ r. (w : World) → w.frame ≡ c.frame-frame.result → IsSeenOf w c.in_ok-seen.seen.0 c.in_ok-seen.seen.1
    → c.deref.result.now ≡ map (λ (p : Package). p.loan) w.packages
    → c.in_ok-receipts.receipts.items ≡ receipts_of w
    → IsRegisterOf w c.args.names.items r)
    (λ r. (w : World) → StandsFor g.S.Store c.args.world.now w → IsRegisterOf w c.args.names.items r)
    c.register_by.result
    (λ r so w stands.
    let after_look =
    looked_stands g.S.Store c.args.world.now c.look_over.new.world c.in_ok-seen.ensures.read w stands in
    let after_loans =
    looked_stands g.S.Store c.look_over.new.world c.loans_in.new.world c.in_ok-loans.ensures.read w after_look in
    so w (sym stands.frame ∙ sym c.frame-frame.ensures) (c.in_ok-seen.ensures.told clean_seen w stands)
    (c.deref.ensures.value ∙ c.in_ok-loans.ensures.told clean_loans w after_look)
    (c.in_ok-receipts.ensures.told clean w after_loans))
    c.register_by.ensures.so

pub returns-clause-good : goal.returns-clause-good
returns-clause-good g c =
    if_ok_so (λ r. r.frame ≡ c.frame-frame.result) (λ r. IsTrue (is_good_frame r.frame)) c.register_by.result
    (λ r framed. subst (λ f. IsTrue (is_good_frame f)) (sym framed) (c.if-not-is_good.ensures refl))
    c.register_by.ensures.framed
