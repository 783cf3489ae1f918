-- Two questions, and the rows of their answers.
use Rattle.std.proofs.Common.{◌∙◌, ap, map, sym, subst}
use Rattle.sheet_types.specs.World.{Package, receipts_of}
use Rattle.view_history.specs.Told.{moment_of}
use Rattle.view_history.proofs.OwnHeads.{zip_map}
use Rattle.view_json.specs.Forms.{told_status}
use Rattle.world.specs.declared.reading.PackageSight.{PackageSight}
use Rattle.view_world.specs.Kept.{AreAsked, AreKept}
use Rattle.view_world.proofs.Looked.{looked_clean, looked_stands, looked_then}
use Rattle.view_world.proofs.Rows.{asked_of}
use Rattle.view_world.proofs.packages.status_text_in.Goals as goal

pub returns-in_err-moments-clause-read : goal.returns-in_err-moments-clause-read
returns-in_err-moments-clause-read g c =
    looked_then g.S.Store c.args.world.now c.ask_each.new.world c.moments_in.new.world c.in_ok-loans.ensures.read
    c.in_err-moments.ensures.read

pub returns-in_err-rows-clause-read : goal.returns-in_err-rows-clause-read
returns-in_err-rows-clause-read g c =
    looked_then g.S.Store c.args.world.now c.ask_each.new.world c.moments_in.new.world c.in_ok-loans.ensures.read
    c.in_ok-moments.ensures.read

pub returns-in_err-told-clause-read : goal.returns-in_err-told-clause-read
returns-in_err-told-clause-read g c =
    looked_then g.S.Store c.args.world.now c.ask_each.new.world c.moments_in.new.world c.in_ok-loans.ensures.read
    c.in_ok-moments.ensures.read

pub returns-clause-read : goal.returns-clause-read
returns-clause-read g c =
    looked_then g.S.Store c.args.world.now c.ask_each.new.world c.moments_in.new.world c.in_ok-loans.ensures.read
    c.in_ok-moments.ensures.read

pub returns-clause-opens : goal.returns-clause-opens
returns-clause-opens g c = λ clean was_open. c.in_ok-moments.ensures.opens clean (c.in_ok-loans.ensures.opens
    (looked_clean g.S.Store c.ask_each.new.world c.moments_in.new.world c.in_ok-moments.ensures.read clean) was_open)

pub returns-clause-told : goal.returns-clause-told
returns-clause-told g c = λ clean w stands.
    let kept : AreKept w c.in_ok-kept.kept.sights.items c.in_ok-kept.kept.sums.items =
    c.in_ok-kept.ensures.kept w stands in
    let between = looked_clean g.S.Store c.ask_each.new.world c.moments_in.new.world c.in_ok-moments.ensures.read
    clean in
    let now = looked_stands g.S.Store c.args.world.now c.ask_each.new.world c.in_ok-loans.ensures.read w stands in
    let one =
    zip_map (λ (p : Package). p.loan) w.packages c.in_ok-loans.loans.items
    (c.in_ok-loans.ensures.told between w stands) in
    let asked : AreAsked w c.in_ok-loans.loans.items c.in_ok-moments.moments.items =
    asked_of w c.in_ok-kept.kept.sights.items c.in_ok-kept.kept.sums.items c.in_ok-loans.loans.items
    c.in_ok-tickets.tickets.items c.in_ok-moments.moments.items kept
    (c.in_ok-tickets.ensures ∙ ap (map (λ (s : PackageSight). s.ticket)) c.deref.ensures.value)
    one
    (c.in_ok-moments.ensures.told clean w now ∙ ap (map (moment_of (receipts_of w))) c.deref-2.ensures.value) in
    let kept_here : AreKept w c.deref-3.result.now c.deref-4.result.now =
    subst (λ xs. AreKept w xs c.deref-4.result.now) (sym c.deref-3.ensures.value)
    (subst (λ xs. AreKept w c.in_ok-kept.kept.sights.items xs) (sym c.deref-4.ensures.value) kept) in
    let asked_here : AreAsked w c.deref-5.result.now c.deref-6.result.now =
    subst (λ xs. AreAsked w xs c.deref-6.result.now) (sym c.deref-5.ensures.value)
    (subst (λ xs. AreAsked w c.in_ok-loans.loans.items xs) (sym c.deref-6.ensures.value) asked) in
    c.in_ok-told.ensures ∙ ap (λ rows. told_status c.args.form rows c.args.strays) (c.deref-7.ensures.value
    ∙ c.in_ok-rows.ensures w kept_here asked_here)
