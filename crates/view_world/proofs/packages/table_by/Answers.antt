-- Two questions, and the rows of their answers.
use Rattle.std.proofs.Common.{◌≡◌, ◌∙◌, ap, map, refl, sym, subst}
use Rattle.view_history.specs.Told.{ledger_of, moment_of}
use Rattle.view_history.proofs.Asked.{asks_both, asks_cut, asks_lost}
use Rattle.sheet_types.specs.World.{Package}
use Rattle.view_json.specs.Forms.{told_status}
use Rattle.world.specs.declared.reading.PackageSight.{PackageSight}
use Rattle.view_world.specs.Kept.{AreAsked, AreKept}
use Rattle.view_world.proofs.Rows.{asked_of}
use Rattle.view_world.proofs.packages.table_by.Goals as goal

pub returns-in_err-loans : goal.returns-in_err-loans
returns-in_err-loans g c = asks_lost g.S.Store _ c.from_residual.result c.from_residual.ensures.0 c.loans_of.ensures

pub returns-in_err-tickets : goal.returns-in_err-tickets
returns-in_err-tickets g c =
    asks_lost g.S.Store _ c.from_residual-in_err-tickets.result c.from_residual-in_err-tickets.ensures.0
    c.loans_of.ensures

pub returns-in_err-moments : goal.returns-in_err-moments
returns-in_err-moments g c =
    asks_cut g.S.Store _ _ c.from_residual-in_err-moments.result c.from_residual-in_err-moments.ensures.0
    c.loans_of.ensures c.moments_of.ensures

pub returns-in_err-rows : goal.returns-in_err-rows
returns-in_err-rows g c =
    asks_cut g.S.Store _ _ c.from_residual-in_err-rows.result c.from_residual-in_err-rows.ensures.0 c.loans_of.ensures
    c.moments_of.ensures

pub returns-in_err-text : goal.returns-in_err-text
returns-in_err-text g c =
    asks_cut g.S.Store _ _ c.from_residual-in_err-text.result c.from_residual-in_err-text.ensures.0 c.loans_of.ensures
    c.moments_of.ensures

pub returns : goal.returns
returns g c =
    asks_both g.S.Store (λ packages loans. loans.items ≡ map (λ (p : Package). p.loan) packages)
    (λ packages moments. moments.items ≡ map (moment_of (ledger_of packages)) c.deref-2.result.now)
    c.in_ok-loans.was c.in_ok-moments.was
    (λ packages one two w same kept.
    let asked : AreAsked w c.in_ok-loans.loans.items c.in_ok-moments.moments.items =
    asked_of w c.args.kept.now.sights.items c.args.kept.now.sums.items c.in_ok-loans.loans.items
    c.in_ok-tickets.tickets.items c.in_ok-moments.moments.items kept
    (c.in_ok-tickets.ensures ∙ ap (map (λ (s : PackageSight). s.ticket)) c.deref.ensures.value)
    (one ∙ ap (map (λ (p : Package). p.loan)) same)
    (two ∙ ap (λ ps. map (moment_of (ledger_of ps)) c.deref-2.result.now) same
    ∙ ap (map (moment_of (ledger_of w.packages))) c.deref-2.ensures.value) in
    let kept_here : AreKept w c.deref-3.result.now c.deref-4.result.now =
    subst (λ xs. AreKept w xs c.deref-4.result.now) (sym c.deref-3.ensures.value)
    (subst (λ xs. AreKept w c.args.kept.now.sights.items xs) (sym c.deref-4.ensures.value) kept) in
    let asked_here : AreAsked w c.deref-5.result.now c.deref-6.result.now =
    subst (λ xs. AreAsked w xs c.deref-6.result.now) (sym c.deref-5.ensures.value)
    (subst (λ xs. AreAsked w c.in_ok-loans.loans.items xs) (sym c.deref-6.ensures.value) asked) in
    c.in_ok-text.ensures ∙ ap (λ rows. told_status c.args.form rows c.args.strays) (c.deref-7.ensures.value
    ∙ c.in_ok-rows.ensures w kept_here asked_here))
    c.loans_of.ensures c.moments_of.ensures
