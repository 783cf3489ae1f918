-- No loan, a loan at home, a loan that is not.
use Rattle.std.proofs.Common.{sym, ◌∙◌, refl, inl, inr}
use Rattle.std.proofs.lemmas.Bool.{true≢false}
use Rattle.opening_faults.specs.Foreign.{IsForeignOf}
use Rattle.opening_faults.specs.Sights.{uuid_seen}
use Rattle.opening_faults.specs.Splits.{claim_made}
use Rattle.opening_faults.proofs.Apart.{adds_none, adds_one, pushed_head}
use Rattle.opening_faults.proofs.foreign.push_apart.Goals as goal

pub returns-then-not-is_made_by : goal.returns-then-not-is_made_by
returns-then-not-is_made_by c = adds_none (IsForeignOf c.args.root.now c.args.split.now c.args.sight.now)
    c.args.ids.now.items (λ id p. true≢false (sym p.0 ∙ sym c.is_made_by.ensures ∙ c.if-not-is_made_by.true))

pub returns-then-not-is_apart : goal.returns-then-not-is_apart
returns-then-not-is_apart c = adds_none (IsForeignOf c.args.root.now c.args.split.now c.args.sight.now)
    c.args.ids.now.items (λ id p.
    let home = c.is_apart.ensures.no c.if-not-is_apart.true in
    elim p.1 [ inl frames ↦ frames home.0 | inr below ↦ below home.1 ])

pub returns : goal.returns
returns c =
    let loan = sym c.is_made_by.ensures ∙ c.if-not-is_made_by.false in
    adds_one (IsForeignOf c.args.root.now c.args.split.now c.args.sight.now) c.args.ids.now.items
    c.push_uuid.new.ids.items (uuid_seen c.args.sight.now)
    (pushed_head c.args.sight.now (claim_made c.args.split.now) c.args.ids.now.items c.push_uuid.new.ids.items loan
    c.in_ok-push_uuid.ensures)
    (loan, c.is_apart.ensures.yes c.if-not-is_apart.false, refl) (λ id p. p.2)
