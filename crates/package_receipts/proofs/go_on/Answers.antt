-- The receipts of the part stand behind those before.
use Rattle.std.proofs.Common.{◌≡◌, ◌∙◌, ◌++◌, Ok, sym, ap, subst}
use Rattle.std.specs.Prelude.{MatchOption}
use Rattle.identity_register.proofs.Looking.{looked, tells}
use Rattle.package_receipts.specs.Ranges.{AreReceiptsInRange}
use Rattle.package_receipts.specs.Read.{AreSaidUnder, AreSaidUntil, GoesOn, is_between}
use Rattle.package_receipts.proofs.Parts.{gone_on}
use Rattle.package_receipts.proofs.go_on.Goals as goal

pub returns : goal.returns
returns g c =
    let old = c.args.entered.now.items in
    let part = c.in-Some.part.items in
    let items : c.append.new.self.items ≡ old ++ part = c.in_ok-append.ensures.items in
    tells (λ t went. GoesOn c.args.after c.args.end t old c.append.new.self.items went)
    (looked (λ t found. MatchOption found (AreReceiptsInRange t.receipts t.moved → ⊥)
    (λ v. AreSaidUnder (is_between c.args.after c.args.end) t v.items)) (c.in_ok-part.was ∙ ap Ok c.in-Some.is)
    c.receipts_between.ensures)
    (λ t h so. subst (AreSaidUntil c.args.end t) (sym items)
    (gone_on c.args.after c.args.end t old part c.requires.apart h so))
