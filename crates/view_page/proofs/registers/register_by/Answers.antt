-- What was told of the world makes its register.
use Rattle.std.proofs.Common.{◌≡◌, ◌∙◌, ap, sym, subst, rules, slice_get, Some}
use Rattle.std.specs.Prelude.{option_map}
use Rattle.sheet_types.specs.Ordered.{arranged}
use Rattle.sheet_types.specs.World.{receipts_of}
use Rattle.view_page.specs.Registers.{loan_key}
use Rattle.view_report.specs.declared.registers.Live.{Live}
use Rattle.view_world.specs.Kept.{AreKept}
use Rattle.view_page.proofs.registers.register_by.Goals as goal

pub returns-clause-so : goal.returns-clause-so
returns-clause-so c = λ w framed seen made told.
    let kept : AreKept w c.deref.result.now c.deref-2.result.now =
    subst (λ xs. AreKept w xs c.deref-2.result.now) (sym c.deref.ensures.value)
    (subst (λ xs. AreKept w c.args.seen.0.sights.items xs) (sym c.deref-2.ensures.value) seen.kept_so) in
    let receipts : c.deref-3.result.now ≡ receipts_of w = c.deref-3.ensures.value ∙ told in
    let first : slice_get c.deref-4.result.now 0 ≡ Some c.in-Some.first.now = search rules in
    record {
      frame = sym framed;
      packages = c.in_ok-packages.ensures
          ∙ ap (arranged loan_key) (c.in_ok-lives.ensures w kept made receipts);
      archive = ap (option_map (λ (p : Live). p.uuid)) (ap (λ l. slice_get l 0) (sym c.deref-4.ensures.value)
          ∙ first);
      things = c.in_ok-things.ensures ∙ seen.held.things;
      ties = seen.held.ties;
      receipts = told;
      named = c.in_ok-names.ensures;
    }
