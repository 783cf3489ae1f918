-- The answers in turn are the loans of the packages.
use Rattle.std.proofs.Common.{◌≡◌, map}
use Rattle.std.specs.List.{AllZip}
use Rattle.sheet_types.specs.World.{World, Package}
use Rattle.world.specs.Worlds.{StandsFor}
use Rattle.view_history.proofs.OwnHeads.{zip_map}
use Rattle.view_world.proofs.Answers.{if_ok_so}
use Rattle.view_page.proofs.registers.loans_in.Goals as goal

pub returns-clause-told : goal.returns-clause-told
returns-clause-told g c = λ clean.
    if_ok_so
    (λ loans. (w : World) → StandsFor g.S.Store c.args.world.now w
    → AllZip (λ (p : Package) loan. loan ≡ p.loan) w.packages loans.items)
    (λ loans. (w : World) → StandsFor g.S.Store c.args.world.now w
    → loans.items ≡ map (λ (p : Package). p.loan) w.packages)
    c.ask_each.result
    (λ loans each w stands. zip_map (λ (p : Package). p.loan) w.packages loans.items (each w stands))
    (c.ask_each.ensures.told clean)

pub returns-clause-read : goal.returns-clause-read
returns-clause-read g c = c.ask_each.ensures.read
