-- What the world keeps of its packages, and what these hold.
use Rattle.std.proofs.Common.{◌≡◌, ◌∙◌, ap, map, subst}
use Rattle.view_page.proofs.Holding.{all_held}
use Rattle.view_page.specs.Registers.{AreContents, by_depth}
use Rattle.world.specs.Reading.{sight_of}
use Rattle.world.specs.declared.reading.PackageSight.{PackageSight}
use Rattle.view_page.proofs.registers.look_over.Goals as goal

pub returns-clause-told : goal.returns-clause-told
returns-clause-told g c = λ clean w stands.
    let kept = c.in_ok-kept.ensures.kept w stands in
    let order : map sight_of c.in_ok-ordered.ordered.items ≡ by_depth (map sight_of c.in_ok-kept.kept.sights.items) =
    c.in_ok-ordered.ensures ∙ ap (λ l. by_depth (map sight_of l)) c.as_slice.ensures.value in
    let held : AreContents w (λ (s : PackageSight). s.uuid) c.in_ok-ordered.ordered.items c.in_ok-contents.contents =
    subst (λ l. AreContents w (λ (s : PackageSight). s.uuid) l c.in_ok-contents.contents) c.as_slice-2.ensures.value
    (c.in_ok-contents.ensures.told clean w stands) in
    record {
      kept_so = kept;
      held = all_held w c.in_ok-kept.kept.sights.items c.in_ok-ordered.ordered.items
          c.in_ok-contents.contents kept.seen order held;
    }
