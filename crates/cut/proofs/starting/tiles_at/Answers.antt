-- The tiles of one zoom, by its span.
use Rattle.std.proofs.Common.{◌≡◌, ◌∙◌}
use Rattle.std.proofs.lemmas.Int.{to_z-of_z}
use Rattle.std.specs.Prelude.{⊤}
use Rattle.identity_register.specs.Reach.{tiles_in}
use Rattle.cut.proofs.Asking.{at_first, answers, answers_last}
use Rattle.cut.proofs.Places.{tiles_by_span, tiles_none}
use Rattle.cut.proofs.starting.tiles_at.Goals as goal

pub returns-in-Some : goal.returns-in-Some
returns-in-Some g c =
    let zoom = c.ranges.zoom in
    let places = simp (to_z-of_z, zoom) at c.in-Some.ensures.places in
    let same = tiles_by_span c.args.frame.now c.args.rect.now c.args.zoom c.in-Some.span places in
    answers_last (λ p found. found.items ≡ tiles_in p c.args.zoom c.in-Some.span) c.tiles_in.result
    (at_first (λ p. ⊤) c.args.reach.now c.requires.ready (λ p. tt)) (simp (to_z-of_z, zoom) at c.tiles_in.ensures)
    (λ p found _ is. is ∙ same p)

pub returns-in-None : goal.returns-in-None
returns-in-None g c =
    let zoom = c.ranges.zoom in
    let none = simp (to_z-of_z, zoom) at c.in-None.ensures.none in
    answers (at_first (λ p. ⊤) c.args.reach.now c.requires.ready (λ p. tt))
    (λ p _. c.new.ensures.items ∙ tiles_none c.args.frame.now c.args.rect.now c.args.zoom none p)
