-- The text that was made went out, or a beginning of it.
use Rattle.std.proofs.Common.{◌∙◌, FitsSigned, rules, subst, sym, to_z-of_z, w64}
use Rattle.view_map.specs.Worlds.{IsWorldMap}
use Rattle.views.proofs.Printed.{has_zoom, is_map}
use Rattle.views.proofs.printing.print_map.Goals as goal

pub returns-in-Ok-send-clause-printed : goal.returns-in-Ok-send-clause-printed
returns-in-Ok-send-clause-printed g c = λ clean w stands.
    let fits : FitsSigned w64 c.in-Some.zoom = search rules in
    let frame = c.frame-frame.ensures ∙ stands.frame in
    let made = simp (to_z-of_z, fits) at c.in-Ok.ensures.told clean w stands in (
      has_zoom w c.frame-frame.result c.args.asked c.in-Some.zoom frame c.in-Some.ensures.some c.in-Some.ensures.level,
      (
        c.as_bytes.result.now,
        is_map w c.frame-frame.result c.args.asked c.in-Some.zoom frame c.in-Some.ensures.some c.as_bytes.result.now
            (subst (IsWorldMap w c.in-Some.zoom) (sym c.as_bytes.ensures.value) made),
        c.in-Ok-send.ensures.ok,
      ),
    )

pub returns-clause-printed : goal.returns-clause-printed
returns-clause-printed g c = λ clean w stands.
    let fits : FitsSigned w64 c.in-Some.zoom = search rules in
    let frame = c.frame-frame.ensures ∙ stands.frame in
    let made = simp (to_z-of_z, fits) at c.in-Ok.ensures.told clean w stands in (
      has_zoom w c.frame-frame.result c.args.asked c.in-Some.zoom frame c.in-Some.ensures.some c.in-Some.ensures.level,
      (
        c.as_bytes.result.now,
        is_map w c.frame-frame.result c.args.asked c.in-Some.zoom frame c.in-Some.ensures.some c.as_bytes.result.now
            (subst (IsWorldMap w c.in-Some.zoom) (sym c.as_bytes.ensures.value) made),
        c.in-Err-send.ensures.err,
      ),
    )

pub returns-in-Ok-send-clause-opens : goal.returns-in-Ok-send-clause-opens
returns-in-Ok-send-clause-opens g c = c.in-Ok.ensures.opens
