use Rattle.std.proofs.Common.{◌≡◌, ◌∙◌, ap, FitsSigned, rules, to_z-of_z, w64}
use Rattle.std.specs.Prelude.{string_bytes}
use Rattle.view_report.specs.Escaping.{raw_text}
use Rattle.view_project.specs.Layers.{layers}
use Rattle.view_project.specs.Projects.{extent, framed, reference_system}
use Rattle.view_project.proofs.Texts.{joined, ok_is}
use Rattle.view_project.proofs.projects.write_project.Goals as goal

pub returns : goal.returns
returns c =
    let f = c.args.frame.now in
    let fits : FitsSigned w64 f.srs_id = search rules in
    let system : string_bytes c.in_ok-system.system ≡ reference_system f.srs_id =
    simp (to_z-of_z, fits) at c.in_ok-system.ensures in
    let bounds : c.as_str.result.now ≡ extent f = c.as_str.ensures.value ∙ c.in_ok-extent.ensures in
    let seen : c.as_str-2.result.now ≡ reference_system f.srs_id = c.as_str-2.ensures.value ∙ system in
    let file : c.as_str-3.result.now ≡ raw_text c.args.name.now = c.as_str-3.ensures.value ∙ c.in_ok-file.ensures in
    let drawn : c.as_str-4.result.now ≡ reference_system f.srs_id = c.as_str-4.ensures.value ∙ system in
    let front = c.in_ok-framed.ensures ∙ ap (λ e. framed e c.as_str-2.result.now) bounds
    ∙ ap (framed (extent f)) seen in
    let middle = c.in_ok-layers.ensures ∙ ap (λ n. layers n c.as_str-4.result.now) file
    ∙ ap (layers (raw_text c.args.name.now)) drawn in
    ok_is c.format.result _ _ (joined front (joined middle (joined c.relations-relations.ensures
    c.closing-closing.ensures))) c.format.ensures.ok
