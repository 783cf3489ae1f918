-- The text is that of the world's frame, and went out, or a beginning of it.
use Rattle.std.proofs.Common.{◌≡◌, ◌∙◌, ap, inl, inr, refl, rules, subst, sym}
use Rattle.std.specs.Prelude.{true}
use Rattle.std.specs.Io.KnownBytes.{Appends}
use Rattle.manifest_csv.specs.Sent.{WentOut}
use Rattle.view_project.specs.Projects.{project}
use Rattle.view_field.proofs.projects.project_in.Goals as goal

pub returns-in-Ok-send : goal.returns-in-Ok-send
returns-in-Ok-send g c = λ w stands.
    let live : c.is_live.result ≡ true = search rules in
    let frame = c.frame.ensures ∙ stands.frame in
    let text = c.as_bytes.ensures.value ∙ c.in-Ok.ensures ∙ ap (λ f. project f c.args.name.now) frame in
    inl (sym (c.is_live.ensures w stands) ∙ live, inl (inl (refl, subst (Appends _ _) text c.in-Ok-send.ensures.ok)))

pub returns : goal.returns
returns g c = λ w stands.
    let live : c.is_live.result ≡ true = search rules in
    let frame = c.frame.ensures ∙ stands.frame in
    let text = c.as_bytes.ensures.value ∙ c.in-Ok.ensures ∙ ap (λ f. project f c.args.name.now) frame in
    inl (sym (c.is_live.ensures w stands) ∙ live, inl (inr (refl, subst (WentOut _ _) text c.in-Err.ensures.err)))
