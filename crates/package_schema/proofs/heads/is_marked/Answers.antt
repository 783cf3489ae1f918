use Rattle.std.proofs.Common.{◌≡◌, ◌∙◌, sym, ap, rules, to_z-of_z, FitsSigned, w64}
use Rattle.sheet_types.specs.Texts.{is_moment}
use Rattle.store_sql.proofs.Both.{three}
use Rattle.package_schema.proofs.heads.is_marked.Goals as goal

pub returns : goal.returns
returns c =
    let same : c.is_moment-moment.result ≡ is_moment c.args.row.now.created =
    c.is_moment-moment.ensures ∙ ap is_moment c.as_str.ensures in
    let id : FitsSigned w64 c.args.row.now.id = search rules in
    let version : FitsSigned w64 c.args.row.now.version = search rules in
    let number : FitsSigned w64 c.number.result = search rules in
    three _ _ _ (simp (to_z-of_z, id) at c.is-first.ensures)
    (rw c.number.ensures at (simp (to_z-of_z, version, number) at c.is-second.ensures))
    (λ h. sym same ∙ h, λ h. same ∙ h)
