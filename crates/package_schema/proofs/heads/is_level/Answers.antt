-- Both tests agree with that of the depth.
use Rattle.std.proofs.Common.{◌≡◌, [], subst, IsTrue, rules, to_z-of_z, FitsSigned, w64}
use Rattle.std.specs.Prelude.{◌↔◌}
use Rattle.store_sql.proofs.Both.{two, alike, none_left}
use Rattle.package_schema.proofs.heads.is_level.Goals as goal

pub returns : goal.returns
returns c =
    let deep : FitsSigned w64 c.args.row.now.depth = search rules in
    let lent : FitsSigned w64 c.args.row.now.loan = search rules in
    let root = simp (to_z-of_z, deep) at c.is-is_root.ensures in
    let none = simp (to_z-of_z, lent) at c.is-is_no_loan.ensures in
    let alone : IsTrue c.is_empty-is_alone.result ↔ (c.args.row.now.parent ≡ []) =
    subst (λ t. IsTrue c.is_empty-is_alone.result ↔ (t ≡ [])) c.as_str.ensures
    (none_left c.is_empty-is_alone.result c.as_str.result.now c.is_empty-is_alone.ensures) in
    two _ _ (alike alone root c.agree.ensures) (alike none root c.agree-2.ensures)
