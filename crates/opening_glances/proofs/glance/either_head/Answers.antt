-- The first version is asked for, and then the second.
use Rattle.std.proofs.Common.{pos, inl, inr, subst}
use Rattle.std.specs.Prelude.{option_map}
use Rattle.store_sql.specs.Writing.{AreKeyed}
use Rattle.package_schema.specs.Heads.{head_said, ReadsHead, ReadsHeadAt}
use Rattle.package_schema.proofs.Seeing.{seen, sees, sees_last}
use Rattle.opening_glances.specs.Glances.{ReadsEitherHead}
use Rattle.opening_glances.proofs.glance.either_head.Goals as goal

pub returns-in-Some : goal.returns-in-Some
returns-in-Some g c =
    sees (λ db found. AreKeyed db → ReadsEitherHead db (option_map head_said found))
    (seen (λ db found. AreKeyed db → ReadsHeadAt (pos 1) db (option_map head_said found)) c.in_ok-head.was
    c.head_at.ensures)
    (λ db told keyed.
    let said = subst (λ o. ReadsHeadAt (pos 1) db (option_map head_said o)) c.in-Some.is (told keyed) in
    inl ((head_said c.in-Some.head, said), said))

pub returns-in-None : goal.returns-in-None
returns-in-None g c =
    sees_last (λ db found. AreKeyed db → ReadsHead db (option_map head_said found))
    (λ db found. AreKeyed db → ReadsEitherHead db (option_map head_said found)) c.head_at-in-None.result
    (seen (λ db found. AreKeyed db → ReadsHeadAt (pos 1) db (option_map head_said found)) c.in_ok-head.was
    c.head_at.ensures) c.head_at-in-None.ensures
    (λ db found told last keyed. let none = subst (λ o. ReadsHeadAt (pos 1) db (option_map head_said o)) c.in-None.is
    (told keyed) in inr ((λ says. none says.0 says.1), last keyed))
