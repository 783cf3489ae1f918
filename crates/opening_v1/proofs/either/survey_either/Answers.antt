use Rattle.std.proofs.Common.{pos, inl, inr, subst}
use Rattle.std.specs.Prelude.{option_map}
use Rattle.store_sql.specs.Writing.{AreKeyed}
use Rattle.package_schema.specs.Heads.{head_said, ReadsHeadAt}
use Rattle.package_schema.proofs.Seeing.{seen, sees_last}
use Rattle.opening_survey.specs.Looks.{IsSeenRight}
use Rattle.opening_v1.specs.Either.{IsSeenAtEither}
use Rattle.opening_v1.specs.Views.{IsFirstSeenRight}
use Rattle.opening_v1.proofs.either.survey_either.Goals as goal

pub returns-in-Some : goal.returns-in-Some
returns-in-Some g c =
    sees_last (λ db x. AreKeyed db → IsFirstSeenRight db x) (λ db x. AreKeyed db → IsSeenAtEither db x)
    c.survey_first.result
    (seen (λ db found. AreKeyed db → ReadsHeadAt (pos 1) db (option_map head_said found)) c.in_ok-head_at.was
    c.head_at.ensures) c.survey_first.ensures
    (λ db x told last keyed. let it = last keyed in (
      it.0,
      inl (
        (
          head_said c.in-Some.field-0,
          subst (λ o. ReadsHeadAt (pos 1) db (option_map head_said o)) c.in-Some.is
              (told keyed),
        ),
        it.1,
      ),
      it.2,
    ))

pub returns-in-None : goal.returns-in-None
returns-in-None g c =
    sees_last (λ db x. AreKeyed db → IsSeenRight db x) (λ db x. AreKeyed db → IsSeenAtEither db x) c.survey.result
    (seen (λ db found. AreKeyed db → ReadsHeadAt (pos 1) db (option_map head_said found)) c.in_ok-head_at.was
    c.head_at.ensures) c.survey.ensures
    (λ db x told last keyed. let it = last keyed in let none =
    subst (λ o. ReadsHeadAt (pos 1) db (option_map head_said o)) c.in-None.is (told keyed) in
    (it.0, inr ((λ says. none says.0 says.1), it.1), it.2))
