use Rattle.std.proofs.Common.{◌∙◌, sym, subst}
use Rattle.store_sql.specs.Writing.{AreKeyed}
use Rattle.package_schema.proofs.Seeing.{seen, seen_then, sees, sees_last}
use Rattle.opening_survey.specs.Looks.{IsSeenRight}
use Rattle.opening_survey.specs.Surveying.{IsSaid, ReadsFormed, SeesFormed}
use Rattle.opening_survey.proofs.Sighting.{unformed, no_head}
use Rattle.opening_survey.proofs.survey.survey.Goals as goal

pub returns-in_default : goal.returns-in_default
returns-in_default g c =
    sees (λ db x. AreKeyed db → IsSeenRight db x) (seen (λ db s. AreKeyed db → IsSaid db s) c.in_ok-said.was
    c.read_said.ensures)
    (λ db told keyed. unformed db c.in_ok-said.said c.no_frame.result c.without_package.result (told keyed)
    (no_head db c.in_ok-said.said (sym c.head_in.ensures ∙ c.in_default.is) (told keyed))
    c.without_package.ensures)

pub returns-in_default-2 : goal.returns-in_default-2
returns-in_default-2 g c =
    sees (λ db x. AreKeyed db → IsSeenRight db x)
    (seen_then (λ db found. AreKeyed db → ReadsFormed db found)
    (seen (λ db s. AreKeyed db → IsSaid db s) c.in_ok-said.was c.read_said.ensures) c.in_ok-formed.was
    c.read_formed.ensures)
    (λ db told keyed. unformed db c.in_ok-said.said c.no_frame-in_default-2.result
    c.without_package-in_default-2.result (told.0 keyed) (subst (ReadsFormed db) c.in_default-2.is (told.1 keyed))
    c.without_package-in_default-2.ensures)

pub returns : goal.returns
returns g c =
    sees_last (λ db x. AreKeyed db → SeesFormed c.in_ok-said.said c.in-Some-2.formed db x)
    (λ db x. AreKeyed db → IsSeenRight db x) c.survey_formed.result
    (seen_then (λ db found. AreKeyed db → ReadsFormed db found)
    (seen (λ db s. AreKeyed db → IsSaid db s) c.in_ok-said.was c.read_said.ensures) c.in_ok-formed.was
    c.read_formed.ensures) c.survey_formed.ensures
    (λ db x told last keyed. last keyed (told.0 keyed) (subst (ReadsFormed db) c.in-Some-2.is (told.1 keyed)))
