use Rattle.std.proofs.Common.{refl, subst}
use Rattle.store_sql.specs.Writing.{AreKeyed}
use Rattle.sheet_types.specs.World.{Package}
use Rattle.sheet_types.specs.declared.frame.Frame.{Frame}
use Rattle.opening_faults.specs.Sights.{head_said}
use Rattle.package_tables.specs.Package.{tables_of, AreFormed}
use Rattle.identity_register.specs.Reads.{Reads}
use Rattle.package_schema.proofs.Seeing.{seen, seen_then, sees}
use Rattle.opening_survey.specs.Looks.{TellsHeld}
use Rattle.opening_survey.specs.Surveying.{TellsTied, SeesFormed}
use Rattle.opening_survey.proofs.Sighting.{untied, packaged}
use Rattle.opening_survey.proofs.survey.survey_formed.Goals as goal

pub returns-then-not-branch : goal.returns-then-not-branch
returns-then-not-branch g c =
    sees (λ db x. AreKeyed db → SeesFormed c.args.said c.args.formed db x)
    (seen (λ db answer. AreFormed db → TellsTied (tables_of db) answer) c.in_ok-has_good_ties.was
    c.has_good_ties.ensures)
    (λ db told keyed said read. untied db c.args.said c.args.head c.args.formed c.without_package.result
    c.requires.heads said read (subst (TellsTied (tables_of db)) c.if-not-branch.true (told read.formed))
    c.without_package.ensures)

pub returns : goal.returns
returns g c =
    sees (λ db x. AreKeyed db → SeesFormed c.args.said c.args.formed db x)
    (seen_then (λ db held. (f : Frame) (p : Package) → Reads f p db
    → TellsHeld (head_said c.args.head) c.args.formed.receipts.items f p held)
    (seen (λ db answer. AreFormed db → TellsTied (tables_of db) answer) c.in_ok-has_good_ties.was
    c.has_good_ties.ensures)
    c.in_ok-held.was c.held_of.ensures)
    (λ db told keyed said read. packaged c.reads_as_a_package.ensures db c.args.said c.args.head c.args.formed _
    c.requires.heads said read (subst (TellsTied (tables_of db)) c.if-not-branch.false (told.0 read.formed))
    (record { head = refl; claims = refl; frame = refl; formed = refl; tied = refl; held = told.1 }))
