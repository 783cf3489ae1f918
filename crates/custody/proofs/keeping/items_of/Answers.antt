use Rattle.std.proofs.Common.{◌∙◌, sym, subst, to_z-of_z}
use Rattle.std.specs.Ordering.{int_eq}
use Rattle.package_tables.specs.Calls.{AreThose, Rises}
use Rattle.identity_register.proofs.Looking.{looked, tells}
use Rattle.custody.specs.Entries.{rows_at}
use Rattle.custody.proofs.keeping.items_of.Goals as goal

pub returns-clause-looked : goal.returns-clause-looked
returns-clause-looked g c =
    tells (λ t things. AreThose (λ x. int_eq x.seq c.args.seq) t.moved (rows_at c.args.seq things))
    (looked (λ t found. AreThose (λ x. int_eq x.seq c.args.seq) t.moved found.items
    × Rises (λ x. x.position) found.items) c.in_ok-rows.was
    (simp (to_z-of_z, c.ranges.seq) at c.moved_of.ensures))
    (λ t h. subst (AreThose (λ x. int_eq x.seq c.args.seq) t.moved)
    (sym c.as_slice.ensures.value ∙ (simp (to_z-of_z, c.ranges.seq) at c.in_ok-things.ensures.rows)) h.0)
