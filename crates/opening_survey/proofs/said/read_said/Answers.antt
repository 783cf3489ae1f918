use Rattle.std.proofs.Common.{sym, subst}
use Rattle.std.specs.Prelude.{map, option_map}
use Rattle.store_sql.specs.Writing.{AreKeyed}
use Rattle.package_tables.specs.Damaged.{ReadsClaims}
use Rattle.package_schema.specs.Heads.{head_said, claim_said, ReadsHead}
use Rattle.package_schema.proofs.Seeing.{seen, seen_then, sees}
use Rattle.opening_survey.specs.Surveying.{IsSaid}
use Rattle.opening_survey.proofs.Passing.{has_passages}
use Rattle.opening_survey.proofs.said.read_said.Goals as goal

pub returns : goal.returns
returns g c =
    sees (λ db s. AreKeyed db → IsSaid db s)
    (seen_then (λ db found. AreKeyed db → ReadsClaims db (map claim_said found.items))
    (seen (λ db found. AreKeyed db → ReadsHead db (option_map head_said found)) c.in_ok-found.was c.head.ensures)
    c.in_ok-read.was c.claims.ensures)
    (λ db told keyed. record {
      head = subst (ReadsHead db) (sym c.head_told.ensures) (told.0 keyed);
      claims = has_passages db c.in_ok-read.read.items c.in_ok-told.told.items (told.1 keyed)
          c.in_ok-told.ensures;
    })
