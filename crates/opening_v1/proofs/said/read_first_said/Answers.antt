use Rattle.std.proofs.Common.{sym, subst, pos}
use Rattle.std.specs.Prelude.{map, option_map}
use Rattle.store_sql.specs.Writing.{AreKeyed}
use Rattle.package_tables.specs.Damaged.{ReadsClaims}
use Rattle.package_schema.specs.Heads.{head_said, claim_said, ReadsHeadAt}
use Rattle.package_schema.proofs.Seeing.{seen, seen_then, sees}
use Rattle.opening_survey.proofs.Passing.{has_passages}
use Rattle.opening_v1.specs.Surveying.{IsFirstSaid}
use Rattle.opening_v1.proofs.said.read_first_said.Goals as goal

pub returns : goal.returns
returns g c =
    sees (λ db s. AreKeyed db → IsFirstSaid db s)
    (seen_then (λ db found. AreKeyed db → ReadsClaims db (map claim_said found.items))
    (seen (λ db found. AreKeyed db → ReadsHeadAt (pos 1) db (option_map head_said found)) c.in_ok-found.was
    c.head_at.ensures) c.in_ok-read.was c.claims.ensures)
    (λ db told keyed. record {
      head = subst (ReadsHeadAt (pos 1) db) (sym c.head_told.ensures) (told.0 keyed);
      claims = has_passages db c.in_ok-read.read.items c.in_ok-told.told.items (told.1 keyed)
          c.in_ok-told.ensures;
    })
