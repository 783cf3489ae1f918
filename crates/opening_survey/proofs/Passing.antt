-- Of the claims that were read the splits and merges are taken.
use Rattle.std.proofs.Common.{◌≡◌, ◌∙◌, List, map, filter, refl, sym, ap}
use Rattle.sqlite.specs.Effect.{Database}
use Rattle.sqlite_trees.proofs.ListLemmas.{map-map}
use Rattle.opening_faults.specs.Passages.{is_passage, passages}
use Rattle.opening_faults.specs.Sights as opening
use Rattle.opening_faults.specs.declared.sights.StoreClaim.{StoreClaim}
use Rattle.opening_faults.proofs.Carried.{filter_seen}
use Rattle.package_tables.specs.Damaged.{ReadsClaims}
use Rattle.package_schema.specs.Heads.{claim_said}
use Rattle.package_schema.specs.declared.claims.StoreClaim.{StoreClaim as ReadClaim}
use Rattle.opening_survey.specs.Surveying.{claim_told, passages_told, HasPassages}

pub has_passages : (db : Database) (read : List ReadClaim) (told : List StoreClaim)
    → ReadsClaims db (map claim_said read) → told ≡ passages_told read → HasPassages db told
has_passages db read told reads is = record {
  claims = map claim_said read;
  reads = reads;
  taken = ap (map opening.claim_said) is
      ∙ sym (filter_seen opening.claim_said (λ c. is_passage (opening.claim_said c)) is_passage (λ c. refl)
      (map claim_told read))
      ∙ ap passages (map-map opening.claim_said claim_told read);
}
