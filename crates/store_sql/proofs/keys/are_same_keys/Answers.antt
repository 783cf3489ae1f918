use Rattle.store_sql.specs.Spelling.{HasKey}
use Rattle.store_sql.proofs.Both.{two}
use Rattle.store_sql.proofs.Spelling.{all_mapped, all_unmapped}
use Rattle.store_sql.proofs.keys.are_same_keys.Goals as goal

pub returns : goal.returns
returns c =
    let it = two _ _ c.are_keys_of.ensures c.have_keys.ensures in (
      λ yes. let both = it.0 yes in (
        both.0,
        all_mapped (HasKey c.args.uniques.now) (λ u. u.now) c.args.forms.now
            both.1,
      ),
      λ same. it.1 (same.0, all_unmapped (HasKey c.args.uniques.now) (λ u. u.now) c.args.forms.now same.1),
    )
