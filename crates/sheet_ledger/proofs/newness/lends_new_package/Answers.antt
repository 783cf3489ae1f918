-- Without a target nothing is lent.
use Rattle.std.proofs.Common.{◌∙◌, ap, unwrap_or, []}
use Rattle.std.specs.Ordering.{nat_cmp}
use Rattle.std.specs.Cmp.Lexicographic.{slice_cmp}
use Rattle.std.specs.BTreeSet.{contains}
use Rattle.sheet_types.specs.Custody.{ends_at}
use Rattle.sheet_ledger.proofs.Walking.{says_yes}
use Rattle.sheet_ledger.proofs.newness.lends_new_package.Goals as goal

pub returns-in-None : goal.returns-in-None
returns-in-None c =
    says_yes (λ _. (
      ap (λ o. contains (slice_cmp nat_cmp) c.args.lent.now (unwrap_or o [])) c.in-None.is
          ∙ c.requires,
      ap (λ o. ends_at o c.args.archive) c.in-None.is,
    ))
