use Rattle.std.proofs.Common.{◌<◌, length, rules}
use Rattle.desk_replies.proofs.ListFacts.{list_step}
use Rattle.desk_replies.proofs.packages.list_body.Goals as goal

pub packages-preserved : goal.packages-preserved
packages-preserved c =
    let within : c.packages.package-index < length c.args.packages.now = search rules in
    record {
      text = list_step _ _ _ _ _ _ _ _ within c.package-item.is c.loans_among-loans.ensures
          c.in_ok-push_listed.ensures c.packages.invariant.text;
    }
