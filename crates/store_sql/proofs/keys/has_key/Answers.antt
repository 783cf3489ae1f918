use Rattle.std.proofs.Common.{rules, ◌≡◌, IsTrue}
use Rattle.std.specs.Prelude.{◌↔◌, Any}
use Rattle.store_sql.specs.Spelling.{IsSameKey}
use Rattle.store_sql.proofs.keys.has_key.Goals as goal

pub returns : goal.returns
returns c =
    let any : IsTrue c.any.result ↔ Any (λ k. IsSameKey c.args.meant.now k) c.args.uniques.now = search rules in
    (λ yes. record { one = any.0 yes }, λ h. any.1 h.one)
