use Rattle.std.proofs.Common.{rules, ◌≡◌, IsTrue}
use Rattle.std.specs.Prelude.{◌↔◌, Any}
use Rattle.store_sql.proofs.keys.has_place.Goals as goal

pub returns : goal.returns
returns c =
    let any : IsTrue c.any.result ↔ Any (λ q. q ≡ c.args.place) c.args.key.now = search rules in
    (λ yes. record { one = any.0 yes }, λ h. any.1 h.one)
